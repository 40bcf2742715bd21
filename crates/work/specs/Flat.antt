-- One tick over the words and the times. Not for readers of document 01: crate `refine` proves that it gives what the rules give.
use Rattle.std.specs.Prelude.{Bool, true, false, cond, ◌&&◌, ◌||◌, Option, None, Some, List, ℕ, zero, suc, ◌+◌, ◌-◌, leb, ltb, eqb, Float, get_or, set, length}
use Rattle.std.specs.Float.{Format}
use Rattle.std.specs.Float.Ieee.{add, sub, le, lt}
use Rattle.rules.specs.declared.behavior.Kind.{Kind}
use Rattle.rules.specs.declared.behavior.Kind.TheVariants.{Wait, WaitForever, Action, Invert, AlwaysSucceed, Timeout, Select, If, Sequence}
use Rattle.rules.specs.declared.behavior.Kind.TheVariants.{MemorylessSequence, MemorylessSelector, While, WhileAll, WhenAll, WhenAny, After, Race}
use Rattle.rules.specs.declared.status.Status.{Status}
use Rattle.rules.specs.declared.status.Status.TheVariants as status
use Rattle.rules.specs.Kinds.{is, most}
use Rattle.rules.specs.Tree.{zero_time}
use Rattle.rules.specs.Outcome.{exchanged, always_succeed, largest, smaller, byte, status_of}
use Rattle.work.specs.declared.result.Seen.{Seen}
use Rattle.work.specs.declared.result.Visit.{Visit}
use Rattle.work.specs.declared.reads.Reads.{Reads}
use Rattle.work.specs.declared.result.Seen.TheVariants.{Stopped, Running, Success, Failure}
use Rattle.work.specs.Word.{kind_in, place_of, mark_of}
use Rattle.work.specs.Array.{word_at, time_at, number_at, fuel_of, used_of, updates, passed, end_of, set_place, set_seen}
use Rattle.work.specs.Array.{set_mark, fresh_words, fresh_times, child_from, index_after, child_after, up_on}

-- what was seen, leftover, words, times
pub data Out : Type 0 where
  out : Seen → Float → List ℕ → List Float → Out

-- what a tick only reads: limits and answers
pub record Lent : Type 0 where
  pub limits : List Float
  pub statuses : List ℕ
  pub leftovers : List Float

abbrev pub lent : List Float → List ℕ → List Float → Lent
lent a b c = record { limits = a; statuses = b; leftovers = c }

abbrev pub lent_in : Reads → Lent
lent_in r = lent r.limits.now r.statuses.now r.leftovers.now

abbrev pub Step : Type 0
Step = List ℕ → List Float → Out

-- what visits the node at a place with a dt
abbrev pub Visitor : Type 0
Visitor = ℕ → Float → Step

abbrev pub seen_as : Status → Seen
seen_as status.Running = Running
seen_as status.Success = Success
seen_as status.Failure = Failure

abbrev pub seen_no : Seen → ℕ
seen_no Stopped = 0
seen_no Running = 1
seen_no Success = 2
seen_no Failure = 3

abbrev pub result_of : Seen → Float → Visit
result_of s l = record { seen = s; left = l }

-- AlwaysSucceed
abbrev pub succeeded : Seen → Seen
succeeded Stopped = Stopped
succeeded Running = Running
succeeded Success = Success
succeeded Failure = Success

abbrev pub stopped : Step
stopped ws ts = out Stopped zero_time ws ts

abbrev pub waiting : Step
waiting ws ts = out Running zero_time ws ts

-- what follows a result; nothing follows a stop
abbrev pub and_then : Out → (Status → Float → Step) → Out
and_then (out Stopped l ws ts) k = out Stopped l ws ts
and_then (out Running l ws ts) k = k status.Running l ws ts
and_then (out Success l ws ts) k = k status.Success l ws ts
and_then (out Failure l ws ts) k = k status.Failure l ws ts

-- Success and Failure exchanged, or not
abbrev pub turned : Bool → Seen → Seen
turned x Stopped = Stopped
turned x Running = Running
turned x Success = cond x Failure Success
turned x Failure = cond x Success Failure

abbrev pub turn_out : Bool → Out → Out
turn_out x (out s l ws ts) = out (turned x s) l ws ts

abbrev pub turning : Bool → Visitor → Visitor
turning x v q dt ws ts = turn_out x (v q dt ws ts)

-- no children: Wait, WaitForever and Action
abbrev pub is_leaf : Kind → Bool
is_leaf k = eqb (most k) 0

abbrev pub is_decorator : Kind → Bool
is_decorator k = eqb (most k) 1

-- the kinds that are another with Success and Failure exchanged
abbrev pub exchanges_of : Kind → Bool
exchanges_of k = is k Select || is k MemorylessSelector || is k WhenAny

-- If's choice: none yet, on success, on failure
abbrev pub choice_of : Seen → Option ℕ
choice_of Stopped = None
choice_of Running = None
choice_of Success = Some 1
choice_of Failure = Some 2

-- the status goes onto the board
abbrev pub seen : ℕ → Out → Out
seen p o = and_then o λ s l ws ts. out (seen_as s) l (set_seen ws p (byte s)) ts

-- ---- leaves
module _ (F : Format) (T : Lent) where
  unfoldable pub wait : Visitor
  wait p dt ws ts = cond (updates ws)
      (let now = add F (time_at ts p) dt in
      let limit = number_at T.limits p in
      cond (le limit now) (out Success (sub F now limit) ws (set ts p limit)) (waiting ws (set ts p now)))
      (waiting ws ts)

  unfoldable pub action : Visitor
  action p dt ws ts =
      let used = used_of ws in
      cond (ltb used (length T.statuses) && (ltb used (length T.leftovers) && ltb used 4294967295))
      (out (seen_as (status_of (get_or T.statuses used 0))) (number_at T.leftovers used) (set ws 257 (used + 1)) ts)
      (out Stopped (passed ws dt) (set ws 258 (p + 1)) ts)

  -- Wait, Action and WaitForever
  unfoldable pub leaf : Kind → Visitor
  leaf k p dt ws ts = cond (is k Wait) (wait p dt ws ts) (cond (is k Action) (action p dt ws ts) (waiting ws ts))

  -- one of the fuel, the leaf's rule, and its status on the board
  unfoldable pub visit_leaf : Kind → Visitor
  visit_leaf k p dt ws ts = cond (eqb (fuel_of ws) 0) (stopped ws ts) (seen p (leaf k p dt (set ws 256 (fuel_of ws - 1)) ts))

  -- Timeout, while its child is Running
  unfoldable pub times_out : Visitor
  times_out p dt ws ts =
      let now = add F (time_at ts p) (passed ws dt) in
      let limit = number_at T.limits p in
      cond (le limit now) (out Failure (sub F now limit) ws (set ts p now)) (waiting ws (set ts p now))

  -- a decorator's rule, once its child has given a result
  unfoldable pub decorated : ℕ → Float → Status → Float → Step
  decorated p dt s l ws ts =
      let k = kind_in (word_at ws p) in
      cond (is k Invert) (out (seen_as (exchanged s)) l ws ts)
      (cond (is k Timeout)
      (elim s [
        | status.Running ↦ times_out p dt ws ts
        | status.Success ↦ out Success l ws ts
        | status.Failure ↦ out Failure l ws ts
      ])
      (out (seen_as (always_succeed s)) l ws ts))

-- ---- what a driver does with the result of a child; `again` goes on with the next
-- Sequence: the child i, which is at q, of the node at p
abbrev pub sequence_on : ℕ → ℕ → (ℕ → ℕ → Float → Step) → ℕ → ℕ → Status → Float → Step
sequence_on p stop again q i status.Running l ws ts = waiting (set_place ws p i) ts
sequence_on p stop again q i status.Failure l ws ts = out Failure l (set_place ws p i) ts
sequence_on p stop again q i status.Success l ws ts =
    let next = end_of ws q in
    let behind = end_of ws next in
    let ws' = fresh_words q (behind - q) ws in
    let ts' = fresh_times q (behind - q) ts in
    cond (leb stop next)
    (out Success l (set_place ws p (up_on (updates ws) i)) ts)
    (cond (updates ws) (again next (i + 1) l ws' ts') (waiting (set_place ws' p (i + 1)) ts'))

-- memoryless, over children that are fresh: the child from q to next
abbrev pub memoryless_on : ℕ → Visitor → ℕ → ℕ → Status → Float → Step
memoryless_on stop again q next status.Running l ws ts = waiting ws ts
memoryless_on stop again q next status.Failure l ws ts = out Failure l ws ts
memoryless_on stop again q next status.Success l ws ts = cond (leb stop next)
    (out Success (passed ws l) ws ts)
    (again next l (fresh_words q (next - q) ws) (fresh_times q (next - q) ts))

-- WhenAll: `all`: each child so far is marked; `least`: the least leftover so far
abbrev pub when_all_on : (ℕ → Bool → Float → Step) → ℕ → ℕ → Bool → Float → Status → Float → Step
when_all_on again q next all least status.Running l ws ts = again next false least ws ts
when_all_on again q next all least status.Failure l ws ts = out Failure l ws ts
when_all_on again q next all least status.Success l ws ts =
    again next all (smaller least l) (set_mark (fresh_words q (next - q) ws) q) (fresh_times q (next - q) ts)

abbrev pub race_on : (ℕ → Step) → ℕ → Status → Float → Step
race_on again next status.Running l ws ts = again next ws ts
race_on again next status.Success l ws ts = out Success l ws ts
race_on again next status.Failure l ws ts = out Failure l ws ts

-- After: `none`: no child so far is Running
abbrev pub after_on : ℕ → (ℕ → ℕ → Bool → Float → Step) → ℕ → ℕ → Bool → Float → Status → Float → Step
after_on p again next i none least status.Running l ws ts = again next i false zero_time ws ts
after_on p again next i none least status.Failure l ws ts = out Failure l (set_place ws p i) ts
after_on p again next i none least status.Success l ws ts = cond (none && lt l least)
    (again next (i + 1) true l ws ts)
    (out Failure (smaller least l) (set_place ws p i) ts)

-- loops: the child at q has succeeded, and it and the one that is next in the body are made fresh
unfoldable pub moved : ℕ → ℕ → (ℕ → ℕ → Step) → ℕ → ℕ → Step
moved stop body again q i ws ts =
    let next = end_of ws q in
    let ws' = fresh_words q (next - q) ws in
    let ts' = fresh_times q (next - q) ts in
    let q' = child_after next stop body in
    let behind = end_of ws' q' in
    again q' (index_after i next stop) (fresh_words q' (behind - q') ws') (fresh_times q' (behind - q') ts')

abbrev pub while_on : ℕ → ℕ → ℕ → (ℕ → ℕ → Float → Step) → ℕ → ℕ → Status → Float → Step
while_on p stop body again q i status.Running l ws ts = waiting (set_place ws p i) ts
while_on p stop body again q i status.Failure l ws ts = out Failure l (set_place ws p i) ts
while_on p stop body again q i status.Success l ws ts = cond (updates ws)
    (moved stop body (λ q i. again q i l) q i ws ts)
    (waiting (set_place ws p i) ts)

-- While's condition, which is visited first
abbrev pub while_holds : Step → Status → Float → Step
while_holds again status.Running l ws ts = again ws ts
while_holds again status.Success l ws ts = out Success l ws ts
while_holds again status.Failure l ws ts = out Failure l ws ts

abbrev pub while_all_on : ℕ → ℕ → ℕ → (ℕ → ℕ → Float → Step) → ℕ → ℕ → Status → Float → Step
while_all_on p stop body again q i status.Running l ws ts = waiting (set_place ws p i) ts
while_all_on p stop body again q i status.Failure l ws ts = out Failure l (set_place ws p i) ts
while_all_on p stop body again q i status.Success l ws ts = moved stop body (λ q i. again q i l) q i ws ts

-- WhileAll's condition, which is due at place 0
abbrev pub while_all_holds : ℕ → Step → Status → Float → Step
while_all_holds p again status.Running l ws ts = again ws ts
while_all_holds p again status.Success l ws ts = out Success l (set_place ws p 1) ts
while_all_holds p again status.Failure l ws ts = out Failure l (set_place ws p 1) ts

-- If's condition; `again` is the branch that it chooses
abbrev pub if_on : (ℕ → Float → Step) → Status → Float → Step
if_on again status.Running l ws ts = out Running l ws ts
if_on again status.Success l ws ts = again 1 l ws ts
if_on again status.Failure l ws ts = again 2 l ws ts

-- ---- the drivers, over what visits the children
module _ (v : Visitor) where
  unfoldable pub sequence_go : ℕ → ℕ → ℕ → ℕ → ℕ → Float → Step
  sequence_go p stop zero q i dt ws ts = stopped ws ts
  sequence_go p stop (suc k) q i dt ws ts = and_then (v q dt ws ts) (sequence_on p stop (sequence_go p stop k) q i)

  unfoldable pub sequence : Visitor
  sequence p dt ws ts =
      let stop = end_of ws p in
      let i = place_of (word_at ws p) in
      let q = child_from ws stop i (p + 1) in
      cond (leb stop q) (waiting ws ts) (sequence_go p stop 256 q i dt ws ts)

  unfoldable pub memoryless_go : ℕ → ℕ → Visitor
  memoryless_go stop zero q dt ws ts = stopped ws ts
  memoryless_go stop (suc k) q dt ws ts =
      let next = end_of ws q in
      and_then (v q dt ws ts) (memoryless_on stop (memoryless_go stop k) q next)

  unfoldable pub memoryless : Visitor
  memoryless p dt ws ts =
      let stop = end_of ws p in
      let q = p + 1 in
      cond (leb stop q) (out Success (passed ws dt) ws ts) (memoryless_go stop 256 q dt (fresh_words q (stop - q) ws) (fresh_times q (stop - q) ts))

  unfoldable pub when_all_go : ℕ → Float → ℕ → ℕ → Bool → Float → Step
  when_all_go stop dt zero q all least ws ts = cond all (out Success least ws ts) (waiting ws ts)
  when_all_go stop dt (suc k) q all least ws ts =
      let next = end_of ws q in
      cond (ltb q stop)
      (cond (eqb (mark_of (word_at ws q)) 0)
      (and_then (v q dt ws ts) (when_all_on (when_all_go stop dt k) q next all least))
      (when_all_go stop dt k next all least ws ts))
      (cond all (out Success least ws ts) (waiting ws ts))

  unfoldable pub when_all : Float → Visitor
  when_all top p dt ws ts =
      let stop = end_of ws p in
      cond (leb stop (p + 1)) (out Success (passed ws dt) ws ts) (when_all_go stop dt 256 (p + 1) true top ws ts)

  unfoldable pub race_go : ℕ → Float → ℕ → ℕ → Step
  race_go stop dt zero q ws ts = waiting ws ts
  race_go stop dt (suc k) q ws ts =
      let next = end_of ws q in
      cond (ltb q stop)
      (and_then (v q dt ws ts) (race_on (race_go stop dt k) next))
      (waiting ws ts)

  unfoldable pub race : Visitor
  race p dt ws ts = race_go (end_of ws p) dt 256 (p + 1) ws ts

  unfoldable pub after_over : ℕ → ℕ → Bool → Float → Step
  after_over p i none least ws ts = cond none (out Success least (set_place ws p i) ts) (waiting (set_place ws p i) ts)

  unfoldable pub after_go : ℕ → ℕ → Float → ℕ → ℕ → ℕ → Bool → Float → Step
  after_go p stop dt zero q i none least ws ts = after_over p i none least ws ts
  after_go p stop dt (suc k) q i none least ws ts =
      let next = end_of ws q in
      cond (ltb q stop)
      (and_then (v q dt ws ts) (after_on p (after_go p stop dt k) next i none least))
      (after_over p i none least ws ts)

  unfoldable pub after : Float → Visitor
  after top p dt ws ts =
      let stop = end_of ws p in
      let i = place_of (word_at ws p) in
      after_go p stop dt 256 (child_from ws stop i (p + 1)) i true top ws ts

  -- ---- loops, at most once for each of the fuel
  unfoldable pub while_go : ℕ → ℕ → ℕ → ℕ → ℕ → ℕ → Float → Step
  while_go p stop body zero q i dt ws ts = stopped ws ts
  while_go p stop body (suc k) q i dt ws ts = cond (ltb q stop)
      (and_then (v q dt ws ts) (while_on p stop body (while_go p stop body k) q i))
      (stopped ws ts)

  -- the body, from the place on
  abbrev pub while_body : ℕ → Float → Step
  while_body p dt ws ts =
      let stop = end_of ws p in
      let body = end_of ws (p + 1) in
      let i = place_of (word_at ws p) in
      while_go p stop body (fuel_of ws) (child_from ws stop i body) i dt ws ts

  -- `while` is a word of antt's
  unfoldable pub while_loop : Visitor
  while_loop p dt ws ts = cond (ltb p 255)
      (and_then (v (p + 1) dt ws ts) (while_holds (while_body p dt)))
      (stopped ws ts)

  -- WhileAll: the condition, which is due at place 0, gets the whole dt, and the body the rest
  unfoldable pub while_all_go : ℕ → ℕ → ℕ → Float → ℕ → ℕ → ℕ → Float → Step
  while_all_go p stop body whole zero q i dt ws ts = stopped ws ts
  while_all_go p stop body whole (suc k) q i dt ws ts = cond (eqb i 0)
      (and_then (v (p + 1) whole ws ts) (while_all_holds p (while_all_go p stop body whole k body 1 dt)))
      (cond (ltb q stop)
      (and_then (v q dt ws ts) (while_all_on p stop body (while_all_go p stop body whole k) q i))
      (stopped ws ts))

  unfoldable pub while_all : Visitor
  while_all p dt ws ts = cond (ltb p 255)
      (let stop = end_of ws p in
      let i = place_of (word_at ws p) in
      while_all_go p stop (end_of ws (p + 1)) dt (fuel_of ws) (child_from ws stop i (p + 1)) i dt ws ts)
      (stopped ws ts)

  -- ---- If
  -- child i of the node at p, which ends at stop
  unfoldable pub branch : ℕ → ℕ → ℕ → Float → Step
  branch p stop i dt ws ts =
      let q = child_from ws stop i (p + 1) in
      cond (ltb q stop) (v q dt ws ts) (stopped ws ts)

  -- the condition and the branch i are made fresh, and the branch gets the rest
  unfoldable pub chosen : ℕ → ℕ → ℕ → Float → Step
  chosen p stop i dt ws ts =
      let q = p + 1 in
      let behind = end_of ws q in
      let ws' = set_place (fresh_words q (behind - q) ws) p i in
      let ts' = fresh_times q (behind - q) ts in
      let b = child_from ws' stop i q in
      let behind' = end_of ws' b in
      branch p stop i dt (fresh_words b (behind' - b) ws') (fresh_times b (behind' - b) ts')

  unfoldable pub if_node : Visitor
  if_node p dt ws ts =
      let stop = end_of ws p in
      let i = place_of (word_at ws p) in
      cond (eqb i 0)
      (cond (ltb p 255)
      (and_then (v (p + 1) dt ws ts) (if_on (chosen p stop)))
      (stopped ws ts))
      (branch p stop i dt ws ts)

-- ---- the rule of each kind, and a visit
module _ (F : Format) (T : Lent) where
  -- Invert, AlwaysSucceed, Timeout
  unfoldable pub decorator : Visitor → Visitor
  decorator v p dt ws ts = cond (ltb p 255) (and_then (v (p + 1) dt ws ts) (decorated F T p dt)) (stopped ws ts)

  unfoldable pub by_kind : Visitor → Kind → Visitor
  by_kind v Wait p dt ws ts = leaf F T Wait p dt ws ts
  by_kind v WaitForever p dt ws ts = leaf F T WaitForever p dt ws ts
  by_kind v Action p dt ws ts = leaf F T Action p dt ws ts
  by_kind v Invert p dt ws ts = decorator v p dt ws ts
  by_kind v AlwaysSucceed p dt ws ts = decorator v p dt ws ts
  by_kind v Timeout p dt ws ts = decorator v p dt ws ts
  by_kind v If p dt ws ts = if_node v p dt ws ts
  by_kind v Sequence p dt ws ts = turn_out false (sequence (turning false v) p dt ws ts)
  by_kind v Select p dt ws ts = turn_out true (sequence (turning true v) p dt ws ts)
  by_kind v MemorylessSequence p dt ws ts = turn_out false (memoryless (turning false v) p dt ws ts)
  by_kind v MemorylessSelector p dt ws ts = turn_out true (memoryless (turning true v) p dt ws ts)
  by_kind v While p dt ws ts = while_loop v p dt ws ts
  by_kind v WhileAll p dt ws ts = while_all v p dt ws ts
  by_kind v WhenAll p dt ws ts = turn_out false (when_all (turning false v) (largest F) p dt ws ts)
  by_kind v WhenAny p dt ws ts = turn_out true (when_all (turning true v) (largest F) p dt ws ts)
  by_kind v After p dt ws ts = after v (largest F) p dt ws ts
  by_kind v Race p dt ws ts = race v p dt ws ts

  -- a child: a leaf gives its result at once
  unfoldable pub visit : Visitor → Visitor
  visit tk p dt ws ts =
      let k = kind_in (word_at ws p) in
      cond (is_leaf k) (visit_leaf F T k p dt ws ts) (tk p dt ws ts)

  -- one of the fuel, the node's rule, and its status on the board; `depth` levels are left
  unfoldable pub tick : ℕ → Visitor
  tick zero p dt ws ts = stopped ws ts
  tick (suc depth) p dt ws ts = cond (eqb (fuel_of ws) 0)
      (stopped ws ts)
      (seen p (by_kind (visit (tick depth)) (kind_in (word_at ws p)) p dt (set ws 256 (fuel_of ws - 1)) ts))

-- what visits the children of a node that has `depth` levels below it
abbrev pub visiting : Format → Lent → ℕ → Visitor
visiting F T depth = visit F T (tick F T depth)
