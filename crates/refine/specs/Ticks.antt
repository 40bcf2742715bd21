-- A visit of the flat tick gives what a visit by the rules gives.
use Rattle.std.specs.Prelude.{◌≡◌, Bool, cond, List, ℕ, zero, suc, ◌+◌, ◌-◌, ◌≤◌, ◌<◌, length}
use Rattle.std.proofs.Math.Path.{refl}
use Rattle.std.proofs.Common.{◌∙◌, not-suc-le-zero}
use Rattle.std.proofs.Math.Bool.{true, false}
use Rattle.std.proofs.Math.Numerals.{add-one}
use Rattle.std.proofs.Math.Decide.{dec_lt}
use native.Mathlib.Omega.{arith}
use Rattle.std.proofs.Math.Dec.{eqb-suc-zero}
use Rattle.std.specs.Float.Ieee.{Float, add, sub, le}
use Rattle.std.specs.Float.{Format}
use Rattle.std.proofs.Math.ListN.{set}
use borrow.Author.Tests.{lt-ltb, le-ltb}
use Rattle.rules.specs.declared.behavior.Kind.{Kind}
use Rattle.rules.specs.declared.behavior.Kind.TheVariants.{Wait, WaitForever, Action, Invert, AlwaysSucceed, Timeout, Select, If, Sequence}
use Rattle.rules.specs.declared.behavior.Kind.TheVariants.{MemorylessSequence, MemorylessSelector, While, WhileAll, WhenAll, WhenAny, After, Race}
use Rattle.rules.specs.declared.status.Status.{Status}
use Rattle.rules.specs.declared.status.Status.TheVariants.{Running, Success, Failure}
use Rattle.rules.specs.Tree.{Cell, with_time, Tree, node, Forest, [], ◌◂◌}
use Rattle.rules.specs.Outcome.{dt, event_of, Ticker, exchanged, always_succeed, largest, byte}
use Rattle.rules.specs.State.{rule, tick}
use Rattle.work.specs.declared.result.Seen.TheVariants.{Stopped}
use Rattle.work.specs.declared.result.Seen.TheVariants as seen
use Rattle.work.specs.Word.{kind_in}
use Rattle.work.specs.Array.{word_at, passed, set_seen}
use Rattle.work.specs.Flat.{out, Visitor, seen_as, wait, action, leaf, visit_leaf, decorated, by_kind, visit}
use Rattle.work.specs.Flat as flat
use Rattle.refine.specs.Runs.{run, fuel_in_lem, used_in, burnt_in, answered_in, asking_in, updates_in, passed_in}
use Rattle.refine.specs.Stand.{Given, at_room}
use Rattle.refine.specs.Frame.{Frame, nodes_in, words_in, times_in, First, full_length, kind_in_lem, seen_put, time_in_lem, time_put}
use Rattle.refine.specs.Sim.{Asked, Sim, world_at, event, went, unspent, sim_bind, sim_either, stopped_in, on, tree, Ticks, Dry}
use Rattle.refine.specs.Answers.{answer_at, no_status, no_leftover}
use Rattle.refine.specs.Rules.{lent_of, Node, node_of, cell_at, left, if_rule, sequence_rule, memoryless_rule, when_all_rule, after_rule, race_rule, only_rule, timeout_rule}
use Rattle.refine.specs.Rules.{while_rule, while_all_rule}

-- ---- leaves
module _ (F : Format) (child : Ticker) {G : Given} {d : ℕ} {k : Kind} {ts : Forest} (N : Node G d k ts) (x : Float) (f u : ℕ) where
  abbrev all : Forest
  all = node_of N (cell_at N N.cell.place) ts ◂ N.us

  full : length (nodes_in N.fr all) ≡ 256
  full = full_length N.fr all ((N.stands, N.below), N.behind)

  wait_rule : u + f ≤ G.fuel
      → Sim (suc f) (left N) (rule F child Wait N.n N.limit (cell_at N N.cell.place) (event G x) ts (world_at G f u)) (on N.fr all f u (wait F (lent_of G) N.fr.q x))
  unfolding rule wait run
  wait_rule e =
      let now : Float = add F N.cell.time x in
      rw (
        updates_in (nodes_in N.fr all) full G.update f u,
        time_in_lem N.fr N.us k N.n N.limit N.cell N.board ts,
        N.stands.row.limit,
        time_put N.fr N.us k N.n N.limit N.cell N.board ts N.limit,
        time_put N.fr N.us k N.n N.limit N.cell N.board ts now,
      )
      (by G.update)
    where
      by : (b : Bool) → Sim (suc f) (left N) (rule F child Wait N.n N.limit (cell_at N N.cell.place) (event_of b x) ts (world_at G f u)) (cond b
          (cond (le N.limit (add F N.cell.time x))
          (out seen.Success (sub F (add F N.cell.time x) N.limit) (words_in N.fr all f u) (times_in N.fr (node_of N (with_time N.limit N.cell) ts ◂ N.us)))
          (flat.waiting (words_in N.fr all f u) (times_in N.fr (node_of N (with_time (add F N.cell.time x) N.cell) ts ◂ N.us))))
          (flat.waiting (words_in N.fr all f u) (times_in N.fr all)))
      by true = sim_either (left N) (suc f) (le N.limit (add F N.cell.time x)) _ _ _ _
          (went u (unspent f u e) (N.stands, N.below) refl refl)
          (went u (unspent f u e) (N.stands, N.below) refl refl)
      by false = went u (unspent f u e) (N.stands, N.below) refl refl

  action_rule : u + suc f ≤ G.fuel
      → Sim (suc f) (left N) (rule F child Action N.n N.limit (cell_at N N.cell.place) (event G x) ts (world_at G f u)) (on N.fr all f u (action F (lent_of G) N.fr.q x))
  unfolding rule action run
  action_rule e =
      let none : Asked G N.n (dt (event G x)) (out Stopped (passed (words_in N.fr all f u) x) (set (words_in N.fr all f u) 258 (N.fr.q + 1)) (times_in N.fr all)) = record {
        place = N.fr.q;
        within = omega (arith, at_room G N.fr.q (node_of N (cell_at N N.cell.place) ts) (suc d) (N.stands, N.below));
        number = N.stands.row.number;
        stop = record {
          words = set (words_in N.fr all f u) 258 (N.fr.q + 1);
          times = times_in N.fr all;
          asked = asking_in (nodes_in N.fr all) full G.update f u (N.fr.q + 1) ∙ add-one N.fr.q;
          is = rw (passed_in (nodes_in N.fr all) full G.update f u x);
        };
      } in
      rw (used_in (nodes_in N.fr all) full G.update f u) (elim (dec_lt u (length G.statuses)) [
        | no i ↦ rw (le-ltb u (length G.statuses) (omega arith), no_status u G.statuses G.leftovers (omega arith)) none
        | yes i ↦ elim (dec_lt u (length G.leftovers)) [
          | no j ↦ rw (lt-ltb u (length G.statuses) i, le-ltb u (length G.leftovers) (omega arith), no_leftover u G.statuses G.leftovers (omega arith)) none
          | yes j ↦ rw (
            lt-ltb u (length G.statuses) i,
            lt-ltb u (length G.leftovers) j,
            lt-ltb u 4294967295 (omega (arith, G.small)),
            answer_at u G.statuses G.leftovers i j,
            add-one u,
            answered_in (nodes_in N.fr all) full G.update f u (suc u),
          )
              (went (suc u) (record { burnt = omega arith; few = omega arith }) (N.stands, N.below) refl refl)
        ]
      ])

-- ---- the rule of each kind
module _ (F : Format) (G : Given) (q : ℕ) (x : Float) (s : Status) (r : Float) (ws : List ℕ) (ts : List Float) where
  inverted : kind_in (word_at ws q) ≡ Invert → decorated F (lent_of G) q x s r ws ts ≡ out (seen_as (exchanged s)) r ws ts
  unfolding decorated
  inverted z = rw z

  succeeded : kind_in (word_at ws q) ≡ AlwaysSucceed → decorated F (lent_of G) q x s r ws ts ≡ out (seen_as (always_succeed s)) r ws ts
  unfolding decorated
  succeeded z = rw z

rule_link : (F : Format) (G : Given) (d : ℕ) (child : Ticker) (w : Visitor) → Ticks G d child w → Dry child → (k : Kind) (ts : Forest) (N : Node G d k ts) (x : Float) (f u : ℕ)
    → u + suc f ≤ G.fuel
    → Sim (suc f) (left N) (rule F child k N.n N.limit (cell_at N N.cell.place) (event G x) ts (world_at G f u))
    (on N.fr (node_of N (cell_at N N.cell.place) ts ◂ N.us) f u (by_kind F (lent_of G) w k N.fr.q x))
unfolding rule by_kind leaf run
rule_link F G d child w g dry Wait ts N x f u e = wait_rule F child N x f u (omega arith)
rule_link F G d child w g dry WaitForever ts N x f u e = went u (unspent f u (omega arith)) (N.stands, N.below) refl refl
rule_link F G d child w g dry Action ts N x f u e = action_rule F child N x f u e
rule_link F G d child w g dry Invert [] N x f u e = absurd (not-suc-le-zero N.stands.row.enough)
rule_link F G d child w g dry Invert (c ◂ cs) N x f u e = only_rule N child w g x f u (omega arith) F exchanged (inverted F G N.fr.q x)
rule_link F G d child w g dry AlwaysSucceed [] N x f u e = absurd (not-suc-le-zero N.stands.row.enough)
rule_link F G d child w g dry AlwaysSucceed (c ◂ cs) N x f u e = only_rule N child w g x f u (omega arith) F always_succeed (succeeded F G N.fr.q x)
rule_link F G d child w g dry Timeout [] N x f u e = absurd (not-suc-le-zero N.stands.row.enough)
rule_link F G d child w g dry Timeout (c ◂ cs) N x f u e = timeout_rule N child w g x f u (omega arith) F refl
rule_link F G d child w g dry If ts N x f u e = if_rule N child w g x f u (omega arith) (omega (arith, N.stands.row.enough, N.stands.row.few))
rule_link F G d child w g dry Sequence ts N x f u e = sequence_rule N child w g x f u (omega arith) false
rule_link F G d child w g dry Select ts N x f u e = sequence_rule N child w g x f u (omega arith) true
rule_link F G d child w g dry MemorylessSequence ts N x f u e = memoryless_rule N child w g x f u (omega arith) false
rule_link F G d child w g dry MemorylessSelector ts N x f u e = memoryless_rule N child w g x f u (omega arith) true
rule_link F G d child w g dry While [] N x f u e = absurd (not-suc-le-zero N.stands.row.enough)
rule_link F G d child w g dry While (c ◂ cs) N x f u e = while_rule N child w g x f u (omega arith) F dry
rule_link F G d child w g dry WhileAll [] N x f u e = absurd (not-suc-le-zero N.stands.row.enough)
rule_link F G d child w g dry WhileAll (c ◂ cs) N x f u e = while_all_rule N child w g x f u (omega arith) dry (omega (arith, N.stands.row.enough))
rule_link F G d child w g dry WhenAll ts N x f u e = when_all_rule N child w g x f u (omega arith) false (largest F)
rule_link F G d child w g dry WhenAny ts N x f u e = when_all_rule N child w g x f u (omega arith) true (largest F)
rule_link F G d child w g dry After ts N x f u e = after_rule N child w g x f u (omega arith) (largest F)
rule_link F G d child w g dry Race ts N x f u e = race_rule N child w g x f u (omega arith)

-- ---- a visit; a leaf is visited as each node is
visit_is : (F : Format) (G : Given) (d : ℕ) (k : Kind) (q : ℕ) (x : Float) (ws : List ℕ) (ts : List Float)
    → kind_in (word_at ws q) ≡ k
    → visit F (lent_of G) (flat.tick F (lent_of G) (suc d)) q x ws ts ≡ flat.tick F (lent_of G) (suc d) q x ws ts
unfolding visit visit_leaf flat.tick by_kind
visit_is F G d Wait q x ws ts z = rw z
visit_is F G d WaitForever q x ws ts z = rw z
visit_is F G d Action q x ws ts z = rw z
visit_is F G d Invert q x ws ts z = rw z
visit_is F G d AlwaysSucceed q x ws ts z = rw z
visit_is F G d Timeout q x ws ts z = rw z
visit_is F G d Select q x ws ts z = rw z
visit_is F G d If q x ws ts z = rw z
visit_is F G d Sequence q x ws ts z = rw z
visit_is F G d MemorylessSequence q x ws ts z = rw z
visit_is F G d MemorylessSelector q x ws ts z = rw z
visit_is F G d While q x ws ts z = rw z
visit_is F G d WhileAll q x ws ts z = rw z
visit_is F G d WhenAll q x ws ts z = rw z
visit_is F G d WhenAny q x ws ts z = rw z
visit_is F G d After q x ws ts z = rw z
visit_is F G d Race q x ws ts z = rw z

visit_link : (F : Format) (G : Given) (d : ℕ) → Ticks G d (tick F d) (flat.tick F (lent_of G) d) → Ticks G d (tick F d) (visit F (lent_of G) (flat.tick F (lent_of G) d))
visit_link F G zero g fr (node k n l c bd ts) us x f u vs e = absurd vs.0
visit_link F G (suc d) g fr (node k n l c bd ts) us x f u vs e =
    let t : Tree = node k n l c bd ts in
    rw (visit_is F G d k fr.q x (words_in fr (t ◂ us) f u) (times_in fr (t ◂ us)) (kind_in_lem fr us f u k n l c bd ts)) (g fr t us x f u vs e)

tick_dry : (F : Format) (d : ℕ) → Dry (tick F d)
unfolding tick
tick_dry F zero t e ans = refl
tick_dry F (suc d) t e ans = refl

byte_small : (s : Status) → byte s < 4
byte_small Running = omega arith
byte_small Success = omega arith
byte_small Failure = omega arith

-- the status goes onto the board
seen_link : {G : Given} {d : ℕ} (fr : Frame G (suc d)) (k : Kind) (n : ℕ) (l : Float) (c : Cell) (bd : ℕ) (s : Status) (ts us : Forest) (f u : ℕ)
    → First fr (node k n l c bd ts)
    → First fr (node k n l c (byte s) ts)
    × (set_seen (words_in fr (node k n l c bd ts ◂ us) f u) fr.q (byte s) ≡ words_in fr (node k n l c (byte s) ts ◂ us) f u)
    × (times_in fr (node k n l c bd ts ◂ us) ≡ times_in fr (node k n l c (byte s) ts ◂ us))
unfolding run
seen_link fr k n l c bd s ts us f u v = (v, seen_put fr us f u k n l c bd ts (byte s) (byte_small s), refl)

one_less : (f : ℕ) → suc f - 1 ≡ f
one_less f = omega arith

-- the flat tick does what the tick does
pub tick_link : (F : Format) (G : Given) (d : ℕ) → Ticks G d (tick F d) (flat.tick F (lent_of G) d)
unfolding tick flat.tick run
tick_link F G zero fr (node k n l c bd ts) us x f u vs e = absurd vs.0
tick_link F G (suc d) fr (node k n l c bd ts) us x zero u vs e =
    let t : Tree = node k n l c bd ts in
    rw (fuel_in_lem (nodes_in fr (t ◂ us)) (full_length fr (t ◂ us) vs) G.update 0 u) (stopped_in fr (t ◂ us) vs 0 u)
tick_link F G (suc d) fr (node k n l c bd ts) us x (suc f) u vs e =
    let t : Tree = node k n l c bd ts in
    let full' : length (nodes_in fr (t ◂ us)) ≡ 256 = full_length fr (t ◂ us) vs in
    let N : Node G d k ts = record { fr = fr; us = us; n = n; limit = l; cell = c; board = bd; stands = vs.0.0; below = vs.0.1; behind = vs.1 } in
    rw (
      fuel_in_lem (nodes_in fr (t ◂ us)) full' G.update (suc f) u,
      eqb-suc-zero f,
      one_less f,
      kind_in_lem fr us (suc f) u k n l c bd ts,
      burnt_in (nodes_in fr (t ◂ us)) full' G.update (suc f) u f,
    )
    (sim_bind (left N) (suc f) (tree fr us) (suc f) (rule F (tick F d) k n l c (event G x) ts (world_at G f u)) _ _ _
    (rule_link F G d (tick F d) (visit F (lent_of G) (flat.tick F (lent_of G) d)) (visit_link F G d (tick_link F G d)) (tick_dry F d) k ts N x f u e)
    λ s r a f' u' v' e'. let z = seen_link fr k n l a.0 bd s a.1 us f' u' v' in went u' e' z.0 z.1 z.2)
