-- A line that was read and admitted does what the definition says of it.
use Rattle.std.proofs.Common.{◌≡◌, ℕ, zero, suc, ◌<◌, ◌≤◌, Bool, true, false, cond, ltb, List, [], ◌∷◌, length}
use Rattle.std.proofs.Common.{take, sym, refl, ap, ◌∙◌, subst, le_of_suc-le-suc, not-suc-le-zero, arith, ltb-true}
use Rattle.std.specs.Prelude.{Result, Ok, Err}
use lib.Ieee.{Float, binary64, of_bits}
use Rattle.frames.specs.declared.Call.{Call}
use Rattle.frames.specs.declared.Event.{Event}
use Rattle.frames.specs.declared.Frame.{Frame}
use Rattle.frames.specs.declared.Frame.TheVariants.{Node, Asked, Said, Malformed}
use Rattle.frames.specs.declared.Unread.{Unread}
use Rattle.frames.specs.declared.order.Input.{Input}
use Rattle.frames.specs.declared.order.Input.TheVariants as inputs
use Rattle.frames.specs.Line.{Good, Reads, answers_of}
use Rattle.frames.specs.Find.{found, statuses_in, leftovers_in}
use Rattle.frames.specs.Finds.{read_found, read_answers}
use Rattle.frames.specs.Order.{admitted}
use Rattle.frames.specs.Times.{timed}
use Rattle.rules.specs.declared.answer.Answer.{Answer}
use Rattle.rules.specs.Call.{Left}
use Rattle.bench_line.specs.Said.{said_of}
use Rattle.bench_line.specs.Bench.{Line, State, times, served, line_number, does, step, printed}
use Rattle.bench_line.specs.Held.{with_row, Prints, Serves, Steps}

-- ---- what may come
kept : (b : Bool) (kind n limit kind' n' limit' : ℕ) → cond b (inputs.Node kind n limit) inputs.Malformed ≡ inputs.Node kind' n' limit' → b ≡ true
kept true kind n limit kind' n' limit' p = refl
kept false kind n limit kind' n' limit' p = absurd (let z : ◌≡◌ {A = ℕ} 0 1 = cc in omega arith)

-- a node that is admitted has room
pub node_room : (nodes : ℕ) (begun : Bool) (r : Result Frame Unread) (kind n limit : ℕ) → admitted nodes begun r ≡ inputs.Node kind n limit → nodes < 257
node_room nodes true (Ok (Node a b c)) kind n limit p = absurd (let z : ◌≡◌ {A = ℕ} 0 1 = cc in omega arith)
node_room nodes false (Ok (Node a b c)) kind n limit p = ltb-true nodes 257 (kept (ltb nodes 257) a b c kind n limit p)
node_room nodes begun (Ok (Asked o e f k)) kind n limit p = absurd (let z : ◌≡◌ {A = ℕ} 0 1 = cc in omega arith)
node_room nodes begun (Ok (Said o a b c d e f)) kind n limit p = absurd (let z : ◌≡◌ {A = ℕ} 0 1 = cc in omega arith)
node_room nodes begun (Ok (Malformed a)) kind n limit p = absurd (let z : ◌≡◌ {A = ℕ} 0 1 = cc in omega arith)
node_room nodes begun (Err Unread.NoFrame) kind n limit p = absurd (let z : ◌≡◌ {A = ℕ} 0 1 = cc in omega arith)
node_room nodes begun (Err Unread.TooShort) kind n limit p = absurd (let z : ◌≡◌ {A = ℕ} 0 1 = cc in omega arith)

-- a call that is admitted was read
never_call : (b : Bool) (kind n limit : ℕ) (call : Call) (ev : Event) (fuel count : ℕ) → cond b (inputs.Node kind n limit) inputs.Malformed ≡ inputs.Asked call ev fuel count → ⊥
never_call true kind n limit call ev fuel count p = let z : ◌≡◌ {A = ℕ} 0 1 = cc in omega arith
never_call false kind n limit call ev fuel count p = let z : ◌≡◌ {A = ℕ} 0 1 = cc in omega arith

pub call_frame : (nodes : ℕ) (begun : Bool) (r : Result Frame Unread) (call : Call) (ev : Event) (fuel count : ℕ) → admitted nodes begun r ≡ inputs.Asked call ev fuel count
    → r ≡ Ok (Asked call ev fuel count)
call_frame nodes true (Ok (Node a b c)) call ev fuel count p = absurd (let z : ◌≡◌ {A = ℕ} 0 1 = cc in omega arith)
call_frame nodes false (Ok (Node a b c)) call ev fuel count p = absurd (never_call (ltb nodes 257) a b c call ev fuel count p)
call_frame nodes begun (Ok (Asked o e f k)) call ev fuel count p = cc
call_frame nodes begun (Ok (Said o a b c d e f)) call ev fuel count p = absurd (let z : ◌≡◌ {A = ℕ} 0 1 = cc in omega arith)
call_frame nodes begun (Ok (Malformed a)) call ev fuel count p = absurd (let z : ◌≡◌ {A = ℕ} 0 1 = cc in omega arith)
call_frame nodes begun (Err Unread.NoFrame) call ev fuel count p = absurd (let z : ◌≡◌ {A = ℕ} 0 1 = cc in omega arith)
call_frame nodes begun (Err Unread.TooShort) call ev fuel count p = absurd (let z : ◌≡◌ {A = ℕ} 0 1 = cc in omega arith)

-- times made of patterns
pub timed_times : (n : ℕ) (bits : List ℕ) (ts : List Float) → n ≤ length bits → n ≤ length ts → take n (timed n bits ts) ≡ times (take n bits)
timed_times zero bits ts p q = refl
timed_times (suc n) [] ts p q = absurd (not-suc-le-zero p)
timed_times (suc n) (b ∷ bits) [] p q = absurd (not-suc-le-zero q)
timed_times (suc n) (b ∷ bits) (t ∷ ts) p q =
    ap (λ l. of_bits binary64 b ∷ l) (timed_times n bits ts (le_of_suc-le-suc p) (le_of_suc-le-suc q))

-- ---- a line that was read in the state s, with its answers in ss and ls, and that asks for i
pub record Came (s : State) (l : Line) (ss ls : List ℕ) (i : Input) : Type 0 where
  pub asked : i ≡ admitted (length s.table.kinds) s.begun (found l)
  pub answers : (f : Frame) → found l ≡ Ok f
      → Good f ss ls × (statuses_in l ≡ take (answers_of f) ss) × (leftovers_in l ≡ take (answers_of f) ls)

pub came : (s : State) (l : Line) (xs ys : List ℕ) (r : Result Frame Unread) (ss ls : List ℕ) (i : Input)
    → 1024 ≤ length xs
    → 1024 ≤ length ys
    → Reads l xs ys r ss ls
    → i ≡ admitted (length s.table.kinds) s.begun r
    → Came s l ss ls i
came s l xs ys r ss ls i hx hy reads asked =
    let e : found l ≡ r = read_found l xs ys r ss ls hx hy reads in
    record {
      asked = rw e asked;
      answers =
          λ f p.
          let q : Reads l xs ys (Ok f) ss ls = subst (λ x. Reads l xs ys x ss ls) (sym e ∙ p) reads in
          let a = read_answers l xs ys f ss ls q in
          (q.0, a.0, a.1);
    }

-- one line more has come, and nothing else has changed
abbrev pub counted : State → Bool → State
counted s on = record { table = s.table; cells' = s.cells'; record' = s.record'; begun = s.begun; lines = line_number s.lines; on = on }

same_call : (s : State) (c : Call) (e : Event) (fuel : ℕ) (ss : List ℕ) (ls : List Float) → served (counted s true) c e fuel ss ls ≡ served s c e fuel ss ls
unfolding served
same_call s c e fuel ss ls = refl

-- ---- each kind of line
module _ {s : State} {l : Line} {ss ls : List ℕ} {i : Input} (m : Came s l ss ls i) where
  asks : step s l ≡ does s (statuses_in l) (leftovers_in l) i
  unfolding step
  asks = rw m.asked refl

  -- a node that is admitted has room
  pub node_few : (kind n limit : ℕ) → i ≡ inputs.Node kind n limit → length s.table.kinds < 257
  node_few kind n limit is = node_room (length s.table.kinds) s.begun (found l) kind n limit (sym m.asked ∙ is)

  pub node_step : (kind n limit : ℕ) (s' : State) (room : List ℕ)
      → i ≡ inputs.Node kind n limit
      → s' ≡ with_row (counted s true) kind n limit
      → Steps s l room 0 s' room
  node_step kind n limit s' room is kept =
      let p : step s l ≡ does s (statuses_in l) (leftovers_in l) (inputs.Node kind n limit) = rw is at asks in
      record { state = kept ∙ sym (ap (λ x. x.0) p); prints = rw p (record { count = refl; bytes = refl }) }

  module _ (call : Call) (e : Event) (fuel count : ℕ) (is : i ≡ inputs.Asked call e fuel count) where
    read : Good (Asked call e fuel count) ss ls × (statuses_in l ≡ take count ss) × (leftovers_in l ≡ take count ls)
    read = m.answers (Asked call e fuel count) (call_frame (length s.table.kinds) s.begun (found l) call e fuel count (sym m.asked ∙ is))

    pub call_few : (count ≤ 1024) × (count ≤ length ss)
    call_few = (read.0.few, read.0.statuses)

    pub call_step : (xs xs' : List Float) (answer : Answer) (s' : State) (room room' : List ℕ) (n : ℕ)
        → 1024 ≤ length xs
        → xs' ≡ timed count ls xs
        → Serves (counted s true) call e fuel (take count ss) (take count xs') answer s'
        → Prints (printed (said_of call answer)) room n room'
        → Steps s l room n s' room'
    call_step xs xs' answer s' room room' n hx ex left told =
        let ts : take count xs' ≡ times (leftovers_in l) =
        ap (take count) ex ∙ timed_times count ls xs read.0.leftovers (omega (arith, read.0.few)) ∙ ap times (sym read.2) in
        let p : step s l ≡ does s (take count ss) (leftovers_in l) (inputs.Asked call e fuel count) = rw (is, read.1) at asks in
        let same : served (counted s true) call e fuel (take count ss) (take count xs') ≡ served s call e fuel (take count ss) (times (leftovers_in l)) =
        same_call s call e fuel (take count ss) (take count xs') ∙ ap (served s call e fuel (take count ss)) ts in
        let after : Left → State =
        λ (x : Left). record { table = s.table; cells' = x.cells'; record' = x.record'; begun = true; lines = line_number s.lines; on = true } in
        let w : (step s l).1 ≡ printed (said_of call answer) =
        ap (λ x. x.1) p ∙ ap (λ (x : Left). printed (said_of call x.answer)) (sym same) ∙ ap (λ (x : Answer). printed (said_of call x)) left.answer_is in
        record { state = left.state ∙ ap after same ∙ sym (ap (λ x. x.0) p); prints = rw w told }

  pub stop_step : (s' : State) (room room' : List ℕ) (n : ℕ)
      → i ≡ inputs.Malformed
      → s' ≡ counted s false
      → Prints (printed (Malformed (line_number s.lines))) room n room'
      → Steps s l room n s' room'
  stop_step s' room room' n is same told =
      let p = rw is at asks in
      record { state = same ∙ sym (ap (λ x. x.0) p); prints = rw p told }
