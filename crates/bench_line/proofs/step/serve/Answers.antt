-- The first nodes of the runs are the table, and the first answers those that are lent.
use Rattle.std.proofs.Common.{◌≡◌, ℕ, Bool, true, List, Float, refl, ap, ◌∙◌}
use lib.Ieee.{of_bits}
use Rattle.frames.specs.declared.Call.{Call}
use Rattle.frames.specs.declared.Call.TheVariants.{Tick, Restart}
use Rattle.frames.specs.declared.Event.{Event}
use Rattle.rules.specs.declared.answer.Answer.{Answer}
use Rattle.rules.specs.declared.event.Event as events
use Rattle.rules.specs.Call.{Given, Left, given, left}
use Rattle.lent.specs.Lent.{run_in}
use Rattle.refusals.specs.Due as due
use Rattle.bench_line.specs.Bench.{State, event_of, fresh_run, fresh_board, call_of, served}
use Rattle.bench_line.specs.Held.{state_of, restarts_of, Serves}
use Rattle.bench_line.proofs.step.serve.Goals as goal

by_flag : (call : Call) (g : Given) → call_of call g ≡ due.call_of (restarts_of call) g
unfolding due.call_of
by_flag Tick g = refl
by_flag Restart g = refl

leaves : (s s' : State) (call : Call) (fresh : Bool) (e : Event) (h : events.Event) (fuel : ℕ) (ss : List ℕ) (ls : List Float) (x : Left) (a : Answer) → fresh ≡ restarts_of call → h ≡ event_of e
    → due.call_of fresh (given s.record' s.table.kinds s.table.ns s.table.limits s.cells' fresh_run fresh_board h fuel ss ls) ≡ x
    → x.answer ≡ a
    → s' ≡ record { table = s.table; cells' = x.cells'; record' = x.record'; begun = true; lines = s.lines; on = s.on }
    → Serves s call e fuel ss ls a s'
unfolding served
leaves s s' call fresh e h fuel ss ls x a f p q k t =
    let r : served s call e fuel ss ls ≡ x = by_flag call _ ∙ rw (← f, ← p) q in
    record { answer_is = ap (λ y. y.answer) r ∙ k; state = rw r t }

pub returns-clause-served : goal.returns-clause-served
unfolding fresh_board fresh_run of_bits
returns-clause-served c =
    let a = c.args in
    let v = c.value-called in
    let x = left v.result.answer v.result.record (run_in v.new.cells) (run_in v.new.spare) v.new.board in
    leaves (state_of a.held.now a.rows.now (run_in a.cells.now)) _ a.call c.restarts.result a.event c.event_of.result a.fuel a.answers.now.statuses.now a.answers.now.leftovers.now x v.result.answer
    c.restarts.ensures c.event_of.ensures (ap (λ x. x.left') v.ensures.leaves) refl refl
