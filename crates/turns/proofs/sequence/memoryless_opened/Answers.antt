-- No children, or the first is due.
use Rattle.turns.proofs.TurnLaws.{fuel_freshed}
use Rattle.turns.proofs.SequenceLaws.{mem_empty, mem_start}
use Rattle.turns.proofs.sequence.memoryless_opened.Goals as goal

pub returns-then-stop-q-clause-times_value : goal.returns-then-stop-q-clause-times_value
returns-then-stop-q-clause-times_value c = (λ v. mem_empty _ v _ _ _ _ _ c.end_of-stop.ensures.0 c.if-stop-q.true _ c.passed.ensures _ c.turned.ensures)

pub returns-clause-times_value : goal.returns-clause-times_value
returns-clause-times_value c = let stop_in = c.end_of-stop.ensures.1 in
    λ v. mem_start _ v _ _ _ _ _ c.end_of-stop.ensures.0 stop_in c.if-stop-q.false _ _ c.fresh.ensures.work_after c.fresh.ensures.times_after _ c.end_of.ensures.0

pub returns-clause-work_unchanged : goal.returns-clause-work_unchanged
returns-clause-work_unchanged c = let stop_in = c.end_of-stop.ensures.1 in
    fuel_freshed _ _ _ _ stop_in c.fresh.ensures.work_after
