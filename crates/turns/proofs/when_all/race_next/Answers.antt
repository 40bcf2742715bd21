-- The child that is due, or none.
use Rattle.turns.proofs.WhenAllLaws.{race_over, race_due}
use Rattle.turns.proofs.when_all.race_next.Goals as goal

pub returns-then-level-q-clause-ts_value : goal.returns-then-level-q-clause-ts_value
returns-then-level-q-clause-ts_value c = rw c.waiting.ensures (λ v ts. race_over v _ _ 256 _ _ ts c.if-level-q.true)

pub returns-clause-ts_value : goal.returns-clause-ts_value
returns-clause-ts_value c = let p = c.requires in
    let e = c.end_of.ensures in
    let l = c.if-level-q.false in λ v ts. race_due v _ _ p.stop_bound _ _ _ ts l e.0
