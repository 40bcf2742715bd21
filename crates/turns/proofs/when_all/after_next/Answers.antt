-- The child that is due, or none: then whether one was Running.
use Rattle.turns.proofs.WhenAllLaws.{after_some_over, after_all_over, after_due}
use Rattle.turns.proofs.when_all.after_next.Goals as goal

pub returns-then-not-none-clause-ts_value : goal.returns-then-not-none-clause-ts_value
returns-then-not-none-clause-ts_value c = rw c.waiting.ensures (λ v ts. after_some_over v _ _ _ _ _ _ _ _ ts c.if-level-q.true c.if-not-none.true _ c.put_place.ensures)

pub returns-then-level-q-clause-ts_value : goal.returns-then-level-q-clause-ts_value
returns-then-level-q-clause-ts_value c = (λ v ts. after_all_over v _ _ _ _ _ _ _ _ ts c.if-level-q.true c.if-not-none.false _ c.put_place.ensures)

pub returns-clause-ts_value : goal.returns-clause-ts_value
returns-clause-ts_value c = let a = c.args in
    let p = c.requires in
    let e = c.end_of.ensures in
    let l = c.if-level-q.false in λ v ts. after_due v _ _ _ _ _ a.none a.least _ ts p.stop_bound _ l e.0 _ c.from.ensures
