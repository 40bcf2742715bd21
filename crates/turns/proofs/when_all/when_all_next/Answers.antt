-- The child that is due, or none: then whether each was marked.
use Rattle.work.specs.Flat.{turning}
use Rattle.turns.proofs.WhenAllLaws.{when_some_over, when_all_over, when_turn}
use Rattle.turns.proofs.when_all.when_all_next.Goals as goal

pub returns-then-not-all-clause-ts_value : goal.returns-then-not-all-clause-ts_value
returns-then-not-all-clause-ts_value c = let any = c.args.any in
    rw c.waiting.ensures (λ v ts. when_some_over any v _ _ _ _ _ _ ts _ (c.unmarked-at.ensures.ts_value (turning any v) _ _ _ ts) c.if-stop-at.true c.if-not-all.true)

pub returns-then-stop-at-clause-ts_value : goal.returns-then-stop-at-clause-ts_value
returns-then-stop-at-clause-ts_value c = let any = c.args.any in
    rw c.turned.ensures (λ v ts. when_all_over any v _ _ _ _ _ _ ts _ (c.unmarked-at.ensures.ts_value (turning any v) _ _ _ ts) c.if-stop-at.true c.if-not-all.false)

pub returns-clause-ts_value : goal.returns-clause-ts_value
returns-clause-ts_value c = let unmarked = c.unmarked-at.ensures in
    let args = c.args in
    let p = c.requires in
    let e = c.end_of.ensures in
    let l = c.if-stop-at.false in
    λ v ts. when_turn args.any v _ _ _ args.all args.least _ ts _ (unmarked.ts_value (turning args.any v) _ _ _ ts) p.stop_bound _ l (unmarked.lower_bound.2 l) e.0 _
    c.from.ensures
