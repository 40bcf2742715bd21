-- Each decorator takes the result and leaves one entry less.
use native.Mathlib.Omega.{arith}
use lib.Ieee.{nan}
use Rattle.rules.specs.Tree.{zero_time}
use Rattle.work.proofs.Laws.{any_default}
use Rattle.engine.proofs.DecoratorLaws.{close_on}
use Rattle.engine.proofs.decorators.close_decorators.Goals as goal

pub loop-at-preserved : goal.loop-at-preserved
loop-at-preserved c =
    let few = c.loop-at.invariant.few in
    let some = c.loop-at-test.true in
    close_on c.loop-at.invariant some _ _ c.node_in-p.ensures
    (any_default c.args.room.now.wholes.now _ nan zero_time (omega (arith, few, some, c.requires.deep_bound.2)))
    (rw (← c.kind_in.ensures, ← c.decorates.ensures) c.if-not-decorates.false)
    c.decorated-visit.ensures c.show.ensures.ts_value c.show.ensures.work_unchanged
