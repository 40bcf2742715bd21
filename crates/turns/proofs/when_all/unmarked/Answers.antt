-- Each child that is passed over leaves the driver where it stands.
use mathlib.Core.Path.{◌∙◌}
use native.Mathlib.Omega.{arith}
use Rattle.turns.proofs.WhenAllLaws.{when_marked}
use Rattle.turns.proofs.when_all.unmarked.Goals as goal

pub loop-at-preserved : goal.loop-at-preserved
loop-at-preserved c =
    let inv = c.loop-at.invariant in
    let e = c.end_of-at.ensures in (
      (λ v dt all least ts. inv.0 v dt all least ts
          ∙ when_marked v _ dt c.requires.1 _ _ _ all least _ ts c.loop-at-test.true c.mark_of.ensures.0 c.if-mark_of-eq0.false e.0),
      omega (arith, inv.1, c.loop-at-test.true, e.2 (omega (arith, c.loop-at-test.true, c.requires.1))),
      e.1,
    )
