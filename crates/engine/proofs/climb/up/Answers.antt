-- Each node that is done is one less around the result.
use mathlib.Core.Path.{refl}
use native.Mathlib.Omega.{arith}
use Rattle.engine.proofs.Ways.{held_placed, way_stopped, way_due, way_up}
use Rattle.engine.proofs.climb.up.Goals as goal

-- a stop
pub returns-in-Stopped : goal.returns-in-Stopped
returns-in-Stopped c = way_stopped c.loop-at.invariant c.in-Stopped.is

-- a child is due
pub returns-in-Due : goal.returns-in-Due
returns-in-Due c =
    way_due c.loop-at.invariant c.loop-at-test.true c.in_default.not-Stopped _ _ c.resumed.ensures.work_bound _ _ (c.in-Due.ensures.by_index _ _) c.in-Due.ensures.keeps_sound

pub close_decorators-deep-requires : goal.close_decorators-deep-requires
close_decorators-deep-requires c =
    let held = c.loop-at.invariant.held in
    record { deep_bound = (omega (arith, held.few), omega (arith, held.few, held.room), omega (arith, held.few, held.room)); placed = held_placed held }

pub loop-at-preserved-then-deep-gt0 : goal.loop-at-preserved-then-deep-gt0
loop-at-preserved-then-deep-gt0 c =
    way_up c.loop-at.invariant c.loop-at-test.true c.in_default.not-Stopped _ _ c.resumed.ensures.work_bound _ _ (c.in-Done.ensures.by_index _ _)
    _ c.show.ensures.ts_value c.show.ensures.work_unchanged c.close_decorators-deep.ensures
    (λ _. c.kept-at.ensures) (λ z. absurd (omega (arith, c.if-deep-gt0.true, z)))

pub loop-at-preserved : goal.loop-at-preserved
loop-at-preserved c =
    way_up c.loop-at.invariant c.loop-at-test.true c.in_default.not-Stopped _ _ c.resumed.ensures.work_bound _ _ (c.in-Done.ensures.by_index _ _)
    _ c.show.ensures.ts_value c.show.ensures.work_unchanged c.close_decorators-deep.ensures
    (λ z. absurd (omega (arith, c.if-deep-gt0.false, z))) (λ _. refl)
