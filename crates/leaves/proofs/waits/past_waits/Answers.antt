-- The visits so far lead from the first place to the one that is next.
use native.Mathlib.Omega.{arith}
use Rattle.leaves.specs.Waiting.{none}
use Rattle.leaves.proofs.WaitLaws.{joined}
use Rattle.leaves.proofs.waits.past_waits.Goals as goal

pub loop-q-init : goal.loop-q-init
loop-q-init c = (c.requires.0, (λ h. absurd (omega arith)), none)

pub returns-then-not-sixteen_keep_waiting-clause-waiting : goal.returns-then-not-sixteen_keep_waiting-clause-waiting
returns-then-not-sixteen_keep_waiting-clause-waiting c =
    let kept = c.sixteen_keep_waiting.ensures.work_unchanged c.if-not-sixteen_keep_waiting.true in
    rw (kept.0, kept.1) c.loop-q.invariant.2

pub loop-q-preserved : goal.loop-q-preserved
loop-q-preserved c =
    let inv = c.loop-q.invariant in
    (omega (arith, c.loop-q-test.true, c.requires.1), (λ h. c.loop-q-test.true), joined inv.2 (c.sixteen_keep_waiting.ensures.waiting c.if-not-sixteen_keep_waiting.false))
