-- The visits so far lead from the first place to the one that is next.
use Prim.Native.Nat.{◌-◌, ◌≤◌, ◌<◌}
use Rattle.leaves.specs.Waiting.{Waiting}
use Rattle.leaves.proofs.waits.past_waits.Given as goal

abbrev pub invariant-loop-q : goal.invariant-loop-q
invariant-loop-q l =
    (l.q ≤ 256)
    × (l.from < l.q → l.q ≤ l.stop)
    × Waiting l.reads.limits.now l.dt l.from l.q l.initial.work l.initial.times l.work l.times

abbrev pub decreases-loop-q : goal.decreases-loop-q
decreases-loop-q l = l.stop - l.q
