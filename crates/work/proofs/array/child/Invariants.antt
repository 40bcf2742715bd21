-- What is still to be passed leads to the same child.
use mathlib.Core.Path.{◌≡◌}
use Prim.Native.Nat.{◌≤◌, ◌-◌}
use Rattle.work.specs.Array.{child_from}
use Rattle.work.proofs.array.child.Given as goal

abbrev pub invariant-loop : goal.invariant-loop
invariant-loop l = (child_from l.work l.stop (l.i - l.counter) l.at ≡ child_from l.work l.stop l.i l.q) × (l.at ≤ 256)
