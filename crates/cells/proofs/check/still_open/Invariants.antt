-- As many nodes are open as of those that are left.
use mathlib.Core.Path.{◌≡◌}
use Prim.Native.Nat.{◌≤◌}
use Rattle.cells.specs.Check.{still_open}
use Rattle.cells.proofs.check.still_open.Given as goal

abbrev pub invariant-loop-left : goal.invariant-loop-left
invariant-loop-left l = (l.left ≤ 16) × (still_open l.opens l.at l.left ≡ still_open l.opens l.at l.depth)

abbrev pub decreases-loop-left : goal.decreases-loop-left
decreases-loop-left l = l.left
