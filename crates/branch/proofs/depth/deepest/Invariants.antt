-- The trees before `at` are at most so deep.
use Prim.Native.Nat.{◌≤◌, ◌-◌}
use Rattle.rules.specs.Tree.{Forest, depths}
use Rattle.branch.specs.Each.{EachAll, Any}
use Rattle.branch.specs.Depth.{Known}
use Rattle.branch.proofs.Depths.{Left}
use Rattle.branch.proofs.depth.deepest.Given as goal

abbrev pub invariant-loop-at : goal.invariant-loop-at
invariant-loop-at l = (ts : Forest) → EachAll l.ends Any l.from ts l.stop → depths ts ≤ 16 → Known l.deep l.ends l.from l.stop → Left l.ends l.from l.stop ts l.levels l.at

abbrev pub decreases-loop-at : goal.decreases-loop-at
decreases-loop-at l = l.stop - l.at
