-- The depth of each tree from `at` on is known.
use mathlib.Core.Path.{◌≡◌}
use lib.ListN.{length}
use Rattle.branch.specs.Depth.{Known}
use Rattle.branch.proofs.depth.depth_of.Given as goal

abbrev pub invariant-loop-at : goal.invariant-loop-at
invariant-loop-at l = (length l.deep ≡ 256) × Known l.deep l.ends l.at l.n
