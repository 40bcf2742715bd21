-- The depth of each tree from `at` on is known.
use mathlib.Core.Path.{refl}
use Prim.Native.Nat.{◌-◌}
use native.Mathlib.Omega.{arith}
use lib.ListN.{length-set}
use Rattle.branch.proofs.Eachs.{size_pos}
use Rattle.branch.proofs.Depths.{known_more}
use Rattle.branch.proofs.depth.depth_of.Goals as goal

pub loop-at-init : goal.loop-at-init
loop-at-init c = (refl, λ p t a z h d. absurd (omega (arith, size_pos t)))

pub loop-at-preserved : goal.loop-at-preserved
loop-at-preserved c =
    let loop = c.loop-at in (
      simp length-set loop.invariant.0,
      known_more loop.deep c.args.ends.now c.args.n (loop.at - 1) c.from.result c.deepest-below.result c.saturating_add.result
          loop.invariant.0 c.requires (omega arith) (λ p t a. loop.invariant.1 p t (omega arith))
          c.from.ensures c.deepest-below.ensures c.saturating_add.ensures,
    )
