-- The rules' tick beside the one that says which outcome a visit without fuel has: as long as both go on, they do the same.
use Rattle.std.specs.Prelude.{◌≡◌, Float}
use Rattle.std.proofs.Math.Path.{refl}
use Rattle.std.proofs.Common.{le_of_suc-le-suc, arith}
use Prim.Native.Nat.{ℕ, zero, suc, ◌≤◌}
use Rattle.std.specs.Float.{Format}
use Rattle.rules.specs.Tree.{node}
use Rattle.rules.specs.Outcome.{world, asks, short}
use Rattle.rules.specs.State.{tick}
use Rattle.laws.specs.Shape.{Shape, Shapes, shape, shapes, size_of, depth_of, depths_of, depth_of_lem}
use Rattle.laws.specs.Shape
use Rattle.laws.specs.Pair.{Pairing, ends}
use Rattle.laws.specs.PairDrivers.{Each, Alike}
use Rattle.laws.specs.PairRules.{rule_with_lem}
use Rattle.laws.proofs.PairRules.{visit_pair}
use Rattle.laws.specs.Alone.{max_left, max_right}
use Rattle.laws.specs.Live.{Right, Rights}
use Rattle.laws.specs.LiveTicks.{living, living_acts}
use Rattle.laws.specs.OnlyFuel.{tick_or}

-- a tree that a table holds, at most d deep
abbrev pub Fits : ℕ → Shape → Type 0
Fits d s = Right s × (depth_of s ≤ d)

fits_each : (d : ℕ) (ss : Shapes) → Rights ss → depths_of ss ≤ d → Each (Fits d) ss
fits_each d Shape.[] r h = tt
fits_each d (Shape.◌◂◌ s ss) r h = ((r.0, max_left (depth_of s) (depths_of ss) d h), fits_each d ss r.1 (max_right (depth_of s) (depths_of ss) d h))

-- ---- the two ticks side by side, from accepted cells: as long as both go on, they do the same, and the rules' own is short where the other ends in `asks n x`
module _ (n : ℕ) (x : Float) (F : Format) where
  abbrev pub beside : Pairing F
  beside = living (λ A o. o ≡ asks n x) (λ A B o k h. rw h) F

  pub tick_beside : (d : ℕ) → Alike beside (Fits d) (tick F d) (tick_or (asks n x) F d)
  unfolding tick tick_or
  tick_beside zero (node k m l c b ts) e w s v ev = absurd (omega arith)
  tick_beside (suc d) t e (world zero ans, wv) s v ev = ends short (asks n x) refl
  tick_beside (suc d) (node k m l c b ts) e (world (suc f) ans, wv) s v ev =
      visit_pair beside (living_acts (λ A o. o ≡ asks n x) (λ A B o k h. rw h) F) (Fits d) (tick F d) (tick_or (asks n x) F d) (tick_beside d) (suc f) k m l c b ts e
      (world (suc f) ans, wv) (world f ans, wv) (rule_with_lem F (tick F d) k m l c e ts f ans) (rule_with_lem F (tick_or (asks n x) F d) k m l c e ts f ans) (omega arith) (omega arith)
      (λ h i j. tt) (fits_each d (shapes ts) s.0.3 (le_of_suc-le-suc s.1)) ((s.0.0, s.0.1, s.0.2), v, omega arith) ev
