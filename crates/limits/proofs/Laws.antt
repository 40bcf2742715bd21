-- What the operations do with numbers above 2 ^ 53: each stands for all of them, and what comes out is the same.
use Rattle.std.proofs.Common.{◌≡◌, ℕ, zero, suc, ◌*◌, ◌≤◌, min, Bool, true, false, leb, refl}
use Rattle.std.proofs.Common.{ap, ◌∙◌, mul-zero, zero-mul, arith, leb-false, leb-true}
use Rattle.rules.specs.Bound.{Lim, never, within, sum_l, max_l, min_l, times_l, told, most_ticks}
use Rattle.std.specs.Prelude.{Some}
use Rattle.limits.specs.declared.node.Join.{Join}
use Rattle.limits.specs.declared.node.Join.TheVariants.{Sum, Largest, Smallest, Product}
use Rattle.limits.specs.Ticks.{Ticks, above, lim, clipped}
use Rattle.limits.specs.Node.{join_l}

-- ---- the clipped of the clipped
clip_sum : (a b : Lim) → clipped (sum_l (lim (clipped a)) (lim (clipped b))) ≡ clipped (sum_l a b)
clip_sum never b = refl
clip_sum (within a) never = refl
clip_sum (within a) (within b) = ap Some (omega arith)

clip_max : (a b : Lim) → clipped (max_l (lim (clipped a)) (lim (clipped b))) ≡ clipped (max_l a b)
clip_max never b = refl
clip_max (within a) never = refl
clip_max (within a) (within b) = ap Some (omega arith)

clip_min : (a b : Lim) → clipped (min_l (lim (clipped a)) (lim (clipped b))) ≡ clipped (min_l a b)
clip_min never never = refl
clip_min never (within b) = ap Some (omega arith)
clip_min (within a) never = ap Some (omega arith)
clip_min (within a) (within b) = ap Some (omega arith)

-- a product of numbers from 1 on is no smaller than either
times_clipped : (a b : ℕ) → min (min (suc a) above * min (suc b) above) above ≡ min (suc a * suc b) above
times_clipped a b = go (leb (suc a) above) (leb (suc b) above) refl refl
  where
    go : (s t : Bool) → leb (suc a) above ≡ s → leb (suc b) above ≡ t → min (min (suc a) above * min (suc b) above) above ≡ min (suc a * suc b) above
    go true true p q =
        let x : min (suc a) above ≡ suc a = omega (arith, leb-true (suc a) above p) in
        let y : min (suc b) above ≡ suc b = omega (arith, leb-true (suc b) above q) in
        rw (x, y)
    go true false p q =
        let x : min (suc a) above ≡ suc a = omega (arith, leb-true (suc a) above p) in
        let y : min (suc b) above ≡ above = omega (arith, leb-false (suc b) above q) in
        rw (x, y) (omega (arith, leb-false (suc b) above q))
    go false t p q =
        let x : min (suc a) above ≡ above = omega (arith, leb-false (suc a) above p) in
        let y : 1 ≤ min (suc b) above = omega arith in
        rw x (omega (arith, leb-false (suc a) above p))

clip_times : (a b : Lim) → clipped (times_l (lim (clipped a)) (lim (clipped b))) ≡ clipped (times_l a b)
clip_times never b = refl
clip_times (within a) never = refl
clip_times (within zero) (within b) = ap Some (rw (zero-mul, zero-mul))
clip_times (within (suc a)) (within zero) = ap Some (rw (mul-zero, mul-zero))
clip_times (within (suc a)) (within (suc b)) = ap Some (times_clipped a b)

-- x and y are a and b clipped
pub clip_join : (j : Join) (x y r : Ticks) (a b : Lim) → r ≡ clipped (join_l j (lim x) (lim y)) → x ≡ clipped a → y ≡ clipped b → r ≡ clipped (join_l j a b)
clip_join Sum x y r a b e p q = e ∙ rw (p, q) (clip_sum a b)
clip_join Largest x y r a b e p q = e ∙ rw (p, q) (clip_max a b)
clip_join Smallest x y r a b e p q = e ∙ rw (p, q) (clip_min a b)
clip_join Product x y r a b e p q = e ∙ rw (p, q) (clip_times a b)

-- what is above is told as such
pub clip_told : (a : Lim) → told (lim (clipped a)) ≡ told a
clip_told never = refl
clip_told (within n) = go (leb n most_ticks) refl
  where
    go : (s : Bool) → leb n most_ticks ≡ s → told (lim (clipped (within n))) ≡ told (within n)
    go true p = let x : min n above ≡ n = omega (arith, leb-true n most_ticks p) in rw x
    go false p = let x : min n above ≡ above = omega (arith, leb-false n most_ticks p) in rw (x, p)
