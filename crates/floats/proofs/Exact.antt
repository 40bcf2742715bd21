-- "Here sums and differences of whole numbers up to 2^40 are exact": document 01, "The finish bound"; for f32 up to 2^20.
use Rattle.std.specs.Prelude.{◌≡◌, false, ◌+◌, ◌-◌, ◌≤◌, T, leb, Float}
use Rattle.std.proofs.Common.{arith}
use Rattle.std.specs.Float.{Format}
use Rattle.std.specs.Float.Ieee.{add, sub, le}
use Rattle.std.specs.Float.Ieee.Exact.{HasValue}
use Rattle.rules.specs.Bound.{num, whole_time}
use Rattle.floats.specs.Times.{cap_fits, W, whole_W, val_num, add_W, sub_W, le_W}

module _ (F : Format) (x y : Float) (wx : T (whole_time F x)) (wy : T (whole_time F y)) where
  -- the sum has the value of the sum: nothing is rounded
  pub sum_exact : HasValue (add F x y) false (num x + num y) 1 × (num (add F x y) ≡ num x + num y)
  sum_exact =
      let p : W F x = whole_W F x wx in
      let q : W F y = whole_W F y wy in
      let v : HasValue (add F x y) false (num x + num y) 1 = add_W F x y p q in
      (v, val_num F (add F x y) (num x + num y) v (omega (arith, cap_fits F)))

  pub difference_exact : num y ≤ num x → HasValue (sub F x y) false (num x - num y) 1 × (num (sub F x y) ≡ num x - num y)
  difference_exact h =
      let p : W F x = whole_W F x wx in
      let q : W F y = whole_W F y wy in
      let v : HasValue (sub F x y) false (num x - num y) 1 = sub_W F x y (num x) p.0 q (omega (arith, cap_fits F)) h in
      (v, val_num F (sub F x y) (num x - num y) v (omega (arith, cap_fits F)))

  pub order_exact : le x y ≡ leb (num x) (num y)
  order_exact = le_W F x y (num y) (whole_W F x wx) (whole_W F y wy).0
