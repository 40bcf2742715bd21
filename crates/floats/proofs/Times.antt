-- Whole times up to a format's cap: sums and differences are exact, and so is what a Wait and a Timeout do with them.
use Rattle.std.specs.Prelude.{◌≡◌, Bool, cond, ◌⊎◌, Float}
use Rattle.std.proofs.Math.Path.{refl, ap}
use Rattle.std.proofs.Common.{sym, ◌∙◌, inl, inr, le_trans, arith, lit≤, lt-ltb, leb-true, leb-false}
use Rattle.std.proofs.Math.Bool.{true, false}
use Prim.Native.Nat.{ℕ, suc, ◌+◌, ◌-◌, ◌*◌, ◌^◌, ◌≤◌, ◌<◌, suc-le-suc}
use Rattle.std.proofs.Math.Dec.{leb}
use Rattle.std.specs.Float.Ieee.{add, sub, lt, le}
use Rattle.std.specs.Float.{Format, binary32, binary64}
use Rattle.std.specs.Float.Ieee.Exact.{HasValue}
use Rattle.rules.specs.Outcome.{smaller, largest}
use Rattle.rules.specs.Bound.{cap, num}
use Rattle.floats.specs.Values.{order_val}
use Rattle.floats.specs.Times.{cap_fits, W, W-val, val_num, add_W, sub_W, le_W, Passed, reached, passing}

-- the largest number of a format, as a whole number
abbrev top : Format → ℕ
top binary32 = 16777215 * 2 ^ 104
top binary64 = 9007199254740991 * 2 ^ 971

top_val : (F : Format) → HasValue (largest F) false (top F) 1
top_val binary32 = (refl, refl)
top_val binary64 = (refl, refl)

cap_top : (F : Format) → suc (cap F) ≤ top F
cap_top binary32 = lit≤ tt
cap_top binary64 = lit≤ tt

module _ (F : Format) where
  pub passed : (x y l : Float) → W F x → W F y → W F l → num x ≤ num l → Passed F x y l (le l (add F x y))
  passed x y l p q r h = go (le l (add F x y)) (sym (le_W F l (add F x y) (num x + num y) r (add_W F x y p q)))
    where
      go : (b : Bool) → leb (num l) (num x + num y) ≡ b → Passed F x y l b
      go true e =
          let g : num l ≤ num x + num y = leb-true (num l) (num x + num y) e in
          reached g (W-val F (sub F (add F x y) l) (num x + num y - num l) (sub_W F (add F x y) l (num x + num y) (add_W F x y p q) r (omega (arith, cap_fits F)) g) (omega arith)).0
      go false e =
          let g : num x + num y < num l = leb-false (num l) (num x + num y) e in
          let k = W-val F (add F x y) (num x + num y) (add_W F x y p q) (omega arith) in
          passing g k.0 k.1

  -- ---- the least leftover
  lt_largest : (r : Float) → W F r → lt r (largest F) ≡ true
  lt_largest r w = (order_val r (largest F) (num r) (top F) w.0 (top_val F)).0 ∙ lt-ltb (num r) (top F) (le_trans (suc-le-suc w.1) (cap_top F))

  -- the least so far is a whole time, or still the largest number
  pub smaller_W : (x r : Float) → W F r → W F x ⊎ (x ≡ largest F) → W F (smaller x r)
  smaller_W x r w (inl v) = pick (lt r x)
    where
      pick : (b : Bool) → W F (cond b r x)
      pick true = w
      pick false = v
  smaller_W x r w (inr e) = rw (ap (λ (z : Float). lt r z) e ∙ lt_largest r w) w
