-- A run whose first elements become d, one after the other.
use mathlib.Core.Path.{◌≡◌, refl, ap, ◌∙◌}
use mathlib.Core.List.{List, [], ◌∷◌, ◌++◌}
use Prim.Native.Nat.{ℕ, zero, suc, ◌+◌, ◌≤◌, ◌<◌}
use native.Mathlib.Nat.{le_of_suc-le-suc, not-suc-le-zero}
use native.Mathlib.Numerals.{add-one}
use native.Mathlib.Omega.{arith}
use lib.ListN.{length, set, drop, replicate, length-set}

fill_suc : {A : Type 0} (d : A) (i : ℕ) (l : List A) → i < length l → set (replicate i d ++ drop i l) i d ≡ replicate (suc i) d ++ drop (suc i) l
fill_suc d i [] h = absurd (not-suc-le-zero h)
fill_suc d zero (x ∷ l) h = refl
fill_suc d (suc i) (x ∷ l) h = ap (λ t. d ∷ t) (fill_suc d i l (le_of_suc-le-suc h))

-- of n elements, those before i
pub record Filling {A : Type 0} (d : A) (start : List A) (n i : ℕ) (l : List A) : Type 0 where
  pub within : i ≤ n
  pub is : l ≡ replicate i d ++ drop i start
  pub long : length l ≡ length start

pub filling_start : {A : Type 0} {d : A} {start : List A} {n : ℕ} → Filling d start n 0 start
filling_start = record { within = omega arith; is = refl; long = refl }

pub filling_more : {A : Type 0} {d : A} {start : List A} {n i : ℕ} {l : List A} → n ≤ length start → Filling d start n i l → i < n → Filling d start n (i + 1) (set l i d)
filling_more {A} {d} {start} {n} {i} {l} a c h = record {
  within = omega arith;
  is = rw (c.is, add-one) (fill_suc d i start (omega arith));
  long = length-set l i d ∙ c.long;
}

pub filling_end : {A : Type 0} {d : A} {start : List A} {n i : ℕ} {l : List A} → Filling d start n i l → n ≤ i → l ≡ replicate n d ++ drop n start
filling_end {n} {i} c h = let e : n ≡ i = omega (arith, c.within) in rw e c.is
