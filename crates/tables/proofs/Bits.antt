-- A float told by its bits, of which the sign is the top one, and by comparisons.
use mathlib.Core.Path.{◌≡◌, refl, sym, ap, subst, ◌∙◌}
use mathlib.Core.Bool.{Bool, true, false, not, cond, and-false, false≢true}
use Prim.Native.Nat.{ℕ, zero, suc, ◌+◌, ◌*◌, ◌/◌, ◌%◌, ◌^◌, ◌<◌}
use native.Mathlib.Nat.{zero-mul, zero-div, mul-pos, zero-lt-suc}
use native.Mathlib.Omega.{arith}
use borrow.Author.Tests.{lt-ltb, le-ltb, leb-true, ne_eqb, eqb-true, eqb-false, leb-false}
use lib.Dec.{T, leb, ltb, eqb}
use lib.Ieee.{Float, nan, inf, fin, binary64, fits, is_nan, odd, of_fields, of_bits, to_bits, lt, le, eq, up, down}
use lib.IntN.{ℤ}
use lib.Ieee.Bits.{of_bits-to_bits}
use lib.Ieee.Fits.{up_pos}
use Rattle.rules.specs.Table.{cleaned, number, zero_bits}
use Rattle.rules.specs.Cells.{elapsed}

-- ---- what `is_nan` tells
pub is_nan_lem : (x : Float) → is_nan x ≡ true → x ≡ nan
unfolding is_nan
is_nan_lem nan e = refl
is_nan_lem (inf s) e = cc
is_nan_lem (fin s m d) e = cc

pub no_nan : (x : Float) → is_nan x ≡ false → T (not (is_nan x))
no_nan x e = rw e tt

-- ---- of the three fields
elapsed_odd : (s : Bool) (t k : ℕ) → elapsed (odd 53 s t k 1074) ≡ not s
unfolding odd
elapsed_odd s zero k = refl
elapsed_odd s (suc t) k = refl

elapsed_special : (s b : Bool) → T (not (is_nan (cond b (inf s) nan))) → elapsed (cond b (inf s) nan) ≡ not s
unfolding is_nan
elapsed_special s true h = refl
elapsed_special s false h = absurd h

module _ (s : Bool) (x t u : ℕ) where
  elapsed_at :
      (b : Bool) → T (not (is_nan (cond b (cond (eqb t 0) (inf s) nan) (odd 53 s u x 1074)))) →
      elapsed (cond b (cond (eqb t 0) (inf s) nan) (odd 53 s u x 1074)) ≡ not s
  elapsed_at true h = elapsed_special s (eqb t 0) h
  elapsed_at false h = elapsed_odd s u x

elapsed_fields : (s : Bool) (x t : ℕ) → T (not (is_nan (of_fields binary64 s x t))) → elapsed (of_fields binary64 s x t) ≡ not s
unfolding of_fields
elapsed_fields s zero t h = elapsed_odd s t 0
elapsed_fields s (suc x) t h = elapsed_at s x t (2 ^ 52 + t) (eqb (suc x) 2047) h

number_odd : (s : Bool) (t k : ℕ) → number (odd 53 s t k 1074) ≡ not s
unfolding odd
number_odd s zero k = refl
number_odd s (suc t) k = refl

number_special : (s b : Bool) → number (cond b (inf s) nan) ≡ false
number_special s true = refl
number_special s false = refl

number_at : (s : Bool) (x t u : ℕ) (b : Bool) → number (cond b (cond (eqb t 0) (inf s) nan) (odd 53 s u x 1074)) ≡ cond b false (not s)
number_at s x t u true = number_special s (eqb t 0)
number_at s x t u false = number_odd s u x

-- only the largest exponent is no number's
number_fields : (s : Bool) (x t : ℕ) → number (of_fields binary64 s x t) ≡ cond (eqb x 2047) false (not s)
unfolding of_fields
number_fields s zero t = number_odd s t 0
number_fields s (suc x) t = number_at s x t (2 ^ 52 + t) (eqb (suc x) 2047)

-- ---- of the bits
abbrev sign_bit : ℕ
sign_bit = 0x8000000000000000

abbrev field_of : ℕ → ℕ
field_of b = b % sign_bit / 0x10000000000000

sign_test : (b : ℕ) (p : Bool) → leb sign_bit b ≡ p → not p ≡ ltb b sign_bit
sign_test b true e = sym (le-ltb b sign_bit (leb-true sign_bit b e))
sign_test b false e = sym (lt-ltb b sign_bit (leb-false sign_bit b e))

abbrev infinity_bits : ℕ
infinity_bits = 0x7ff0000000000000

number_test : (b : ℕ) (p q : Bool) → leb sign_bit b ≡ p → eqb (field_of b) 2047 ≡ q → cond q false (not p) ≡ ltb b infinity_bits
number_test b true true e f = sym (le-ltb b infinity_bits (omega (arith, leb-true sign_bit b e)))
number_test b true false e f = sym (le-ltb b infinity_bits (omega (arith, leb-true sign_bit b e)))
number_test b false true e f = sym (le-ltb b infinity_bits (omega (arith, leb-false sign_bit b e, eqb-true (field_of b) 2047 f)))
number_test b false false e f =
    let other = eqb-false (field_of b) 2047 f in
    sym (lt-ltb b infinity_bits (omega (arith, leb-false sign_bit b e, other)))

-- only zero with the sign bit clear has no bit
zero_bits_lem : (x : Float) → (to_bits binary64 x ≡ 0 → ⊥) → zero_bits x ≡ false
unfolding to_bits
zero_bits_lem nan h = refl
zero_bits_lem (inf s) h = refl
zero_bits_lem (fin true m e) h = refl
zero_bits_lem (fin false zero e) h = absurd (h (simp (zero-mul, zero-div)))
zero_bits_lem (fin false (suc m) e) h = ne_eqb (suc m) 0 (omega arith)

module _ (x : Float) (ok : T (fits binary64 x)) where
  pub elapsed_bits : T (not (is_nan x)) → elapsed x ≡ ltb (to_bits binary64 x) sign_bit
  unfolding of_bits
  elapsed_bits h =
      let b = to_bits binary64 x in
      let back = of_bits-to_bits binary64 x ok in
      let fields = elapsed_fields (leb sign_bit b) (field_of b) (b % 0x10000000000000) (subst (λ (y : Float). T (not (is_nan y))) (sym back) h) in
      ap elapsed (sym back) ∙ fields ∙ sign_test b _ refl

  pub number_bits : number x ≡ ltb (to_bits binary64 x) infinity_bits
  unfolding of_bits
  number_bits =
      let b = to_bits binary64 x in
      ap number (sym (of_bits-to_bits binary64 x ok)) ∙ number_fields (leb sign_bit b) (field_of b) (b % 0x10000000000000) ∙ number_test b _ _ refl refl

  zero_test : (b : Bool) → eqb (to_bits binary64 x) 0 ≡ b → zero_bits x ≡ b
  unfolding of_bits
  zero_test true e = ap zero_bits (sym (of_bits-to_bits binary64 x ok)) ∙ ap (λ (b : ℕ). zero_bits (of_bits binary64 b)) (eqb-true (to_bits binary64 x) 0 e)
  zero_test false e = zero_bits_lem x (eqb-false _ _ e)

  pub zero_bits_test : zero_bits x ≡ eqb (to_bits binary64 x) 0
  zero_bits_test = zero_test _ refl

-- ---- a number
abbrev nought : Float
nought = of_bits binary64 0

-- ---- the order from zero on
abbrev infinity : Float
infinity = of_bits binary64 0x7ff0000000000000

module _ (m : ℕ) (e : ℤ) where
  above : 0 < suc m * up e * 1
  above = let more = mul-pos (zero-lt-suc m) (up_pos e) in omega arith

pub from_zero : (x : Float) → le nought x ≡ true → lt x infinity ≡ number (cleaned x)
unfolding le lt eq of_bits of_fields odd
from_zero nan h = refl
from_zero (inf true) h = absurd (false≢true h)
from_zero (inf false) h = refl
from_zero (fin s zero e) h = refl
from_zero (fin false (suc m) e) h = refl
from_zero (fin true (suc m) e) h =
    let none : eqb 0 (suc m * up e * 1) ≡ false = ne_eqb 0 (suc m * up e * 1) (omega (arith, above m e)) in
    absurd (false≢true (rw (zero-mul (down e), none) at h))

pub under_zero : (x : Float) → le nought x ≡ false → false ≡ number (cleaned x)
unfolding le lt eq of_bits of_fields odd
under_zero nan h = refl
under_zero (inf true) h = refl
under_zero (inf false) h = absurd (false≢true (sym h))
under_zero (fin false zero e) h = absurd (false≢true (sym (rw (zero-mul (up e), zero-mul (down e)) at h)))
under_zero (fin true zero e) h = absurd (false≢true (sym (rw (zero-mul (up e), zero-mul (down e)) at h)))
under_zero (fin false (suc m) e) h =
    let some : ltb 0 (suc m * up e * 1) ≡ true = lt-ltb 0 (suc m * up e * 1) (above m e) in
    absurd (false≢true (sym (rw (zero-mul (down e), some) at h)))
under_zero (fin true (suc m) e) h = refl

-- ---- a limit where none is allowed
pub no_limit : (x : Float) → eq x nought ≡ zero_bits (cleaned x)
unfolding eq of_bits of_fields odd
no_limit nan = refl
no_limit (inf s) = refl
no_limit (fin true zero d) = rw (zero-mul (up d), zero-mul (down d))
no_limit (fin false zero d) = rw (zero-mul (up d), zero-mul (down d))
no_limit (fin s (suc m) d) =
    let more = mul-pos (zero-lt-suc m) (up_pos d) in
    rw (zero-mul (down d), ne_eqb (suc m * up d * 1) 0 (omega arith), ne_eqb (suc m) 0 (omega arith), and-false (not s))
