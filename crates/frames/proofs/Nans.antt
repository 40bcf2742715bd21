-- A pattern's time, a time's pattern, and a run of them.
use mathlib.Core.Path.{◌≡◌, refl, sym, ap, subst, ◌∙◌}
use mathlib.Core.Bool.{Bool, true, not}
use mathlib.Core.List.{List, [], ◌∷◌}
use Prim.Native.Nat.{ℕ, zero, suc, ◌+◌, ◌%◌, ◌≤◌, ◌<◌, min}
use native.Mathlib.Numerals.{add-one}
use native.Mathlib.Omega.{arith}
use borrow.Author.Tests.{lt-ltb, le-ltb}
use lib.Dec.{T}
use lib.Ieee.{Float, nan, inf, fin, binary64, is_nan, of_bits, to_bits, nan_bits}
use lib.Ieee.Bits.{nan_bits_is, nan_bits_above}
use lib.ListN.{length, get_or, set}
use Rattle.frames.specs.Times.{timed}

is_nan_lem : (x : Float) → is_nan x ≡ true → x ≡ nan
unfolding is_nan
is_nan_lem nan e = refl
is_nan_lem (inf s) e = absurd (subst T (sym e) tt)
is_nan_lem (fin s m e) q = absurd (subst T (sym q) tt)

-- a pattern above an infinity's, the sign left out
pub time_nan : (n : ℕ) → 0x7ff0_0000_0000_0000 < n % 0x8000_0000_0000_0000 → nan ≡ of_bits binary64 n
time_nan n h = sym (is_nan_lem (of_bits binary64 n) (sym (nan_bits_is binary64 n) ∙ nan_bits_above binary64 n ∙ lt-ltb _ _ h))

pub pattern_defined : (n : ℕ) → n % 0x8000_0000_0000_0000 ≤ 0x7ff0_0000_0000_0000 → T (not (nan_bits binary64 n))
pattern_defined n h = subst (λ (b : Bool). T (not b)) (sym (nan_bits_above binary64 n ∙ le-ltb _ _ h)) tt

pub the_nan : of_bits binary64 0x7ff8_0000_0000_0000 ≡ nan
unfolding of_bits
the_nan = refl

pub nan_pattern : (x : Float) → is_nan x ≡ true → 0x7ff8_0000_0000_0000 ≡ to_bits binary64 x
unfolding to_bits
nan_pattern x e = sym (ap (to_bits binary64) (is_nan_lem x e))

-- ---- a run
length_timed : (n : ℕ) (bs : List ℕ) (ts : List Float) → length (timed n bs ts) ≡ length ts
length_timed zero bs ts = refl
length_timed (suc n) [] ts = refl
length_timed (suc n) (b ∷ bs) [] = refl
length_timed (suc n) (b ∷ bs) (t ∷ ts) = ap suc (length_timed n bs ts)

timed_suc : (i : ℕ) (bs : List ℕ) (ts : List Float) → i < length bs → i < length ts
    → set (timed i bs ts) i (of_bits binary64 (get_or bs i 0)) ≡ timed (suc i) bs ts
timed_suc i [] ts h k = absurd (omega arith)
timed_suc i (b ∷ bs) [] h k = absurd (omega arith)
timed_suc zero (b ∷ bs) (t ∷ ts) h k = refl
timed_suc (suc i) (b ∷ bs) (t ∷ ts) h k = ap (λ (l : List Float). of_bits binary64 b ∷ l) (timed_suc i bs ts (omega arith) (omega arith))

pub timed_more : (i : ℕ) (bs : List ℕ) (ts : List Float) → i < length bs → i < length ts
    → set (timed i bs ts) i (of_bits binary64 (get_or bs i 0)) ≡ timed (i + 1) bs ts
timed_more i bs ts h k = timed_suc i bs ts h k ∙ ap (λ (j : ℕ). timed j bs ts) (sym (add-one i))

-- more of them change nothing where one of the two is at its end
pub timed_end : (i n : ℕ) (bs : List ℕ) (ts : List Float) → i ≡ min n (min (length bs) (length ts)) → timed i bs ts ≡ timed n bs ts
timed_end zero zero bs ts e = refl
timed_end zero (suc n) [] ts e = refl
timed_end zero (suc n) (b ∷ bs) [] e = refl
timed_end zero (suc n) (b ∷ bs) (t ∷ ts) e = absurd (omega arith)
timed_end (suc i) zero bs ts e = absurd (omega arith)
timed_end (suc i) (suc n) [] ts e = refl
timed_end (suc i) (suc n) (b ∷ bs) [] e = refl
timed_end (suc i) (suc n) (b ∷ bs) (t ∷ ts) e = ap (λ (l : List Float). of_bits binary64 b ∷ l) (timed_end i n bs ts (omega arith))
