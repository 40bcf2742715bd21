-- A number of w digits in front of a run: found, or not there.
use mathlib.Core.Path.{◌≡◌, sym, ap, ◌∙◌}
use mathlib.Core.List.{List, [], ◌∷◌, ◌++◌}
use Prim.Native.Nat.{ℕ, suc, ◌+◌, ◌*◌, ◌^◌, ◌≤◌, ◌<◌}
use native.Mathlib.Nat.{pow-le-pow_right, zero-lt-suc}
use native.Mathlib.Numerals.{add-one}
use native.Mathlib.Omega.{arith}
use lib.ListN.{length, get_or, take, length-append, get_or-append}
use lib.Seq.{take-suc, get_or-take}
use Rattle.std.specs.Prelude.{Some, None}
use Rattle.frames.specs.Hex.{digit, digits}
use Rattle.frames.specs.Parts.{Nibble}
use Rattle.frames.specs.Digits.{length_digits, digits_more, digits_at, small_more}

-- too few bytes are left
pub too_short : (s : List ℕ) (w v : ℕ) (t : List ℕ) → length s < w → s ≡ digits w v ++ t → ⊥
too_short s w v t h e = omega (arith, length_digits w v, simp length-append at (ap length e))

-- a byte there is no digit
pub no_digit : (s : List ℕ) (w i v : ℕ) (t : List ℕ) → i < w → Nibble (get_or (take w s) i 0) None → s ≡ digits w v ++ t → ⊥
no_digit s w i v t h none e =
    let d = digits_at w v i h in
    let q : get_or (take w s) i 0 ≡ digit d.0 =
    get_or-take w s i 0 h ∙ ap (λ (l : List ℕ). get_or l i 0) e ∙ get_or-append (digits w v) t 0 i (rw (length_digits w v) h) ∙ d.2 in
    none d.0 d.1 q

-- one digit more was read
pub one_more : (s : List ℕ) (i v d : ℕ) → i < length s → Nibble (get_or s i 0) (Some d)
    → take i s ≡ digits i v → take (i + 1) s ≡ digits (i + 1) (v * 16 + d)
one_more s i v d h nib e =
    rw (add-one i)
    (take-suc s i 0 h
    ∙ ap (λ (l : List ℕ). l ++ (get_or s i 0 ∷ [])) e
    ∙ ap (λ (b : ℕ). digits i v ++ (b ∷ [])) nib.1
    ∙ sym (digits_more i v d nib.0))

pub one_fits : (i w v n : ℕ) → i < w → w ≤ 16 → v < 16 ^ i → n < 16 → v * 16 + n < 2 ^ 64
one_fits i w v n h k l m =
    omega (arith, small_more i v n l m, pow-le-pow_right {n = 16} (zero-lt-suc 15) {i = suc i} {j = 16} (omega arith))

pub one_small : (i v n : ℕ) → v < 16 ^ i → n < 16 → v * 16 + n < 16 ^ (i + 1)
one_small i v n l m = rw (add-one i) (small_more i v n l m)
