-- When a float is a whole time: exactly when the number that it is cut to, as a float, has its bits.
use Rattle.std.proofs.Common.{◌≡◌, ℕ, ◌+◌, ◌-◌, ◌*◌, ◌/◌, ◌^◌, ◌<◌, ◌≤◌, max, Bool, true, false, cond, not, T, ltb, leb, pos}
use Rattle.std.proofs.Common.{sym, refl, ap, ◌∙◌, subst, div-lt_iff_lt-mul, not-le_of_lt, arith, le→leb, ltb→lt, lt→ltb, leb→le, le-leb}
use lib.Ieee.{Float, Format, nan, inf, fin, binary32, binary64, up, down, lt, fits, is_nan, whole, in_unsigned, in_float, to_unsigned, of_int, of_bits, to_bits}
use lib.Ieee.Bits.{is_true, of_bits-to_bits}
use lib.Ieee.Fits.{and_l, and_r, down_pos, of_int-fits}
use lib.Ieee.Back.{unsigned_back, Float-back_unsigned}
use Rattle.rules.specs.Bound.{cap, num, whole_time, own_ticks}
use Rattle.std.specs.Prelude.{Option, Some, None}
use Rattle.std.specs.Int.{div_ceil}
use Rattle.std.proofs.lemmas.Grind.{div_ceil_times}
use Rattle.std.proofs.Math.Nat.{div-eq_of_lt-le, add-mul, one-mul}
use Rattle.limits.specs.Whole.{whole_of}

-- ---- division that rounds up
rounded_up : (l d : ℕ) → 0 < d → (l + (d - 1)) / d ≡ div_ceil l d
rounded_up l d h = let b = div_ceil_times l d h in div-eq_of_lt-le d (omega arith) (rw (add-mul, one-mul) (omega arith))

-- ---- the largest whole time, in either format
pub cap_most : (F : Format) → cap F ≤ 2 ^ 40
cap_most binary32 = omega arith
cap_most binary64 = omega arith

pub whole_float : (F : Format) (n : ℕ) → n ≤ cap F → T (in_float F (pos n))
unfolding in_float
whole_float binary32 n h = le→leb n (2 ^ 24) (omega arith)
whole_float binary64 n h = le→leb n (2 ^ 53) (omega arith)

module _ (F : Format) where
  -- ---- the parts of the test
  whole_in : (x : Float) → T (whole_time F x) → T (in_unsigned F 64 x)
  unfolding whole_time
  whole_in x h = and_l (in_unsigned F 64 x) (leb (num x) (cap F)) h

  whole_small : (x : Float) → T (whole_time F x) → num x ≤ cap F
  unfolding whole_time
  whole_small x h = leb→le (num x) (cap F) (and_r (in_unsigned F 64 x) (leb (num x) (cap F)) h)

  whole_no : (x : Float) → (T (whole_time F x) → ⊥) → None ≡ whole_of F x
  whole_no x = go (whole_time F x)
    where
      go : (b : Bool) → (T b → ⊥) → None ≡ cond b (Some (num x)) None
      go true h = absurd (h tt)
      go false h = refl

  in_no_nan : (x : Float) → T (in_unsigned F 64 x) → T (not (is_nan x))
  unfolding in_unsigned is_nan
  in_no_nan nan h = absurd h
  in_no_nan (inf s) h = tt
  in_no_nan (fin s m e) h = tt

  -- ---- the number as a float
  whole_back : (n : ℕ) → n ≤ cap F → T (in_unsigned F 64 (of_int F (pos n))) × (to_unsigned 64 (of_int F (pos n)) ≡ n)
  whole_back n h = unsigned_back F 64 n (whole_float F n h) (omega (arith, cap_most F))

  pub whole_no_nan : (n : ℕ) → n ≤ cap F → T (not (is_nan (of_int F (pos n))))
  whole_no_nan n h = in_no_nan (of_int F (pos n)) (whole_back n h).0

  -- ---- the ways through the test
  module _ (x : Float) (n : ℕ) (f : T (fits F x)) (e : n ≡ to_unsigned 64 x) where
    pub whole_yes : n ≤ cap F → to_bits F (of_int F (pos n)) ≡ to_bits F x → Some n ≡ whole_of F x
    unfolding whole_time num
    whole_yes h q =
        let back = of_bits-to_bits F (of_int F (pos n)) (of_int-fits F (pos n)) in
        let same : x ≡ of_int F (pos n) = sym (of_bits-to_bits F x f) ∙ ap (of_bits F) (sym q) ∙ back in
        let test : in_unsigned F 64 x ≡ true = is_true (in_unsigned F 64 x) (rw same (whole_back n h).0) in
        let small : leb n (cap F) ≡ true = le-leb n (cap F) h in
        rw (test, ← e, small)

    pub whole_other : (to_bits F (of_int F (pos n)) ≡ to_bits F x → ⊥) → None ≡ whole_of F x
    whole_other q = whole_no x (λ t. q (ap (to_bits F) (rw e (Float-back_unsigned F 64 x f (whole_in x t)).1)))

  pub whole_large : (x : Float) (n : ℕ) → n ≡ to_unsigned 64 x → cap F < n → None ≡ whole_of F x
  unfolding num
  whole_large x n e h = whole_no x (λ t. not-le_of_lt h (rw e (whole_small x t)))

  in_high : (x : Float) → T (in_unsigned F 64 x) → T (lt x (fin false 1 (pos 64)))
  unfolding in_unsigned lt
  in_high nan t = absurd t
  in_high (inf s) t = absurd t
  in_high (fin true m e) t = absurd (and_r (whole F (fin true m e)) false t)
  in_high (fin false m e) t =
      let small : m * up e / down e < 2 ^ 64 = ltb→lt (m * up e / down e) (2 ^ 64) (and_r (whole F (fin false m e)) (ltb (m * up e / down e) (2 ^ 64)) t) in
      let cross : m * up e < 2 ^ 64 * down e = (div-lt_iff_lt-mul (down_pos e)).0 small in
      lt→ltb (m * up e * 1) (1 * 2 ^ 64 * down e) (omega arith)

  in_low : (x : Float) → T (in_unsigned F 64 x) → T (lt (fin true 1 (pos 0)) x)
  unfolding in_unsigned lt
  in_low nan t = absurd t
  in_low (inf s) t = absurd t
  in_low (fin true m e) t = absurd (and_r (whole F (fin true m e)) false t)
  in_low (fin false m e) t = lt→ltb 0 (1 * 2 ^ 0 * down e + m * up e * 1) (omega (arith, down_pos e))

  pub whole_high : (x : Float) → lt x (fin false 1 (pos 64)) ≡ false → None ≡ whole_of F x
  whole_high x h = whole_no x (λ t. subst T h (in_high x (whole_in x t)))

  pub whole_low : (x : Float) → lt (fin true 1 (pos 0)) x ≡ false → None ≡ whole_of F x
  whole_low x h = whole_no x (λ t. subst T h (in_low x (whole_in x t)))

  -- ---- the ticks of a limit, w being what is found of it
  module _ (x : Float) (w : Option ℕ) (e : w ≡ whole_of F x) where
    pub whole_known : (n : ℕ) → w ≡ Some n → (whole_time F x ≡ true) × (n ≡ num x) × (n ≤ cap F)
    whole_known n q = go (whole_time F x) refl (whole_small x) (sym q ∙ e)
      where
        go :
            (b : Bool) → whole_time F x ≡ b → (T b → num x ≤ cap F) → Some n ≡ cond b (Some (num x)) None →
            (whole_time F x ≡ true) × (n ≡ num x) × (n ≤ cap F)
        go true t h f = let q : n ≡ num x = cc in (t, q, rw q (h tt))
        go false t h f = let z : ◌≡◌ {A = ℕ} 0 1 = cc in absurd (omega arith)

    pub whole_none : w ≡ None → whole_time F x ≡ false
    whole_none q = go (whole_time F x) (sym q ∙ e)
      where
        go : (b : Bool) → None ≡ cond b (Some (num x)) None → b ≡ false
        go true f = let z : ◌≡◌ {A = ℕ} 0 1 = cc in absurd (omega arith)
        go false f = refl

    -- the larger of 1 and l/d rounded up
    pub rounded : (d l : ℕ) → w ≡ Some l → 0 < d → max (div_ceil l d) 1 ≡ own_ticks d x
    rounded d l q h = let e = rounded_up l d h in rw (← (whole_known l q).1, e) (omega arith)
