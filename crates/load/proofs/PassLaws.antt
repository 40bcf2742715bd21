-- A Wait that is plainly good, and a run of such Waits.
use mathlib.Core.Path.{◌≡◌, refl, sym, ◌∙◌}
use mathlib.Core.Bool.{Bool, true, false, and-true}
use mathlib.Core.List.{List}
use Prim.Native.Nat.{ℕ, ◌+◌, ◌≤◌, ◌<◌}
use native.Mathlib.Omega.{arith}
use borrow.Author.Tests.{eqb-true, eqb-false, ltb-true, ltb-false}
use lib.Dec.{eqb, ltb}
use lib.Ieee.{Float, nan, binary64, of_bits, lt, le}
use lib.ListN.{length, get_or, set, length-set}
use lib.Seq.{get_or-set_same, get_or-set_other}
use Rattle.rules.specs.declared.behavior.Kind.TheVariants.{Wait}
use Rattle.rules.specs.Kinds.{kind_of}
use Rattle.rules.specs.Table.{cleaned, number, row_allowed}
use Rattle.rules.specs.Cells.{cell_of, elapsed, in_use, cell_allowed}
use Rattle.tables.proofs.Bits.{from_zero}
use Rattle.refine.specs.Words.{pack}
use Rattle.load.specs.Scans.{PlainWait, Passes}

-- ---- a limit that is not below zero, and below infinity
abbrev nought : Float
nought = of_bits binary64 0

abbrev infinity : Float
infinity = of_bits binary64 0x7ff0000000000000

pub between : (x : Float) → le nought x ≡ true → lt x infinity ≡ true → number (cleaned x) ≡ true
between x a b = sym (from_zero x a) ∙ b

-- ---- the cell of a Wait without a place
module _ (m : Bool) (x : Float) (k : ℕ) where
  pub unmarked : k ≡ 0 → elapsed x ≡ in_use m Wait 0 (cell_of x 0 k)
  unmarked h = rw h (sym (and-true (elapsed x)))

pub plain : (m : Bool) (k n p : ℕ) (l x : Float) (mark : ℕ) → k + n + p ≤ 0 → number (cleaned l) ≡ true → in_use m Wait 0 (cell_of x 0 mark) ≡ true → PlainWait m k n l x p mark
unfolding row_allowed cell_allowed kind_of
plain m k n p l x mark z a b =
    let k-zero : k ≡ 0 = omega arith in
    let n-zero : n ≡ 0 = omega arith in
    let p-zero : p ≡ 0 = omega arith in
    record { code = k-zero; at_start = p-zero; row = rw (k-zero, n-zero, a); cell = rw (k-zero, p-zero) b }

-- ---- no Wait yet
pub passes_none : {kinds ns : List ℕ} {limits times : List Float} {places marks : List ℕ} {m : Bool} {ws : List ℕ} {from to : ℕ}
    → from ≤ to
    → length ws ≡ 260
    → Passes kinds ns limits times places marks m ws ws from to from
passes_none h l = record {
  lower = omega arith;
  upper = h;
  long = l;
  plain = λ i a b. absurd (omega (arith, a, b));
  word = λ i a b. absurd (omega (arith, a, b));
  before = λ i a. refl;
  behind = λ i a. refl;
}

-- ---- a run behind a run
pub passes_then : {kinds ns : List ℕ} {limits times : List Float} {places marks : List ℕ} {m : Bool} {ws₀ ws ws' : List ℕ} {from to mid r : ℕ}
    → Passes kinds ns limits times places marks m ws₀ ws from to mid
    → Passes kinds ns limits times places marks m ws ws' mid to r
    → Passes kinds ns limits times places marks m ws₀ ws' from to r
passes_then {mid = mid} h g = record {
  lower = omega (arith, h.lower, g.lower);
  upper = g.upper;
  long = g.long;
  plain = λ i a b. in_either i (λ z. h.plain i a z) (λ z. g.plain i z b);
  word = λ i a b. in_either i (λ z. g.before i z ∙ h.word i a z) (λ z. g.word i z b);
  before = λ i a. g.before i (omega (arith, a, h.lower)) ∙ h.before i a;
  behind = λ i a. g.behind i a ∙ h.behind i (omega (arith, a, g.lower));
}
  where
    in_either : (i : ℕ) {P : Type 0} → (i < mid → P) → (mid ≤ i → P) → P
    in_either i {P} f s = go (ltb i mid) refl
      where
        go : (b : Bool) → ltb i mid ≡ b → P
        go true e = f (ltb-true i mid e)
        go false e = s (ltb-false i mid e)

-- ---- one Wait more
module _ {kinds ns : List ℕ} {limits times : List Float} {places marks : List ℕ} {m : Bool} {ws₀ ws : List ℕ} {from to at : ℕ} where
  module _ (h : Passes kinds ns limits times places marks m ws₀ ws from to at) (inside : at < to) (low : to ≤ 256)
      (here : PlainWait m (get_or kinds at 0) (get_or ns at 0) (get_or limits at nan) (get_or times at nan) (get_or places at 0) (get_or marks at 0))
      (w : ℕ) (is : w ≡ pack 0 0 0 (get_or marks at 0) false 0) where
    long_at : at < length ws
    long_at = omega (arith, h.long)

    upto : (i : ℕ) → i < at + 1 → (P : ℕ → Type 0) → (i < at → P i) → P at → P i
    upto i a P f g = go (eqb i at) refl
      where
        go : (b : Bool) → eqb i at ≡ b → P i
        go true e = let z = eqb-true i at e in rw z g
        go false e = f (omega (arith, eqb-false i at e))

    word_here : get_or (set ws at w) at 0 ≡ pack 0 (get_or kinds at 0) (get_or places at 0) (get_or marks at 0) false 0
    word_here = rw (here.code, here.at_start) (get_or-set_same ws at w 0 long_at ∙ is)

    pub passes_more : Passes kinds ns limits times places marks m ws₀ (set ws at w) from to (at + 1)
    passes_more = record {
      lower = omega (arith, h.lower);
      upper = omega arith;
      long = length-set ws at w ∙ h.long;
      plain = λ i a b. upto i b
          (λ j. PlainWait m (get_or kinds j 0) (get_or ns j 0) (get_or limits j nan) (get_or times j nan) (get_or places j 0) (get_or marks j 0)) (λ z. h.plain i a z) here;
      word = λ i a b. upto i b
          (λ j. get_or (set ws at w) j 0 ≡ pack 0 (get_or kinds j 0) (get_or places j 0) (get_or marks j 0) false 0)
          (λ z. get_or-set_other ws at i w 0 (omega (arith, z)) ∙ h.word i a z) word_here;
      before = λ i a. get_or-set_other ws at i w 0 (omega (arith, a, h.lower)) ∙ h.before i a;
      behind = λ i a. get_or-set_other ws at i w 0 (omega (arith, a)) ∙ h.behind i (omega (arith, a));
    }
