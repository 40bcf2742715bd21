-- Laws of lists, of what is seen and of the working array.
use mathlib.Core.Path.{◌≡◌, refl, sym, ap, ◌∙◌}
use mathlib.Core.List.{List, [], ◌∷◌}
use Prim.Native.Nat.{ℕ, zero, suc, ◌+◌, ◌-◌, ◌%◌, ◌≤◌, ◌<◌}
use types.Run.{OneOf}
use denote.Enum.Declared.{tag_of}
use native.Mathlib.Omega.{arith}
use native.Mathlib.Numerals.{sub-one}
use borrow.Author.Tests.{le-leb, lt-leb}
use lib.Bits.{bit_or, or_add_and, and_le_l, and_le_r, or_mod}
use lib.Ieee.{Float}
use borrow.Rule.Slice.PartMut.{mid_of}
use lib.ListN.{length, get_or, set, drop, length-drop}
use Rattle.std.specs.List.{fold}
use Rattle.std.proofs.lemmas.List.{get_or-take, get_or-drop, length-take-le}
use lib.Seq.{set-get_or, get_or-set_same}
use Rattle.rules.specs.Tree.{zero_time}
use Rattle.work.specs.declared.result.Seen.{Seen}
use Rattle.work.specs.Word.{below_of, fresh_word}
use Rattle.work.specs.Array.{word_at, Covered, end_of, fresh_words, fresh_times, child_from}
use Rattle.work.specs.contracts.result.Seen.{the_type}

-- what stands past the end does not matter within the list
pub any_default : {A : Type 0} (l : List A) (i : ℕ) (d e : A) → i < length l → get_or l i d ≡ get_or l i e
any_default l i d e h = sym (get_or-set_same l i (get_or l i d) e h) ∙ ap (λ l. get_or l i e) (set-get_or l i d)

-- all bits of two numbers are no less than either
pub or_first : (a b : ℕ) → a ≤ bit_or a b
or_first a b = omega (arith, or_add_and a b, and_le_r a b)

pub or_second : (a b : ℕ) → b ≤ bit_or a b
or_second a b = omega (arith, or_add_and a b, and_le_l a b)

pub covered_first : {w : ℕ} (a b : ℕ) → Covered w a → Covered w (bit_or a b)
unfolding below_of
covered_first a b c = record {
  whole = omega (arith, c.whole, or_first a b);
  below = rw (or_mod a b 8) (omega (arith, c.below, or_first (a % 256) (b % 256)));
}

pub covered_second : (a b : ℕ) → Covered b (bit_or a b)
unfolding below_of
covered_second a b = record { whole = or_second a b; below = rw (or_mod a b 8) (or_second (a % 256) (b % 256)) }

-- one of the words that a fold goes over
covered_all : {w : ℕ} (a : ℕ) (ws : List ℕ) → Covered w a → Covered w (fold bit_or a ws)
covered_all a [] c = c
covered_all a (v ∷ ws) c = covered_all (bit_or a v) ws (covered_first a v c)

covered_one : (a : ℕ) (ws : List ℕ) (i : ℕ) → i < length ws → Covered (word_at ws i) (fold bit_or a ws)
covered_one a [] i h = absurd (omega arith)
covered_one a (v ∷ ws) zero h = covered_all (bit_or a v) ws (covered_second a v)
covered_one a (v ∷ ws) (suc i) h = covered_one (bit_or a v) ws i (omega arith)

-- one of k words, from the one at `at` on
pub covered_part : (ws : List ℕ) (at k i a : ℕ) → i < k → at + k ≤ length ws → Covered (word_at ws (at + i)) (fold bit_or a (mid_of at k ws))
covered_part ws at k i a h n =
    let long : length (mid_of at k ws) ≡ k = length-take-le k (drop at ws) (rw length-drop (omega arith)) in
    rw (get_or-take k (drop at ws) i 0 h, get_or-drop at ws i 0) at (covered_one a (mid_of at k ws) i (omega arith))

-- what has one of these numbers: a `match` tells it of an arm
abbrev pub Among : List ℕ → Seen → Type 0
Among ns s = OneOf ns (tag_of the_type s)

-- ---- one node more is fresh, or none
pub fresh_word_one : (q n m : ℕ) (ws : List ℕ) (w : ℕ) → n ≡ suc m → w ≡ fresh_word (word_at ws q) → fresh_words (q + 1) m (set ws q w) ≡ fresh_words q n ws
unfolding fresh_words
fresh_word_one q n m ws w e g = rw (e, g)

pub fresh_word_none : (q n : ℕ) (ws : List ℕ) → n ≡ 0 → fresh_words q n ws ≡ ws
unfolding fresh_words
fresh_word_none q n ws e = rw e

pub fresh_time_one : (q n m : ℕ) (ts ts' : List Float) → n ≡ suc m → ts' ≡ set ts q zero_time → fresh_times (q + 1) m ts' ≡ fresh_times q n ts
unfolding fresh_times
fresh_time_one q n m ts ts' e g = rw (e, g)

pub fresh_time_none : (q n : ℕ) (ts : List Float) → n ≡ 0 → fresh_times q n ts ≡ ts
unfolding fresh_times
fresh_time_none q n ts e = rw e

-- ---- a child: behind the last, one further, or here
module _ (ws : List ℕ) (stop : ℕ) where
  pub child_over : (i q : ℕ) → stop ≤ q → child_from ws stop i q ≡ q
  unfolding child_from
  child_over zero q h = refl
  child_over (suc i) q h = rw (le-leb stop q h)

  pub child_next : (i j q a : ℕ) → 0 < i → j ≡ i - 1 → q < stop → a ≡ end_of ws q → child_from ws stop j a ≡ child_from ws stop i q
  unfolding child_from
  child_next zero j q a h f g e = absurd (omega arith)
  child_next (suc i) j q a h f g e = rw (f, sub-one (suc i), lt-leb stop q g, e)

  pub child_here : (i q : ℕ) → i ≡ 0 → child_from ws stop i q ≡ q
  unfolding child_from
  child_here i q e = rw e
