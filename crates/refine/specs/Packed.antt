-- Reads of a packed word give its parts, and writes to it pack it anew.
use Rattle.std.specs.Prelude.{◌≡◌, refl, Bool, true, false, ℕ, ◌<◌, ◌/◌, ◌%◌, eqb}
use native.Mathlib.Omega.{arith}
use Rattle.rules.specs.declared.behavior.Kind.{Kind}
use Rattle.rules.specs.Kinds.{code}
use Rattle.rules.specs.Codes.{code_small, kind_code}
use Rattle.work.specs.Word.{below_of, code_of, kind_in, place_of, mark_of, anew_of, seen_of, with_place, with_mark, with_seen, fresh_word}
use Rattle.refine.specs.Words.{bit, pack}

bit_small : (a : Bool) → bit a < 2
bit_small true = omega arith
bit_small false = omega arith

module _ (s : ℕ) (k : Kind) (p m : ℕ) (a : Bool) (b : ℕ) where
  pub below_pack : s < 256 → below_of (pack s (code k) p m a b) ≡ s
  unfolding pack below_of
  below_pack l = omega arith

  code_pack : code_of (pack s (code k) p m a b) ≡ code k
  unfolding pack code_of
  code_pack = omega (arith, code_small k, bit_small a)

  pub kind_pack : kind_in (pack s (code k) p m a b) ≡ k
  kind_pack = rw code_pack (kind_code k)

  pub place_pack : p < 256 → place_of (pack s (code k) p m a b) ≡ p
  unfolding pack place_of
  place_pack l = omega (arith, code_small k, bit_small a)

  pub mark_pack : m < 2 → mark_of (pack s (code k) p m a b) ≡ m
  unfolding pack mark_of
  mark_pack l = omega (arith, code_small k, bit_small a)

  bit_back : eqb (bit a) 1 ≡ a
  bit_back = on a
    where
      on : (a : Bool) → eqb (bit a) 1 ≡ a
      on true = refl
      on false = refl

  pub anew_pack : anew_of (pack s (code k) p m a b) ≡ a
  unfolding pack anew_of
  anew_pack =
      let the-bit : pack s (code k) p m a b / 33554432 % 2 ≡ bit a = omega (arith, code_small k, bit_small a) in
      rw the-bit bit_back

  pub seen_pack : seen_of (pack s (code k) p m a b) ≡ b
  unfolding pack seen_of
  seen_pack = omega (arith, code_small k, bit_small a)

  pub put_place : (i : ℕ) → with_place (pack s (code k) p m a b) i ≡ pack s (code k) i m a b
  unfolding pack with_place
  put_place i = omega (arith, code_small k, bit_small a)

  pub put_mark : with_mark (pack s (code k) p m a b) ≡ pack s (code k) p 1 a b
  unfolding pack with_mark
  put_mark = omega (arith, code_small k, bit_small a)

  pub put_seen : (i : ℕ) → i < 4 → with_seen (pack s (code k) p m a b) i ≡ pack s (code k) p m a i
  unfolding pack with_seen
  put_seen i l = omega (arith, code_small k, bit_small a)

  pub put_fresh : fresh_word (pack s (code k) p m a b) ≡ pack s (code k) 0 0 true b
  unfolding pack fresh_word
  put_fresh = omega (arith, code_small k, bit_small a)
