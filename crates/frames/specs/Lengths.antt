-- How long a frame's line is.
use Rattle.std.specs.Prelude.{◌≡◌, refl, List, [], ◌∷◌, ℕ, zero, suc, ◌+◌, ◌*◌, ◌≤◌, length}
use Rattle.std.proofs.Common.{arith, length-append}
use Rattle.frames.specs.Hex.{digits}
use Rattle.frames.specs.Digits.{length_digits}
use Rattle.frames.specs.Line.{Field, Good, fields, kind_of, body, answers, answers_of, line}
use Rattle.frames.specs.Parts.{size_of, span}
use Rattle.frames.specs.declared.Frame.{Frame}
use Rattle.frames.specs.declared.Frame.TheVariants.{Node, Asked, Said, Malformed}

pub answers_span : (k i : ℕ) (ss ls : List ℕ) → span (answers k i ss ls) ≡ 20 * k
answers_span zero i ss ls = refl
answers_span (suc k) i ss ls = omega (arith, answers_span k (suc i) ss ls)

length_fields : (fs : List Field) → length (fields fs) ≡ span fs + 1
length_fields [] = refl
length_fields (f ∷ fs) =
    omega (
      arith,
      length-append (32 ∷ digits f.0 f.1) (fields fs),
      length_digits f.0 f.1,
      length_fields fs,
    )

body_span : (f : Frame) (ss ls : List ℕ) → 3 + span (body f ss ls) ≡ size_of f
body_span (Node kind n limit) ss ls = refl
body_span (Asked c event fuel count) ss ls = omega (arith, answers_span count 0 ss ls)
body_span (Said c num status time visits used extra) ss ls = refl
body_span (Malformed number) ss ls = refl

pub length_line : (f : Frame) (ss ls : List ℕ) → length (line f ss ls) ≡ size_of f
length_line f ss ls =
    omega (
      arith,
      length-append (digits 2 (kind_of f)) (fields (body f ss ls)),
      length_digits 2 (kind_of f),
      length_fields (body f ss ls),
      body_span f ss ls,
    )

-- a call with 1,024 answers has the longest
most : (f : Frame) → answers_of f ≤ 1024 → size_of f ≤ 20517
most (Node kind n limit) h = omega arith
most (Asked c event fuel count) h = omega arith
most (Said c num status time visits used extra) h = omega arith
most (Malformed number) h = omega arith

pub longest : (f : Frame) (ss ls : List ℕ) → Good f ss ls → length (line f ss ls) ≤ 20517
longest f ss ls g = omega (arith, length_line f ss ls, most f g.few)
