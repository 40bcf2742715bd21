-- A frame without answers has room in 45 bytes, and its line does not look at any answers.
use Rattle.std.proofs.Common.{◌≡◌, ℕ, ◌≤◌, min, List, [], ◌++◌, length, ap, ◌∙◌, arith, le-leb}
use Rattle.frames.specs.declared.Frame.{Frame}
use Rattle.frames.specs.declared.Frame.TheVariants.{Node, Asked, Said, Malformed}
use Rattle.frames.specs.declared.Unwritten.{Unwritten}
use Rattle.std.specs.Prelude.{Result, Ok}
use Rattle.std.specs.Result.{result_unwrap_or}
use Rattle.frames.specs.Hex.{digits}
use Rattle.frames.specs.Line.{Field, answers_of, fields, kind_of, line, laid, wrote}
use Rattle.frames.specs.Parts.{size_of}
use Rattle.frames.specs.Undo.{body_agree}
use Rattle.frames.specs.Lengths.{length_line}
use Rattle.bench_line.specs.Bench.{printed}
use Rattle.bench_line.specs.Held.{Prints}

small : (f : Frame) → answers_of f ≡ 0 → size_of f ≤ 45
small (Node kind n limit) e = omega arith
small (Asked call event fuel count) e = omega arith
small (Said call num status time visits used extra) e = omega arith
small (Malformed number) e = omega arith

module _ (f : Frame) (ss ls room : List ℕ) (none : answers_of f ≡ 0) where
  alike : line f ss ls ≡ printed f
  alike = ap (λ (fs : List Field). digits 2 (kind_of f) ++ fields fs) (body_agree f ss ls [] [] (rw none))

  writes : 45 ≤ length room → wrote f ss ls room ≡ (Ok (length (printed f)), laid (printed f) room)
  writes h =
      let l : length (printed f) ≤ length room = omega (arith, length_line f [] [], small f none) in
      let few : answers_of f ≤ min 1024 (min (length ss) (length ls)) = omega (arith, none) in
      rw (alike, le-leb (answers_of f) (min 1024 (min (length ss) (length ls))) few, le-leb (length (printed f)) (length room) l)

  pub prints : 45 ≤ length room → (r : Result ℕ Unwritten) (room' : List ℕ) (n : ℕ) → ◌≡◌ {A = Result ℕ Unwritten × List ℕ} (r, room') (wrote f ss ls room)
      → n ≡ result_unwrap_or r 0 → Prints (printed f) room n room'
  prints h r room' n e u =
      let w = e ∙ writes h in
      record {
        count = u ∙ ap (λ (x : Result ℕ Unwritten × List ℕ). result_unwrap_or x.0 0) w;
        bytes = ap (λ (x : Result ℕ Unwritten × List ℕ). x.1) w;
      }
