-- What writing answers, case by case.
use mathlib.Core.Path.{◌≡◌, sym, ◌∙◌}
use mathlib.Core.List.{List}
use Rattle.std.specs.Prelude.{Ok, Err}
use Prim.Native.Nat.{ℕ, ◌≤◌, ◌<◌, min}
use native.Mathlib.Omega.{arith}
use borrow.Author.Tests.{le-leb, lt-leb}
use lib.ListN.{length}
use Rattle.frames.specs.Line.{line, laid, wrote, answers_of}
use Rattle.frames.specs.Parts.{size_of}
use Rattle.frames.specs.declared.Frame.{Frame}
use Rattle.frames.specs.declared.Unwritten.{Unwritten}
use Rattle.frames.specs.Lengths.{length_line}

module _ (f : Frame) (ss ls room : List ℕ) (k : ℕ) (e : k ≡ answers_of f) where
  pub no_frame : min 1024 (min (length ss) (length ls)) < k → (Err Unwritten.NoFrame, room) ≡ wrote f ss ls room
  no_frame h = rw (lt-leb (answers_of f) (min 1024 (min (length ss) (length ls))) (omega arith))

  module _ (n : ℕ) (s : n ≡ size_of f) (few : k ≤ min 1024 (min (length ss) (length ls))) where
    pub too_short : length room < n → (Err Unwritten.TooShort, room) ≡ wrote f ss ls room
    too_short h =
        rw (
          le-leb (answers_of f) (min 1024 (min (length ss) (length ls))) (omega arith),
          lt-leb (length (line f ss ls)) (length room) (omega (arith, length_line f ss ls)),
        )

    pub bytes : (room' : List ℕ) → n ≤ length room → room' ≡ laid (line f ss ls) room → (Ok n, room') ≡ wrote f ss ls room
    bytes room' h p =
        rw (
          le-leb (answers_of f) (min 1024 (min (length ss) (length ls))) (omega arith),
          le-leb (length (line f ss ls)) (length room) (omega (arith, length_line f ss ls)),
        )
        (cc (p, s ∙ sym (length_line f ss ls)))
