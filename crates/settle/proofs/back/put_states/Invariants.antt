-- What stands before i is put back.
use Rattle.work.specs.Word.{place_of, mark_of, seen_of}
use Rattle.settle.proofs.BackLaws.{Putting}
use Rattle.settle.proofs.back.put_states.Given as goal

abbrev pub invariant-loop-i : goal.invariant-loop-i
invariant-loop-i l =
    Putting place_of l.work l.initial.places l.n l.i l.places × Putting mark_of l.work l.initial.marks l.n l.i l.marks
    × Putting seen_of l.work l.initial.board l.n l.i l.board
