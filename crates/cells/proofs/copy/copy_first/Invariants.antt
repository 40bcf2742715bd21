-- What stands before i is copied.
use Rattle.cells.proofs.Copies.{Copying}
use Rattle.cells.proofs.copy.copy_first.Given as goal

abbrev pub invariant-loop-i : goal.invariant-loop-i
invariant-loop-i g l = Copying l.from l.initial.to l.n l.i l.to
