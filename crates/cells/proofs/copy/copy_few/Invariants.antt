-- Of each slice what stands before i is copied.
use Rattle.lent.specs.Lent.{SameCells}
use Rattle.cells.proofs.Copies.{Copying}
use Rattle.cells.proofs.copy.copy_few.Given as goal

abbrev pub invariant-loop-i : goal.invariant-loop-i
invariant-loop-i l = record {
  times : Copying l.from.times.now l.initial.to.times.now l.n l.i l.to.times.now;
  places : Copying l.from.places.now l.initial.to.places.now l.n l.i l.to.places.now;
  marks : Copying l.from.marks.now l.initial.to.marks.now l.n l.i l.to.marks.now;
  sinces : Copying l.from.sinces.now l.initial.to.sinces.now l.n l.i l.to.sinces.now;
  same : SameCells l.initial.to l.to;
}
