-- A group is said to be plain only where it is bare and all times are good.
use Rattle.load.proofs.SixteenLaws.{Seen}
use Rattle.load.proofs.sixteens.find_plain.Given as goal

abbrev pub invariant-loop-b : goal.invariant-loop-b
invariant-loop-b l = Seen l.table.kinds.now l.table.ns.now l.cells.places.now l.cells.marks.now l.last l.plain l.any
