-- Each cell is checked in the innermost open node; each way through a turn keeps what is known of the open nodes.
use Rattle.cells.specs.Check.{stops_of, may_of}
use Rattle.cells.proofs.Turn.{Turn}
use Rattle.cells.proofs.check.check_cells.Given as goal

abbrev pub invariant-loop-at : goal.invariant-loop-at
invariant-loop-at l =
    Turn l.table.kinds.now l.table.ns.now l.ends l.cells.times.now l.cells.places.now l.cells.marks.now l.n
    (stops_of l.opens) (may_of l.opens) l.depth l.inner.stop l.inner.may_end l.until l.at
