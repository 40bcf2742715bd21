-- Each turn goes past a child or into it.
use Prim.Native.Nat.{◌-◌, ◌<◌}
use Rattle.rules.specs.Tree.{Tree, size}
use Rattle.branch.specs.Way.{Stands}
use Rattle.branch.proofs.Ways.{Numbers, Going}
use Rattle.branch.proofs.way.way_to.Given as goal

abbrev pub invariant-loop-child : goal.invariant-loop-child
invariant-loop-child l =
    Numbers l.at l.up l.above l.child l.i
    × ((t : Tree) → Stands l.table.kinds.now l.table.ns.now l.ends l.cells.places.now l.cells.marks.now t → l.at < size t
    → Going l.table.kinds.now l.table.ns.now l.ends l.cells.places.now l.cells.marks.now t l.at l.up l.above l.child l.i l.spot)

abbrev pub decreases-loop-child : goal.decreases-loop-child
decreases-loop-child l = l.at - l.child
