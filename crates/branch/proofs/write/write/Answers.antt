-- Node by node, each column.
use lib.Ieee.{of_bits}
use Rattle.rules.specs.Tree.{zero_time}
use Rattle.rules.specs.Exchange.{room}
use Rattle.branch.specs.Write.{at, limit_at, always, filled_room}
use Rattle.branch.proofs.Filling.{filling_node, filling_end, cleaned_from}
use Rattle.branch.proofs.write.write.Goals as goal

pub loop-i-preserved : goal.loop-i-preserved
unfolding of_bits
loop-i-preserved c =
    let e = c.source_of-from.ensures in
    let low = c.loop-i-test.true in
    let pre = c.requires in
    let a = c.args in
    let old = a.table.now in
    let new = a.branch.now in
    let cells = a.cells.now in
    let inv = c.loop-i.invariant in (
      filling_node a.cut (at 0 old.kinds.now) (at 0 new.kinds.now) pre.to_kinds inv.0 low e (c.from_both.ensures 0),
      filling_node a.cut (at 0 old.ns.now) (at 0 new.ns.now) pre.to_ns inv.1 low e (c.from_both-in-loop-i.ensures 0),
      filling_node a.cut (limit_at old.limits.now) (limit_at new.limits.now) pre.to_limits inv.2 low e
          (cleaned_from old.limits.now new.limits.now c.source_of-from.result c.cleaned.ensures (c.from_both-in-loop-i-2.ensures zero_time)),
      filling_node a.cut (at zero_time cells.times.now) (always zero_time) pre.to_times inv.3 low e (c.from_old.ensures zero_time),
      filling_node a.cut (at 0 cells.places.now) (always 0) pre.to_places inv.4 low e (c.from_old-in-loop-i.ensures 0),
      filling_node a.cut (at 0 cells.marks.now) (always 0) pre.to_marks inv.5 low e (c.from_old-in-loop-i-2.ensures 0),
      filling_node a.cut (at 0 cells.sinces.now) (always a.«record».ticks) pre.to_sinces inv.6 low e (c.from_old-in-loop-i-3.ensures 0),
      inv.7,
    )

pub returns-clause-written : goal.returns-clause-written
unfolding filled_room
returns-clause-written c =
    let inv = c.loop-i.invariant in
    let left = c.loop-i-test.false in
    λ j. room (filling_end inv.0 left j) (filling_end inv.1 left j) (filling_end inv.2 left j) (filling_end inv.3 left j)
    (filling_end inv.4 left j) (filling_end inv.5 left j) (filling_end inv.6 left j)
