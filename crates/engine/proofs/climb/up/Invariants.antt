-- Each node that is done is one less around the result.
use lib.Ieee.{binary64}
use Rattle.lent.specs.Lent.{levels_in}
use Rattle.work.specs.Flat.{lent_in}
use Rattle.engine.proofs.Ways.{WayUp}
use Rattle.engine.proofs.climb.up.Given as goal

-- Each node that is done is one less around the result.
abbrev pub invariant-loop-at : goal.invariant-loop-at
invariant-loop-at l =
    WayUp binary64 (lent_in l.reads) l.initial.at.deep l.initial.at.level l.initial.visit.seen l.initial.visit.left
    (levels_in l.room) l.initial.work l.initial.times
    l.at.deep l.at.level l.visit.seen l.visit.left l.work l.times

abbrev pub decreases-loop-at : goal.decreases-loop-at
decreases-loop-at l = l.at.deep
