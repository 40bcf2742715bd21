-- Each decorator takes the result and leaves one entry less.
use lib.Ieee.{binary64}
use Rattle.engine.specs.Climbs.{Closes}
use Rattle.engine.proofs.decorators.close_decorators.Given as goal

-- Each decorator takes the result and leaves one entry less.
abbrev pub invariant-loop-at : goal.invariant-loop-at
invariant-loop-at l =
    Closes binary64 l.reads.limits.now l.room.opens.now l.room.wholes.now l.initial.at l.initial.visit.seen l.initial.visit.left l.initial.work l.initial.times
    l.at l.visit.seen l.visit.left l.work l.times

abbrev pub decreases-loop-at : goal.decreases-loop-at
decreases-loop-at l = l.at
