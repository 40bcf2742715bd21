-- Each node that is opened is one more around the visit.
use Prim.Native.Nat.{◌-◌}
use lib.Ieee.{binary64}
use Rattle.lent.specs.Lent.{levels_in, SameRoom}
use Rattle.work.specs.Flat.{lent_in}
use Rattle.engine.proofs.Ways.{WayDown}
use Rattle.engine.proofs.climb.down.Given as goal

-- Each node that is opened is one more around the visit.
abbrev pub invariant-loop-work : goal.invariant-loop-work
invariant-loop-work l = record {
  way : WayDown binary64 (lent_in l.reads) l.initial.at.deep l.initial.at.level l.initial.rest
      (levels_in l.initial.room) l.initial.work l.initial.times
      l.at.deep l.at.level l.rest (levels_in l.room) l.work l.times;
  same_room : SameRoom l.initial.room l.room;
}

abbrev pub decreases-loop-work : goal.decreases-loop-work
decreases-loop-work l = 16 - l.at.deep
