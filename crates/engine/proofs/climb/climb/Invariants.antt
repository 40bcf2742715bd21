-- Each round uses fuel.
use lib.Ieee.{binary64}
use Rattle.lent.specs.Lent.{levels_in, SameRoom}
use Rattle.work.specs.Array.{fuel_of}
use Rattle.work.specs.Flat.{lent_in}
use Rattle.engine.proofs.Ways.{WayDown}
use Rattle.engine.proofs.climb.climb.Given as goal

-- Each round uses fuel.
abbrev pub invariant-loop-next : goal.invariant-loop-next
invariant-loop-next l = record {
  way : WayDown binary64 (lent_in l.reads) l.initial.stand.deep l.initial.stand.level l.initial.rest
      (levels_in l.initial.room) l.initial.work l.initial.times
      l.stand.deep l.stand.level l.rest (levels_in l.room) l.work l.times;
  same_room : SameRoom l.initial.room l.room;
}

abbrev pub decreases-loop-next : goal.decreases-loop-next
decreases-loop-next l = fuel_of l.work
