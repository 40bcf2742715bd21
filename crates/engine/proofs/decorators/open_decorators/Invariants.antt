-- Each decorator that is opened goes on along the way of those before it.
use Prim.Native.Nat.{◌-◌}
use lib.Ieee.{binary64}
use Rattle.lent.specs.Lent.{levels_in, SameRoom}
use Rattle.engine.proofs.DecoratorLaws.{WayOpen}
use Rattle.engine.proofs.decorators.open_decorators.Given as goal

-- Each decorator that is opened goes on along the way of those before it.
abbrev pub invariant-loop-level : goal.invariant-loop-level
invariant-loop-level l = record {
  way : WayOpen binary64 l.deep l.p l.dt (levels_in l.initial.room) l.initial.work l.at l.q (levels_in l.room) l.work;
  same_room : SameRoom l.initial.room l.room;
}

abbrev pub decreases-loop-level : goal.decreases-loop-level
decreases-loop-level l = 16 - l.at
