-- `begin` meets its contract. The invariant: the fields passed are in the room.
use Rattle.std.proofs.Common.{◌≡◌, length, take}
use Rattle.frames.specs.Parts.{Puts}
use Rattle.writer.proofs.begin.Given as goal

abbrev pub invariant-loop-width : goal.invariant-loop-width
invariant-loop-width l =
    record {
      length : length l.room ≡ length l.initial.room;
      put : Puts l.initial.room 2 (take l.width-index l.fields) l.room l.at;
    }
