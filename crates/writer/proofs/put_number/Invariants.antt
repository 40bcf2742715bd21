-- `put_number` meets its contract. The invariant: with the digits that are left put over it too, the room is what is promised.
use Rattle.std.proofs.Common.{◌≡◌, length}
use Rattle.frames.specs.Hex.{digits}
use Rattle.frames.specs.Parts.{over}
use Rattle.writer.proofs.put_number.Given as goal

abbrev pub invariant-loop-i : goal.invariant-loop-i
invariant-loop-i l =
    record {
      length : length l.room ≡ length l.initial.room;
      put : over l.room l.at (digits l.i l.rest) ≡ over l.initial.room l.at (digits l.width l.value);
    }
