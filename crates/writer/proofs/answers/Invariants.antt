-- `answers` meets its contract. The invariant: the answers passed are in the room.
use Rattle.std.proofs.Common.{◌≡◌, ◌+◌, ◌*◌, length}
use Rattle.frames.specs.Line.{answers}
use Rattle.frames.specs.Parts.{Puts}
use Rattle.writer.proofs.answers.Given as goal

abbrev pub invariant-loop-i : goal.invariant-loop-i
invariant-loop-i l =
    record {
      length : length l.room ≡ length l.initial.room;
      place : l.at ≡ l.from + 20 * l.i;
      put : Puts l.initial.room l.from (answers l.i 0 l.statuses l.leftovers) l.room l.at;
    }
