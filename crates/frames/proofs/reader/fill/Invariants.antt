-- `fill` meets its contract. The invariant: the answers passed are in the slices.
use Rattle.std.proofs.Common.{◌≡◌, length}
use Rattle.frames.proofs.Runs.{Taken}
use Rattle.frames.proofs.reader.fill.Given as goal

abbrev pub invariant-loop-i : goal.invariant-loop-i
invariant-loop-i l = record {
  statuses_length : length l.statuses ≡ length l.initial.statuses;
  leftovers_length : length l.leftovers ≡ length l.initial.leftovers;
  taken : Taken l.initial.rest.bytes.now l.i l.initial.statuses l.statuses l.initial.leftovers l.leftovers l.rest.bytes.now;
}
