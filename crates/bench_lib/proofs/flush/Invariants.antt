-- What is written are the first bytes. The measure is how many are left.
use Rattle.std.proofs.Common.{◌-◌, ◌≤◌, length, take}
use Rattle.std.specs.Io.KnownBytes.{Appends}
use Rattle.bench_lib.proofs.flush.Given as goal

abbrev pub invariant-loop-done : goal.invariant-loop-done
invariant-loop-done g l = record {
  within : l.done ≤ length l.printed;
  wrote : Appends (g.W.Write.contents l.initial.to) (g.W.Write.contents l.to) (take l.done l.printed);
}

abbrev pub decreases-loop-done : goal.decreases-loop-done
decreases-loop-done g l = length l.printed - l.done
