-- `times` meets its contract. The invariant: the patterns passed are turned into times.
use Rattle.std.proofs.Common.{◌≡◌, length}
use Rattle.frames.specs.Times.{timed}
use Rattle.frames.proofs.patterns.times.Given as goal

abbrev pub invariant-loop-i : goal.invariant-loop-i
invariant-loop-i l = record { length : length l.out ≡ length l.initial.out; turned : l.out ≡ timed l.i l.patterns l.initial.out }
