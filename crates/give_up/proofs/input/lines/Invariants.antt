-- `lines` is safe and ends. The measure is what is left of the input.
use Rattle.std.proofs.Common.{length}
use Rattle.give_up.proofs.input.lines.Given as goal

abbrev pub decreases-loop-before : goal.decreases-loop-before
decreases-loop-before l = length l.rest
