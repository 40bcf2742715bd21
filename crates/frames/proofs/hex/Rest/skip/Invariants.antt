-- `skip` meets its contract. The invariant: the answers passed stand in front of what is left.
use Rattle.std.specs.Prelude.{Some}
use Rattle.frames.specs.Parts.{Skips}
use Rattle.frames.proofs.hex.Rest.skip.Given as goal

abbrev pub invariant-loop : goal.invariant-loop
invariant-loop l = Skips l.initial.self.bytes.now l.counter (Some tt) l.self.bytes.now
