-- `number` meets its contract. The invariant: the digits passed are those of the value.
use Rattle.std.proofs.Common.{◌≡◌, ◌<◌, ◌^◌, take}
use Rattle.frames.specs.Hex.{digits}
use Rattle.frames.proofs.hex.Rest.number.Given as goal

abbrev pub invariant-loop-digit : goal.invariant-loop-digit
invariant-loop-digit l = record { small : l.value < 16 ^ l.digit-index; read : take l.digit-index l.digits ≡ digits l.digit-index l.value }
