-- An answer's numbers as a frame; the numbers are the rules'.
use Rattle.std.specs.Prelude.{◌%◌, to_bits}
use Rattle.std.specs.Float.{binary64}
use Rattle.frames.specs.declared.Call.{Call}
use Rattle.frames.specs.declared.Frame.{Frame}
use Rattle.rules.specs.declared.answer.Answer.{Answer}
use Rattle.rules.specs.declared.answer.Said.{Said}
use Rattle.rules.specs.Call as rules

-- a time is its bits, and a count, a place or an index its last four digits
abbrev pub framed : Call → Said → Frame
framed call s = Frame.Said call s.no s.status (to_bits binary64 s.time) s.visits (s.used % 65536) (s.extra % 65536)

abbrev pub said_of : Call → Answer → Frame
said_of call answer = framed call (rules.said_of answer)
