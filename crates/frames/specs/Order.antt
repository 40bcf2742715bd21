-- What an input line asks for, by the order of lines.
use Rattle.std.specs.Prelude.{Bool, cond, Result, Ok, Err, ℕ, ltb}
use Rattle.frames.specs.declared.Frame.{Frame}
use Rattle.frames.specs.declared.Frame.TheVariants.{Node, Asked, Said, Malformed}
use Rattle.frames.specs.declared.Unread.{Unread}
use Rattle.frames.specs.declared.order.Input.{Input}

-- a node while nothing but nodes came before, and fewer than 257 of them; a tick or a restart at any time
abbrev pub admitted : ℕ → Bool → Result Frame Unread → Input
admitted nodes begun (Ok (Node kind n limit)) = cond begun Input.Malformed (cond (ltb nodes 257) (Input.Node kind n limit) Input.Malformed)
admitted nodes begun (Ok (Asked call event fuel count)) = Input.Asked call event fuel count
admitted nodes begun (Ok (Said call num status time visits used extra)) = Input.Malformed
admitted nodes begun (Ok (Malformed number)) = Input.Malformed
admitted nodes begun (Err Unread.NoFrame) = Input.Malformed
admitted nodes begun (Err Unread.TooShort) = Input.Malformed
