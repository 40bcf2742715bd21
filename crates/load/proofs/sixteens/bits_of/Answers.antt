-- A time whose bits are below the sign, and a limit that is not below it.
use borrow.Author.Rules.{rules}
use Rattle.load.proofs.SixteenLaws.{timed}
use Rattle.load.proofs.sixteens.bits_of.Goals as goal

pub returns-then-limit : goal.returns-then-limit
returns-then-limit c h = timed _ _ (search rules) c.if-time-limit.true c.if-limit.true h
