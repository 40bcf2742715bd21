-- From zero on a float is a number below infinity; what is not from zero on is none.
use Rattle.tables.proofs.Bits.{from_zero, under_zero}
use Rattle.tables.proofs.number.is_number.Goals as goal

pub returns-then-x : goal.returns-then-x
returns-then-x c = from_zero c.args.x c.if-x.true

pub returns-else-x : goal.returns-else-x
returns-else-x c = rw c.if-x.false (under_zero c.args.x c.if-x.false)
