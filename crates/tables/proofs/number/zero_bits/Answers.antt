-- A NaN has bits; any other float is told by them.
use borrow.Author.Rules.{rules}
use mathlib.Core.Path.{sym, ◌∙◌}
use Rattle.tables.proofs.Bits.{is_nan_lem, zero_bits_test}
use Rattle.tables.proofs.number.zero_bits.Goals as goal

pub returns-then-not-is_nan : goal.returns-then-not-is_nan
returns-then-not-is_nan c = rw (zero_bits_test c.args.x (search rules))

pub returns-else-not-is_nan : goal.returns-else-not-is_nan
returns-else-not-is_nan c = rw (is_nan_lem c.args.x (sym c.is_nan.ensures.value ∙ c.if-not-is_nan.false), c.if-not-is_nan.false)
