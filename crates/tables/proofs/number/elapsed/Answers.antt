-- A NaN is no elapsed time; any other float is one where its sign bit is clear.
use borrow.Author.Rules.{rules}
use mathlib.Core.Path.{sym, ◌∙◌}
use Rattle.tables.proofs.Bits.{is_nan_lem, no_nan, elapsed_bits}
use Rattle.tables.proofs.number.elapsed.Goals as goal

pub returns-then-not-is_nan : goal.returns-then-not-is_nan
returns-then-not-is_nan c = rw (elapsed_bits c.args.x (search rules) (no_nan c.args.x (sym c.is_nan.ensures.value ∙ c.if-not-is_nan.true)))

pub returns-else-not-is_nan : goal.returns-else-not-is_nan
returns-else-not-is_nan c = rw (is_nan_lem c.args.x (sym c.is_nan.ensures.value ∙ c.if-not-is_nan.false), c.if-not-is_nan.false)
