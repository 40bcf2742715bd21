-- A NaN is no number; any other float is one where its bits are below those of infinity.
use borrow.Author.Rules.{rules}
use mathlib.Core.Path.{sym, ◌∙◌}
use Rattle.tables.proofs.Bits.{is_nan_lem, number_bits}
use Rattle.tables.proofs.number.number_of.Goals as goal

pub returns-then-is_nan : goal.returns-then-is_nan
returns-then-is_nan c = rw (← c.cleaned-number.ensures, is_nan_lem c.cleaned-number.result (sym c.is_nan.ensures.value ∙ c.if-is_nan.true))

pub returns : goal.returns
returns c = rw (← c.cleaned-number.ensures, number_bits c.cleaned-number.result (search rules)) (search rules)
