-- `bits` meets its contract.
use Rattle.std.proofs.Common.{sym, ◌∙◌}
use Rattle.frames.proofs.Nans.{nan_pattern}
use Rattle.frames.proofs.patterns.bits.Goals as goal

pub returns-then-is_nan : goal.returns-then-is_nan
returns-then-is_nan c = nan_pattern _ (sym c.is_nan.ensures.value ∙ c.if-is_nan.true)
