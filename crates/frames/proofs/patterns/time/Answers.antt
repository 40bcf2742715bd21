-- `time` meets its contract.
use mathlib.Core.Path.{◌∙◌}
use Rattle.frames.proofs.Nans.{the_nan, time_nan, pattern_defined}
use Rattle.frames.proofs.patterns.time.Goals as goal

pub returns-then-magnitude-gt9218868437227405312 : goal.returns-then-magnitude-gt9218868437227405312
returns-then-magnitude-gt9218868437227405312 c = the_nan ∙ time_nan _ c.if-magnitude-gt9218868437227405312.true

pub float_from_bits-result : goal.float_from_bits-result
float_from_bits-result c = pattern_defined _ c.if-magnitude-gt9218868437227405312.false
