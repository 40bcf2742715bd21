-- The float's bits decide. A fraction or a minus zero is not what the number it is cut to gives back.
use Rattle.std.proofs.Common.{T, sym, subst}
use denote.Floats.{passes}
use lib.Ieee.{binary64, of_bits, neg}
use Rattle.limits.proofs.WholeTimes.{whole_no_nan, whole_yes, whole_other, whole_large, whole_high, whole_low}
use Rattle.limits.proofs.time.whole.Goals as goal
use Rattle.limits.proofs.time.whole.Goals.{else-x-via-then-x+else-x-2, else-x-via-else-x}
use Rattle.limits.proofs.time.whole.Goals.{else-n-le-MOST_WHOLE-via-then-n-le-MOST_WHOLE+else-n-x, else-n-le-MOST_WHOLE-via-else-n-le-MOST_WHOLE}

pub truncating_f64_to_u64-n-requires : goal.truncating_f64_to_u64-n-requires
unfolding of_bits neg
truncating_f64_to_u64-n-requires c = record { lower_bound = subst T (sym c.if-x.true) tt; upper_bound = subst T (sym c.if-x-2.true) tt }

pub float_to_bits-n : goal.float_to_bits-n
float_to_bits-n c = search whole_no_nan

pub returns-then-n-x : goal.returns-then-n-x
returns-then-n-x c = search (whole_yes, passes)

pub returns-else-n-le-MOST_WHOLE : goal.returns-else-n-le-MOST_WHOLE
returns-else-n-le-MOST_WHOLE c = elim c.else-n-le-MOST_WHOLE.branch [
  | else-n-le-MOST_WHOLE-via-then-n-le-MOST_WHOLE+else-n-x w ↦ search (whole_other, passes, w.if-n-x.false)
  | else-n-le-MOST_WHOLE-via-else-n-le-MOST_WHOLE w ↦ search whole_large
]

pub returns-else-x : goal.returns-else-x
unfolding of_bits neg
returns-else-x c = elim c.else-x.branch [
  | else-x-via-then-x+else-x-2 w ↦ whole_high binary64 _ w.if-x-2.false
  | else-x-via-else-x w ↦ whole_low binary64 _ w.if-x.false
]
