-- A whole time as a number.
use Rattle.std.specs.Prelude.{ℕ, cond, Float, Option, Some, None}
use Rattle.std.specs.Float.{Format}
use Rattle.rules.specs.Bound.{whole_time, num}

abbrev pub whole_of : Format → Float → Option ℕ
whole_of F x = cond (whole_time F x) (Some (num x)) None
