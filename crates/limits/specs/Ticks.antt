-- What a number of ticks stands for: the numbers above 2 ^ 53 are all one.
use Rattle.std.specs.Prelude.{ℕ, ◌+◌, min, Option, Some, None}
use Rattle.rules.specs.Bound.{Lim, never, within, most_ticks}

-- the first number that is not told
abbrev pub above : ℕ
above = most_ticks + 1

-- a `Ticks`, since antt has no name for an alias
abbrev pub Ticks : Type 0
Ticks = Option ℕ

abbrev pub lim : Ticks → Lim
lim None = never
lim (Some n) = within n

abbrev pub clipped : Lim → Ticks
clipped never = None
clipped (within n) = Some (min n above)
