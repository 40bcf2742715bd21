-- The room of a walk: none where it needs none.
use Rattle.std.specs.Prelude.{ℕ, List, Option, Some, None}
use Rattle.rules.specs.Table.{most_deep}
use Rattle.rules.specs.Levels.{Levels, levels, entries, cleared}

-- how many open nodes there is room for: a walk without room finds enough
abbrev pub entries_at : Option Levels → ℕ
entries_at None = most_deep
entries_at (Some r) = entries r

-- what a walk leaves of it
abbrev pub cleared_at : Option Levels → Option Levels
cleared_at None = None
cleared_at (Some r) = Some (cleared r)

-- the room as it is lent
abbrev pub levels_at : Option Levels → Levels
levels_at None = levels List.[] List.[] List.[] List.[]
levels_at (Some r) = r
