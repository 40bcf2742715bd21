-- The cells that whole ticks reach from fresh hold a state of the tree, with a finish bound or without: as long as it has not finished.
use Rattle.std.specs.Prelude.{◌≡◌, List, ℕ, T, Float}
use Rattle.std.specs.Float.{Format}
use Rattle.rules.specs.Tree.{Tree, fresh}
use Rattle.rules.specs.Table.{good, table}
use Rattle.rules.specs.Call.{Run}
use Rattle.rules.specs.Bound.{boundable}
use Rattle.laws.specs.Shape.{shape}
use Rattle.laws.specs.Memory.{held}
use Rattle.laws.specs.Tables.{tabled, tabled_fresh}
use Rattle.finish.specs.Shaped.{Shaped}
use Rattle.finish.specs.Accepted.{accepted}
use Rattle.finish.specs.Finishes.{State, fresh_state, clear_state}

-- ---- the cells hold a state of the table's tree
abbrev pub StateIn : Format → Tree → Run → Type 0
StateIn F t c = State F t (held t c)

module _ (F : Format) (kinds ns : List ℕ) (limits : List Float) (t : Tree) (e : table kinds ns limits ≡ good t) (b : T (boundable F t)) where
  pub shaped : Shaped F (shape t)
  shaped = accepted F t (tabled kinds ns limits t e).0 b

  -- made fresh; and between two ticks, which is the table's tree
  pub first_state : State F t (fresh t)
  first_state = fresh_state F t shaped

  pub new_state : State F t t
  new_state = rw (tabled_fresh t (tabled kinds ns limits t e).0) at (clear_state F t (fresh t) first_state)
