-- A tick and a restart without recursion are those with it, wherever the room has an entry for each level.
use Rattle.std.specs.Prelude.{◌≡◌, refl, Bool, true, false, cond, not, ◌&&◌, ◌≤◌, ltb}
use Rattle.std.proofs.Common.{le-ltb}
use Rattle.std.specs.Float.{Format}
use Rattle.rules.specs.Tree.{size}
use Rattle.rules.specs.Table.{Table, good, bad, table, most_deep}
use Rattle.rules.specs.Call.{Given, Left, too_short, tick_call, restart_call}
use Rattle.rules.specs.Levels.{Levels, entries, cleared, of_walk, FlatLeft, flat_left, no_room, tick_flat, restart_flat}

and_not : (a : Bool) → a && false ≡ false
and_not true = refl
and_not false = refl

module _ (F : Format) (g : Given) (r : Levels) (h : most_deep ≤ entries r) where
  enough : (x : Table) → elim x [ bad p ↦ false | good t₀ ↦ not (too_short g (size t₀)) && ltb (entries r) most_deep ] ≡ false
  enough (bad p) = refl
  enough (good t) = rw (le-ltb (entries r) most_deep h) (and_not (not (too_short g (size t))))

  room_enough : no_room g r ≡ false
  room_enough = enough (table g.kinds g.ns g.limits)

  -- answer, record, cells, spare and board, with visits and answers used; and the room
  abbrev With : Left → FlatLeft
  With l = flat_left l (cond (of_walk l.answer) (cleared r) r)

  pub same_tick : tick_flat F g r ≡ With (tick_call F g)
  unfolding tick_flat
  same_tick = rw room_enough

  pub same_restart : restart_flat F g r ≡ With (restart_call F g)
  unfolding restart_flat
  same_restart = rw room_enough
