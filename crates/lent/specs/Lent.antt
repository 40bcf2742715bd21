-- The runs that a host lends, as the rules see them; and that a value still holds the slices that it held.
use Rattle.std.specs.Prelude.{◌≡◌, List, ℕ, Float}
use Rattle.rules.specs.declared.answer.Record.{Record}
use Rattle.rules.specs.declared.event.Event.{Event}
use Rattle.rules.specs.declared.status.Status.{Status}
use Rattle.rules.specs.Table.{Row, rows}
use Rattle.rules.specs.Call.{Run, run, Given, given, answers}
use Rattle.rules.specs.Levels.{Levels, levels}
use Rattle.rules.specs.Exchange as exchange
use Rattle.rules.specs.Exchange.{room}
use Rattle.lent.specs.declared.table.Table.{Table}
use Rattle.lent.specs.declared.table.Answers.{Answers}
use Rattle.lent.specs.declared.cells.Cells.{Cells}
use Rattle.lent.specs.declared.cells.CellsMut.{CellsMut}
use Rattle.lent.specs.declared.room.Room.{Room}
use Rattle.lent.specs.declared.tree.TreeMut.{TreeMut}

abbrev pub rows_of : Table → List Row
rows_of t = rows t.kinds.now t.ns.now t.limits.now

abbrev pub answers_of : Answers → List (Status × Float)
answers_of a = answers a.statuses.now a.leftovers.now

abbrev pub run_of : Cells → Run
run_of c = run c.times.now c.places.now c.marks.now c.sinces.now

abbrev pub run_in : CellsMut → Run
run_in c = run c.times.now c.places.now c.marks.now c.sinces.now

abbrev pub levels_in : Room → Levels
levels_in r = levels r.opens.now r.counts.now r.wholes.now r.rests.now

abbrev pub room_in : TreeMut → exchange.Room
room_in t = room t.kinds.now t.ns.now t.limits.now t.times.now t.places.now t.marks.now t.sinces.now

-- what a tick or a restart is given
abbrev pub given_of : Record → Table → CellsMut → CellsMut → List ℕ → Event → ℕ → Answers → Given
given_of r t c s b e f a = given r t.kinds.now t.ns.now t.limits.now (run_in c) (run_in s) b e f a.statuses.now a.leftovers.now

-- the slices that are lent stay the same ones
abbrev pub SameCells : CellsMut → CellsMut → Type 0
SameCells c d = (d.times.ghost_name ≡ c.times.ghost_name) × (d.places.ghost_name ≡ c.places.ghost_name)
    × (d.marks.ghost_name ≡ c.marks.ghost_name) × (d.sinces.ghost_name ≡ c.sinces.ghost_name)

abbrev pub SameRoom : Room → Room → Type 0
SameRoom r s = (s.opens.ghost_name ≡ r.opens.ghost_name) × (s.counts.ghost_name ≡ r.counts.ghost_name)
    × (s.wholes.ghost_name ≡ r.wholes.ghost_name) × (s.rests.ghost_name ≡ r.rests.ghost_name)

abbrev pub SameTree : TreeMut → TreeMut → Type 0
SameTree t u = (u.kinds.ghost_name ≡ t.kinds.ghost_name) × (u.ns.ghost_name ≡ t.ns.ghost_name) × (u.limits.ghost_name ≡ t.limits.ghost_name)
    × (u.times.ghost_name ≡ t.times.ghost_name) × (u.places.ghost_name ≡ t.places.ghost_name) × (u.marks.ghost_name ≡ t.marks.ghost_name)
    × (u.sinces.ghost_name ≡ t.sinces.ghost_name)
