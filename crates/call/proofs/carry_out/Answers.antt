-- The walk, and what is settled behind it.
use mathlib.Core.Path.{◌≡◌, ap, ◌∙◌}
use native.Mathlib.Omega.{arith}
use lib.Ieee.{of_bits}
use Rattle.rules.specs.Call.{Run}
use Rattle.lent.specs.Lent.{run_in}
use Rattle.lent.specs.declared.cells.CellsMut.{CellsMut}
use Rattle.cells.specs.Onto.{onto_cells}
use Rattle.call.proofs.Walks.{Begun, begun_fresh, begun_held, settles}
use Rattle.call.proofs.carry_out.Goals as goal
use Rattle.call.proofs.carry_out.Goals.{then-fresh, else-fresh}

pub returns-clause-leaves : goal.returns-clause-leaves
unfolding of_bits
returns-clause-leaves g c =
    let a = c.args in
    -- what the walk begins with, by either arm; the other slices stay
    let begun : Begun a.fresh (run_in a.cells.now) a.n c.if-fresh.cells.times.now = elim c.if-fresh.branch [
      | then-fresh w ↦ begun_fresh _ _ _ _ w.if-fresh.true (ap (λ (x : CellsMut). x.times.now) w.cells-is ∙ w.clear.ensures)
      | else-fresh w ↦ begun_held _ _ _ _ w.if-fresh.false c.requires.due.cells_long (ap (λ (x : CellsMut). x.times.now) w.cells-is)
    ] in
    let places : c.if-fresh.cells.places.now ≡ a.cells.now.places.now = elim c.if-fresh.branch [
      | then-fresh w ↦ ap (λ (x : CellsMut). x.places.now) w.cells-is
      | else-fresh w ↦ ap (λ (x : CellsMut). x.places.now) w.cells-is
    ] in
    let marks : c.if-fresh.cells.marks.now ≡ a.cells.now.marks.now = elim c.if-fresh.branch [
      | then-fresh w ↦ ap (λ (x : CellsMut). x.marks.now) w.cells-is
      | else-fresh w ↦ ap (λ (x : CellsMut). x.marks.now) w.cells-is
    ] in
    let sinces : c.if-fresh.cells.sinces.now ≡ a.cells.now.sinces.now = elim c.if-fresh.branch [
      | then-fresh w ↦ ap (λ (x : CellsMut). x.sinces.now) w.cells-is
      | else-fresh w ↦ ap (λ (x : CellsMut). x.sinces.now) w.cells-is
    ] in
    let copied = c.copy_cells.ensures.copied ∙ ap (λ (r : Run). onto_cells a.n r (run_in a.spare.now)) c.as_cells.ensures in
    let walk = c.enter-visit in
    let spared = ap (λ (r : Run). r.times) c.as_cells-2.ensures in
    let left = rw (spared, places, marks, sinces) at c.settled.ensures.left in
    settles c.requires.due walk.result walk.new.work _ walk.new.times begun walk.ensures.times_value walk.ensures.times_unchanged
    (omega arith) _ copied _ c.count.ensures _ left
