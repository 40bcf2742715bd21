-- Each cell is checked in the innermost open node; each way through a turn keeps what is known of the open nodes.
use mathlib.Core.Path.{refl, sym, ap, ◌∙◌}
use Prim.Native.Nat.{◌-◌, ◌<◌, ◌≤◌}
use native.Mathlib.Omega.{arith}
use lib.ListN.{length}
use Rattle.std.proofs.lemmas.List.{length-map}
use Rattle.cells.specs.declared.check.Open.{Open}
use Rattle.cells.specs.Check.{stops_of, may_of}
use Rattle.cells.proofs.Opens.{stop_at, may_at, stops_set, may_set}
use Rattle.cells.proofs.Turn.{Here, starts, done, some_left, closes, stays, refused, too_deep, too_wide, opened, passed}
use Rattle.cells.proofs.check.check_cells.Goals as goal
use Rattle.cells.proofs.check.check_cells.Goals.{then-inner-at, else-inner-at, After-still_open-depth, After-cell_allowed}
use Rattle.cells.proofs.check.check_cells.Goals.{then-depth-ge16-via-then-depth-ge16, then-depth-ge16-via-else-depth-ge16+then-n-stop}
use Rattle.cells.proofs.check.check_cells.Goals.{then-at-stop+else-depth-ge16+else-n-stop, else-at-stop}

-- some node is open, and no more than there is room for
still : (c : After-still_open-depth) → (1 ≤ c.still_open-depth.result) × (c.still_open-depth.result ≤ 16)
still c =
    let left = some_left c.loop-at.invariant c.still_open-depth.ensures in
    (left.0, omega (arith, c.loop-at.invariant.nodes.room))

-- the next cell's node is the innermost
joined :
    (c : After-cell_allowed) →
    let t = c.args.table.now in
    let s = c.args.cells.now in
    let l = c.loop-at in
    let i = c.if-inner-at in
    Here t.kinds.now t.ns.now c.args.ends.now s.times.now s.places.now s.marks.now c.args.n (stops_of l.opens) (may_of l.opens) i.depth i.inner.stop i.inner.may_end l.until l.at
joined c =
    let turn = c.loop-at.invariant in
    let os = c.loop-at.opens in
    elim c.if-inner-at.branch [
      | then-inner-at w ↦
          let left = some_left turn w.still_open-depth.ensures in
          let long = length-map os (λ (o : Open). o.stop) in
          let some = left.0 in
          let few = left.1 in
          let inside : w.still_open-depth.result - 1 < length os = omega (arith, turn.nodes.stops_long, turn.nodes.room) in
          let top = w.still_open-depth.result - 1 in
          rw w.depth-is
          (closes turn w.still_open-depth.ensures c.loop-at-test.true
          (ap (λ (o : Open). o.stop) w.inner-is ∙ sym (stop_at os top inside))
          (ap (λ (o : Open). o.may_end) w.inner-is ∙ sym (may_at os top inside)))
      | else-inner-at w ↦ rw (w.depth-is, w.inner-is) (stays turn w.if-inner-at.false)
    ]

pub loop-at-init : goal.loop-at-init
loop-at-init c = starts c.args.ends.now c.requires refl refl refl refl

pub overflow_sub-inner : goal.overflow_sub-inner
overflow_sub-inner c = omega (arith, still (goal.at.overflow_sub-inner c).After-still_open-depth)

pub offset_bounds-opens-depth : goal.offset_bounds-opens-depth
offset_bounds-opens-depth c = omega (arith, still (goal.at.offset_bounds-opens-depth c).After-still_open-depth)

pub bounds-opens-depth : goal.bounds-opens-depth
bounds-opens-depth c = omega (arith, still (goal.at.bounds-opens-depth c).After-still_open-depth)

pub returns-then-not-cell_allowed : goal.returns-then-not-cell_allowed
returns-then-not-cell_allowed c =
    refused (joined (goal.at.returns-then-not-cell_allowed c).After-cell_allowed) c.of-kind.ensures c.cell_allowed.ensures c.if-not-cell_allowed.true

pub returns-then-depth-ge16 : goal.returns-then-depth-ge16
returns-then-depth-ge16 c =
    let here = joined (goal.at.returns-then-depth-ge16 c).After-cell_allowed in
    elim c.then-depth-ge16.branch [
      | then-depth-ge16-via-then-depth-ge16 w ↦
          too_deep here c.of-kind.ensures c.cell_allowed.ensures c.if-not-cell_allowed.false c.from-stop.ensures c.if-at-stop.true w.if-depth-ge16.true
      | then-depth-ge16-via-else-depth-ge16+then-n-stop w ↦
          too_wide here c.of-kind.ensures c.cell_allowed.ensures c.if-not-cell_allowed.false c.from-stop.ensures w.if-n-stop.true
    ]

pub loop-at-preserved : goal.loop-at-preserved
loop-at-preserved c =
    let here = joined (goal.at.loop-at-preserved c).After-cell_allowed in
    elim c.if-at-stop.branch [
      | then-at-stop+else-depth-ge16+else-n-stop w ↦
          rw (w.opens-is, w.depth-is, w.inner-is, w.until-is, stops_set, may_set)
          (opened here c.of-kind.ensures c.cell_allowed.ensures c.if-not-cell_allowed.false c.from-stop.ensures w.ended_until-until.ensures w.marks_children.ensures
          w.if-at-stop.true w.if-depth-ge16.false w.if-n-stop.false)
      | else-at-stop w ↦
          rw (w.opens-is, w.depth-is, w.inner-is, w.until-is)
          (passed here c.of-kind.ensures c.cell_allowed.ensures c.if-not-cell_allowed.false c.from-stop.ensures w.if-at-stop.false)
    ]

pub returns : goal.returns
returns c = done c.loop-at.invariant c.loop-at-test.false
