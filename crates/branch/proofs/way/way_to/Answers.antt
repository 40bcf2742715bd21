-- Each turn goes past a child or into it.
use mathlib.Core.Path.{◌≡◌, ◌∙◌}
use mathlib.Core.Bool.{◌||◌}
use native.Mathlib.Omega.{arith}
use Rattle.branch.proofs.Ways.{inside, start, root, later, passes, ended, found, deeper}
use Rattle.branch.proofs.way.way_to.Goals as goal
use Rattle.branch.proofs.way.way_to.Goals.{After-is_spot-spot}

-- whether the child lies in a spot
spotted : (c : After-is_spot-spot) →
    let table = c.args.table.now in
    let cells = c.args.cells.now in
    (c.loop-child.spot || c.is_spot-spot.result)
    ≡ inside table.kinds.now table.ns.now c.args.ends.now cells.places.now cells.marks.now c.loop-child.spot c.loop-child.up c.loop-child.i
spotted c = rw (c.is_spot-spot.ensures, c.of.ensures)

pub returns-then-at-eq0 : goal.returns-then-at-eq0
returns-then-at-eq0 c t s m = rw c.if-at-eq0.true (root t)

pub loop-child-init : goal.loop-child-init
loop-child-init c = (omega arith, λ t s m. start _ _ _ _ _ t _ s m c.if-at-eq0.false)

pub loop-child-smaller-then-stop-at : goal.loop-child-smaller-then-stop-at
loop-child-smaller-then-stop-at c =
    let lies = c.requires in
    omega (arith, later _ _ _ _ _ (c.loop-child.invariant.1 lies.tree lies.stands lies.inside))

pub loop-child-preserved-then-stop-at : goal.loop-child-preserved-then-stop-at
loop-child-preserved-then-stop-at c = (
  let lies = c.requires in omega (arith, later _ _ _ _ _ (c.loop-child.invariant.1 lies.tree lies.stands lies.inside)),
  λ t s m. rw c.from-stop.ensures (passes _ _ _ _ _ (c.loop-child.invariant.1 t s m) (omega arith)),
)

pub returns-then-cells-child-eq1 : goal.returns-then-cells-child-eq1
returns-then-cells-child-eq1 c t s m =
    ended _ _ _ _ _ (c.loop-child.invariant.1 t s m) (omega arith) c.if-cells-child-eq1.true

pub returns-then-child-at : goal.returns-then-child-at
returns-then-child-at c t s m =
    c.then_some.ensures
    ∙ found _ _ _ _ _ (c.loop-child.invariant.1 t s m) (omega arith) c.if-cells-child-eq1.false
    (spotted (goal.at.returns-then-child-at c).After-is_spot-spot) c.if-child-at.true

pub loop-child-preserved : goal.loop-child-preserved
loop-child-preserved c = (
  omega arith,
  λ t s m. deeper _ _ _ _ _ (c.loop-child.invariant.1 t s m) (omega arith) c.if-cells-child-eq1.false
      (spotted (goal.at.loop-child-preserved c).After-is_spot-spot) c.if-child-at.false,
)
