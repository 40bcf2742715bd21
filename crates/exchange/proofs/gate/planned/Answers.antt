-- The last refusals in their order; or what is to be written.
use mathlib.Core.List.{[]}
use native.Mathlib.Omega.{arith}
use Rattle.std.specs.Prelude.{Some}
use mathlib.Core.Path.{◌≡◌}
use Rattle.rules.specs.declared.exchanged.Exchanged.TheVariants.{StateHeld}
use Rattle.rules.specs.Exchange.{Room, room}
use Rattle.branch.specs.Write.{exchange_of}
use Rattle.exchange.specs.Due.{Due}
use Rattle.exchange.proofs.Cuts as cuts
use Rattle.exchange.proofs.gate.planned.Goals as goal
use Rattle.exchange.proofs.gate.planned.Goals.{In_ok-n, In_ok-above, then-nodes-gt256-via-then-nodes-gt256, then-nodes-gt256-via-else-nodes-gt256+then-above-depth_of-gt16}

-- ---- what is known on the way
abbrev none : Room
none = room [] [] [] [] [] [] []

-- the trees of both tables
due : (c : In_ok-n) (to : Room) → let a = c.args in
    Due (exchange_of a.«record» a.table.now a.cells.now a.at a.branch.now to) c.checks.new.ends c.checks.new.new_ends c.in_ok-n.n c.in_ok-n.added
due c to = let a = c.args in
    cuts.opened (exchange_of a.«record» a.table.now a.cells.now a.at a.branch.now to) c.checks.new.ends c.checks.new.new_ends (c.checks.ensures to) c.in_ok-n.was

-- the way to the branch
free : (c : In_ok-above) → c.way_to.result ≡ Some c.in_ok-above.above
free c = cuts.is_free c.way_to.result _ c.ok_or.result _ c.ok_or.ensures.value c.in_ok-above.was

-- ---- the goals
pub way_to-requires : goal.way_to-requires
way_to-requires c =
    let at = goal.at.way_to-requires c in
    cuts.lies (due at.In_ok-n none)

pub returns-in_err-above : goal.returns-in_err-above
returns-in_err-above c to e =
    let at = goal.at.returns-in_err-above c in
    let held = cuts.is_held c.way_to.result StateHeld c.ok_or.result _ c.ok_or.ensures.value c.in_err-above.was in
    cuts.not_planned _ _ _ c.from_residual-in_err-above.ensures.1 (rw held.1 (cuts.state_held (due at.In_ok-n to) c.way_to.ensures held.0))

pub offset_bounds-ends-at : goal.offset_bounds-ends-at
offset_bounds-ends-at c =
    let at = goal.at.offset_bounds-ends-at c in
    let d = (due at.In_ok-n none) in omega (arith, d.inside, d.old.few)

pub bounds-ends-at : goal.bounds-ends-at
bounds-ends-at c =
    let at = goal.at.bounds-ends-at c in
    let d = (due at.In_ok-n none) in omega (arith, d.inside, d.old.few)

pub overflow_sub-nodes : goal.overflow_sub-nodes
overflow_sub-nodes c =
    let at = goal.at.overflow_sub-nodes c in
    let d = (due at.In_ok-n none) in omega (arith, cuts.ends_at d, c.from-stop.ensures)

pub overflow_sub-nodes-2 : goal.overflow_sub-nodes-2
overflow_sub-nodes-2 c =
    let at = goal.at.overflow_sub-nodes-2 c in
    let d = (due at.In_ok-n none) in omega (arith, cuts.ends_low d, c.from-stop.ensures)

pub overflow_add-nodes : goal.overflow_add-nodes
overflow_add-nodes c =
    let at = goal.at.overflow_add-nodes c in
    let d = (due at.In_ok-n none) in omega (arith, d.old.few, d.new.few)

-- more than 256 nodes, or too deep
pub returns-then-nodes-gt256 : goal.returns-then-nodes-gt256
returns-then-nodes-gt256 c to e =
    let at = goal.at.returns-then-nodes-gt256 c in
    elim c.then-nodes-gt256.branch [
      | then-nodes-gt256-via-then-nodes-gt256 w ↦
          cuts.too_many (due at.In_ok-n to) c.way_to.ensures (free at.In_ok-above) c.from-stop.ensures w.if-nodes-gt256.true
      | then-nodes-gt256-via-else-nodes-gt256+then-above-depth_of-gt16 w ↦
          cuts.too_deep (due at.In_ok-n to) c.way_to.ensures (free at.In_ok-above) c.from-stop.ensures
          w.if-nodes-gt256.false w.depth_of.ensures w.if-above-depth_of-gt16.true
    ]

pub overflow_add-above : goal.overflow_add-above
overflow_add-above c =
    let at = goal.at.overflow_add-above c in
    omega (arith, cuts.small_sum (due at.In_ok-n none) c.way_to.ensures (free at.In_ok-above) c.from-stop.ensures c.if-nodes-gt256.false c.depth_of.ensures)

pub returns-then-room-nodes : goal.returns-then-room-nodes
returns-then-room-nodes c to e =
    let at = goal.at.returns-then-room-nodes c in
    cuts.short_room (due at.In_ok-n to) c.way_to.ensures (free at.In_ok-above) c.from-stop.ensures
    c.if-nodes-gt256.false c.depth_of.ensures c.if-above-depth_of-gt16.false (rw e c.if-room-nodes.true)

pub returns : goal.returns
returns c to e =
    let at = goal.at.returns c in
    cuts.planned (due at.In_ok-n to) c.way_to.ensures (free at.In_ok-above) c.from-stop.ensures
    c.if-nodes-gt256.false c.depth_of.ensures c.if-above-depth_of-gt16.false (rw e c.if-room-nodes.false)
