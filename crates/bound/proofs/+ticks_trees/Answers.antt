-- The ticks of a subtree from those of its first child and of the others together, and the trees one behind another.
use Rattle.std.proofs.Common.{◌≡◌, ◌+◌, ◌-◌, arith}
use Rattle.bound.proofs.Laws.{inside, alone_bound, together_bound, children_ready, left_next, left_done, left_ready}
use Rattle.bound.proofs.+ticks_trees.Goals as goal

pub ticks-bounds-table-at : goal.ticks-bounds-table-at
ticks-bounds-table-at t c = (inside _ _ _ _ _ _ c.requires.ready).in_kinds

pub ticks-offset_bounds-table-at : goal.ticks-offset_bounds-table-at
ticks-offset_bounds-table-at t c = omega (arith, (inside _ _ _ _ _ _ c.requires.ready).in_ends)

pub ticks-bounds-table-at-2 : goal.ticks-bounds-table-at-2
ticks-bounds-table-at-2 t c = (inside _ _ _ _ _ _ c.requires.ready).in_limits

pub ticks-offset_bounds-table-at-2 : goal.ticks-offset_bounds-table-at-2
ticks-offset_bounds-table-at-2 t c = omega (arith, (inside _ _ _ _ _ _ c.requires.ready).in_ends)

pub ticks-bounds-table-at-3 : goal.ticks-bounds-table-at-3
ticks-bounds-table-at-3 t c = (inside _ _ _ _ _ _ c.requires.ready).in_ns

pub ticks-returns-then-count-eq0 : goal.ticks-returns-then-count-eq0
ticks-returns-then-count-eq0 t c =
    alone_bound _ _ _ _ _ _ _ _ _ _ (inside _ _ _ _ _ _ c.requires.ready).in_limits c.of-kind.ensures c.own_ticks-own.ensures
    c.children-count.ensures _ c.alone.ensures c.if-count-eq0.true

pub ticks-ticks-first-requires : goal.ticks-ticks-first-requires
ticks-ticks-first-requires t c =
    let k = children_ready _ _ _ _ _ _ _ _ c.requires.ready c.of-kind.ensures c.children-count.ensures c.if-count-eq0.false in
    (omega (arith, k.inside, k.first_inside, k.first_after, c.decreases), (c.requires.step, k.first))

pub ticks-bounds-ends-at : goal.ticks-bounds-ends-at
ticks-bounds-ends-at t c =
    let k = children_ready _ _ _ _ _ _ _ _ c.requires.ready c.of-kind.ensures c.children-count.ensures c.if-count-eq0.false in
    omega (arith, k.inside, c.requires.ready.room.in_ends)

pub ticks-trees-rest-requires : goal.ticks-trees-rest-requires
ticks-trees-rest-requires t c =
    let k = children_ready _ _ _ _ _ _ _ _ c.requires.ready c.of-kind.ensures c.children-count.ensures c.if-count-eq0.false in
    rw c.from-next.ensures (omega (arith, k.inside, k.first_inside, k.first_after, k.rest_inside, c.decreases), (c.requires.step, k.rest))

pub ticks-returns : goal.ticks-returns
ticks-returns t c =
    together_bound _ _ _ _ _ _ _ _ _ _ (inside _ _ _ _ _ _ c.requires.ready).in_limits c.of-kind.ensures c.own_ticks-own.ensures
    c.children-count.ensures _ _ _ _ c.together.ensures c.if-count-eq0.false
    c.of.ensures c.ticks-first.ensures (rw c.from-next.ensures at c.trees-rest.ensures)

pub trees-ticks-one-requires : goal.trees-ticks-one-requires
trees-ticks-one-requires t c =
    let r = c.requires.readys in
    let x = left_ready _ _ _ _ _ _ _ _ _ _ _ _ (omega arith) r (c.loop.invariant r.trees r.stop r.stand) in
    (omega (arith, x.inside, x.later, c.decreases), (c.requires.step, x.ready))

pub trees-offset_bounds-ends-at : goal.trees-offset_bounds-ends-at
trees-offset_bounds-ends-at t c =
    let r = c.requires.readys in
    let x = left_ready _ _ _ _ _ _ _ _ _ _ _ _ (omega arith) r (c.loop.invariant r.trees r.stop r.stand) in
    omega (arith, (inside _ _ _ _ _ _ x.ready).in_ends)

pub trees-bounds-ends-at : goal.trees-bounds-ends-at
trees-bounds-ends-at t c =
    let r = c.requires.readys in
    let x = left_ready _ _ _ _ _ _ _ _ _ _ _ _ (omega arith) r (c.loop.invariant r.trees r.stop r.stand) in
    (inside _ _ _ _ _ _ x.ready).in_ends

pub trees-loop-preserved : goal.trees-loop-preserved
trees-loop-preserved t c ts stop h =
    let one_less : c.args.count - (c.loop.counter + 1) ≡ c.args.count - c.loop.counter - 1 = omega arith in
    rw (c.from-at.ensures, one_less)
    (left_next _ _ _ _ _ _ _ _ _ _ _ _ _ _ _ _ (omega arith) c.ticks-one.ensures c.with-all.ensures (c.loop.invariant ts stop h))

pub trees-returns : goal.trees-returns
trees-returns t c ts stop h = left_done _ _ _ _ _ _ _ _ _ _ _ _ _ _ (omega arith) (c.loop.invariant ts stop h)
