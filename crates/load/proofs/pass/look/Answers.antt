-- A tree is next, or a tree has ended: each way through a turn keeps what is known of the open nodes, of their cells and of the words.
use mathlib.Core.Path.{◌≡◌, refl, sym, ◌∙◌}
use Prim.Native.Nat.{◌+◌, ◌-◌, ◌<◌, min}
use native.Mathlib.Omega.{arith}
use lib.ListN.{length}
use Rattle.rules.specs.Table.{rows}
use Rattle.lent.specs.Lengths.{rows_length}
use Rattle.load.specs.Scans.{first_of}
use Rattle.load.proofs.Look.{In, all_in, Node, first, since, at_end, too_long, accepted, faulted, passed}
use Rattle.load.proofs.Look.{row_refused, too_deep_at, opens, ends_leaf, stays_on, goes_on, begin_low}
use Rattle.load.proofs.Opens.{NodesIn, begins_set, owed_set, under_set, may_set, done_is, closes_in}
use Rattle.load.proofs.pass.look.Goals as goal
use Rattle.load.proofs.pass.look.Goals.{then-not-cell_allowed, else-not-cell_allowed, After-past_waits-begin, After-word, After-from-done}

-- ---- what is known at each place
inside :
    (c : After-past_waits-begin) →
    let t = c.args.table.now in
    let s = c.args.cells.now in
    In t.kinds.now t.ns.now t.limits.now s.times.now s.places.now s.marks.now c.past_waits-begin.result
inside c = all_in c.requires.lent (omega (arith, c.past_waits-begin.ensures.upper, c.run_end-to.ensures.1, c.min-last.ensures, c.requires.lent.nodes))

nodes :
    (c : After-past_waits-begin) →
    let a = c.args in
    let l = c.loop-at in
    NodesIn a.table.now a.cells.now a.work.now l.opens c.past_waits-begin.new.work l.«open» (l.left - (c.past_waits-begin.result - l.at)) l.ended l.may_end l.fault
    c.past_waits-begin.result
nodes c =
    let e = c.run_end-to.ensures in
    let t = c.args.table.now in
    let is : c.min-last.result ≡ min (length (rows t.kinds.now t.ns.now t.limits.now)) 256 = omega (arith, c.min-last.ensures, c.requires.lent.nodes) in
    passed c.loop-at.invariant c.past_waits-begin.ensures e.2 (omega (arith, e.1, is)) (omega (arith, e.1, is)) λ h. e.3 (c.no_run.ensures h)

node :
    (c : After-word) →
    let t = c.args.table.now in
    let s = c.args.cells.now in
    let l = c.loop-at in
    Node t.kinds.now t.ns.now t.limits.now s.times.now s.places.now s.marks.now l.ended l.may_end c.past_waits-begin.result
    c.in-Some.children c.word.result c.cell_allowed.result
node c = record {
  told = sym c.row_of.ensures ∙ c.in-Some.is;
  packed = c.word.ensures;
  looks = rw (← c.of-kind.ensures) c.cell_allowed.ensures;
}

-- a fault is added at a bad cell only; either way it is then the first one up to this cell
fault_is : (c : After-word) → c.if-not-cell_allowed.fault ≡ first_of c.loop-at.fault c.cell_allowed.result c.past_waits-begin.result
fault_is c = elim c.if-not-cell_allowed.branch [
  | then-not-cell_allowed w ↦ rw w.if-not-cell_allowed.true (w.fault-is ∙ w.or-fault.ensures)
  | else-not-cell_allowed w ↦ rw w.if-not-cell_allowed.false w.fault-is
]

pub find_plain-plain-requires-clause-in_table : goal.find_plain-plain-requires-clause-in_table
find_plain-plain-requires-clause-in_table c =
    let t = c.args.table.now in
    let long = rows_length t.kinds.now t.ns.now t.limits.now in
    (omega arith, omega (arith, c.requires.lent.nodes), omega (arith, c.requires.lent.nodes), omega (arith, c.requires.lent.nodes))

pub loop-at-init : goal.loop-at-init
loop-at-init c = first refl refl refl refl (omega arith)

pub bounds-table-at : goal.bounds-table-at
bounds-table-at c =
    let i = all_in {at = c.loop-at.at} c.requires.lent (omega (arith, c.loop-at-test.true, c.min-last.ensures, c.requires.lent.nodes)) in
    omega arith

pub past_waits-begin-requires-clause-in_table : goal.past_waits-begin-requires-clause-in_table
past_waits-begin-requires-clause-in_table c =
    let i = all_in {at = c.run_end-to.result} c.requires.lent (omega (arith, c.run_end-to.ensures.1, c.min-last.ensures, c.requires.lent.nodes)) in
    (omega arith, omega arith, omega arith)

pub bounds-table-begin : goal.bounds-table-begin
bounds-table-begin c = omega (arith, inside (goal.at.bounds-table-begin c).After-past_waits-begin)

pub bounds-table-begin-in-loop-at : goal.bounds-table-begin-in-loop-at
bounds-table-begin-in-loop-at c = omega (arith, inside (goal.at.bounds-table-begin-in-loop-at c).After-past_waits-begin)

pub bounds-table-begin-in-loop-at-2 : goal.bounds-table-begin-in-loop-at-2
bounds-table-begin-in-loop-at-2 c = omega (arith, inside (goal.at.bounds-table-begin-in-loop-at-2 c).After-past_waits-begin)

pub returns-in_default : goal.returns-in_default
returns-in_default c =
    let w = (goal.at.returns-in_default c).After-past_waits-begin in
    row_refused (nodes w) (inside w).in_table (sym c.row_of.ensures ∙ c.in_default.is)

pub returns-then-open-ge16 : goal.returns-then-open-ge16
returns-then-open-ge16 c =
    let w = (goal.at.returns-then-open-ge16 c).After-past_waits-begin in
    too_deep_at (nodes w) (inside w).in_table (node (goal.at.returns-then-open-ge16 c).After-word) c.if-children-gt0.true c.if-open-ge16.true

pub loop-at-preserved-else-open-ge16 : goal.loop-at-preserved-else-open-ge16
loop-at-preserved-else-open-ge16 c =
    let w = (goal.at.loop-at-preserved-else-open-ge16 c).After-past_waits-begin in
    let word = (goal.at.loop-at-preserved-else-open-ge16 c).After-word in
    rw (begins_set, owed_set, under_set, may_set, c.ended_below-ended.ensures, c.marks_children-may_end.ensures, c.of-kind.ensures, fault_is word)
    (opens (nodes w) (inside w).in_table (node word) c.if-children-gt0.true c.if-open-ge16.false)

pub loop-left-init : goal.loop-left-init
loop-left-init c =
    let w = (goal.at.loop-left-init c).After-past_waits-begin in
    let word = (goal.at.loop-left-init c).After-word in
    rw (fault_is word) (ends_leaf (nodes w) (inside w).in_table (node word) c.if-children-gt0.false)

pub loop-at-preserved : goal.loop-at-preserved
loop-at-preserved c =
    let w = (goal.at.loop-at-preserved c).After-past_waits-begin in
    since (stays_on (nodes w) (inside w).in_table (node (goal.at.loop-at-preserved c).After-word)) (goes_on c.loop-left.invariant (omega (arith, c.loop-left-test.false)))

pub returns-then-at-rows : goal.returns-then-at-rows
returns-then-at-rows c = too_long c.loop-left.invariant c.if-open-eq0.true (omega (arith, c.if-at-rows.true, c.requires.lent.nodes))

pub returns-in-Some-fault : goal.returns-in-Some-fault
returns-in-Some-fault c =
    let w = (goal.at.returns-in-Some-fault c).After-past_waits-begin in
    faulted (since (stays_on (nodes w) (inside w).in_table (node (goal.at.returns-in-Some-fault c).After-word)) c.loop-left.invariant)
    c.if-open-eq0.true _ c.requires.lent c.if-at-rows.false (omega arith) c.in-Some-fault.is

pub returns-in-None : goal.returns-in-None
returns-in-None c =
    let w = (goal.at.returns-in-None c).After-past_waits-begin in
    accepted (since (stays_on (nodes w) (inside w).in_table (node (goal.at.returns-in-None c).After-word)) c.loop-left.invariant)
    c.if-open-eq0.true _ c.requires.lent c.if-at-rows.false (omega arith) c.in-None.is

-- the innermost node begins before the place
done_low : (c : After-from-done) → c.from-done.result < c.past_waits-begin.result + 1
done_low c =
    let v = c.loop-left.invariant in
    let pos : 0 < c.loop-left.«open» = omega arith in
    omega (arith, begin_low v pos, done_is c.args.table.now c.args.cells.now c.loop-at.opens v pos c.from-done.ensures)

pub bounds-work-done : goal.bounds-work-done
bounds-work-done c = let v = c.loop-left.invariant in omega (arith, done_low (goal.at.bounds-work-done c).After-from-done, v.fits.low, v.fits.long)

pub overflow_sub-at : goal.overflow_sub-at
overflow_sub-at c = omega (arith, done_low (goal.at.overflow_sub-at c).After-from-done)

pub overflow_sub-at-in-loop-left : goal.overflow_sub-at-in-loop-left
overflow_sub-at-in-loop-left c = omega (arith, done_low (goal.at.overflow_sub-at-in-loop-left c).After-from-done)

pub bounds-work-done-in-loop-left : goal.bounds-work-done-in-loop-left
bounds-work-done-in-loop-left c =
    let v = c.loop-left.invariant in
    omega (arith, done_low (goal.at.bounds-work-done-in-loop-left c).After-from-done, v.fits.low, v.fits.long)

pub loop-left-preserved : goal.loop-left-preserved
loop-left-preserved c =
    closes_in c.args.table.now c.args.cells.now c.loop-at.opens c.loop-left.invariant (omega arith) c.from-done.ensures _ c.with_below.ensures c.loop-left-test.true

pub returns : goal.returns
returns c = at_end c.loop-at.invariant (omega (arith, c.loop-at-test.false, c.min-last.ensures, c.requires.lent.nodes))
