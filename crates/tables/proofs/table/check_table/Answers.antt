-- A tree is next, or a tree has ended: each way through a turn keeps what is known of the open nodes.
use mathlib.Core.Path.{◌≡◌, sym, ◌∙◌}
use Prim.Native.Nat.{◌<◌, min}
use native.Mathlib.Omega.{arith}
use borrow.Author.Rules.{rules}
use lib.Ieee.{nan}
use lib.ListN.{length, get_or}
use Rattle.std.specs.Prelude.{Some}
use Rattle.rules.specs.Table.{rows, cleaned}
use Rattle.tables.specs.Checks.{row_of}
use Rattle.lent.specs.Lengths.{rows_length}
use Rattle.tables.proofs.Turn.{first, since, at_end, too_deep_at, too_long, accepted, row_refused, opens, ends_leaf, goes_on, opens_node, top_low, closes_top}
use Rattle.tables.proofs.table.check_table.Goals as goal
use Rattle.tables.proofs.table.check_table.Goals.{In-loop-begin, In-Some, then-children-gt0+else-deep-open, else-children-gt0+else-loop-left-test}

-- ---- what is known there
in_table : (c : In-loop-begin) → let t = c.args.table.now in c.loop-begin.begin < min (length (rows t.kinds.now t.ns.now t.limits.now)) 256
in_table c = omega (arith, c.loop-begin-test.true)

long : (c : In-loop-begin) → let t = c.args.table.now in
    length (rows t.kinds.now t.ns.now t.limits.now) ≡ min (length t.kinds.now) (min (length t.ns.now) (length t.limits.now))
long c = let t = c.args.table.now in rows_length t.kinds.now t.ns.now t.limits.now

told : (c : In-Some) →
    let t = c.args.table.now in
    let at = c.loop-begin.begin in
    row_of (get_or t.kinds.now at 0) (get_or t.ns.now at 0) (cleaned (get_or t.limits.now at nan)) ≡ Some c.in-Some.children
told c = sym c.row_of.ensures ∙ c.in-Some.is

-- ---- the goals
pub loop-begin-init : goal.loop-begin-init
loop-begin-init c = first (search rules) (search rules) (search rules) (search rules)

pub bounds-kinds-begin : goal.bounds-kinds-begin
bounds-kinds-begin c = let at = (goal.at.bounds-kinds-begin c).In-loop-begin in omega (arith, in_table at, long at)

pub bounds-ns-begin : goal.bounds-ns-begin
bounds-ns-begin c = let at = (goal.at.bounds-ns-begin c).In-loop-begin in omega (arith, in_table at, long at)

pub bounds-limits-begin : goal.bounds-limits-begin
bounds-limits-begin c = let at = (goal.at.bounds-limits-begin c).In-loop-begin in omega (arith, in_table at, long at)

pub returns-in_default : goal.returns-in_default
returns-in_default c =
    row_refused c.loop-begin.invariant (in_table (goal.at.returns-in_default c).In-loop-begin) nan (sym c.row_of.ensures ∙ c.in_default.is)

pub returns-then-deep-open : goal.returns-then-deep-open
returns-then-deep-open c =
    let at = goal.at.returns-then-deep-open c in
    too_deep_at c.loop-begin.invariant (in_table at.In-loop-begin) nan _ (told at.In-Some) c.if-children-gt0.true c.if-deep-open.true

pub loop-left-init : goal.loop-left-init
loop-left-init c =
    let at = goal.at.loop-left-init c in
    ends_leaf c.loop-begin.invariant (in_table at.In-loop-begin) nan _ (told at.In-Some) c.if-children-gt0.false

pub returns-then-at-rows : goal.returns-then-at-rows
returns-then-at-rows c =
    too_long (since c.loop-begin.invariant c.loop-left.invariant) c.if-open-eq0.true (omega (arith, c.if-at-rows.true))

pub returns-else-at-rows : goal.returns-else-at-rows
returns-else-at-rows c =
    accepted (since c.loop-begin.invariant c.loop-left.invariant) c.if-open-eq0.true (omega (arith, c.if-at-rows.false))

pub bounds-ends-from : goal.bounds-ends-from
bounds-ends-from c = rw c.from.ensures (omega (arith, top_low c.loop-begin.opens _ _ _ c.loop-left.invariant (omega arith), c.loop-left.invariant.fits.low))

pub loop-left-preserved : goal.loop-left-preserved
loop-left-preserved c = rw c.from.ensures (closes_top c.loop-begin.opens _ _ _ c.loop-left.invariant (omega arith) c.loop-left-test.true)

pub loop-begin-preserved : goal.loop-begin-preserved
loop-begin-preserved c =
    let at = goal.at.loop-begin-preserved c in
    elim c.if-children-gt0.branch [
      | then-children-gt0+else-deep-open w ↦ rw (w.ends-is, w.opens-is, w.open-is, w.left-is)
          (opens_node c.loop-begin.opens _ _ _ (opens c.loop-begin.invariant (in_table at.In-loop-begin) nan _ (told at.In-Some) w.if-children-gt0.true w.if-deep-open.false))
      | else-children-gt0+else-loop-left-test w ↦ rw (w.ends-is, w.opens-is, w.open-is, w.left-is)
          (since c.loop-begin.invariant (goes_on w.loop-left.invariant (omega arith)))
    ]

pub returns : goal.returns
returns c =
    let last : c.min-last.result ≡ c.loop-begin.begin = omega (arith, c.loop-begin-test.false) in
    rw last (at_end c.loop-begin.invariant (omega (arith, c.loop-begin-test.false)))
