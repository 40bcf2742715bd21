-- The refusals in their order.
use mathlib.Core.Path.{◌≡◌}
use mathlib.Core.Bool.{true}
use mathlib.Core.List.{[]}
use lib.Dec.{leb}
use native.Mathlib.Omega.{arith}
use borrow.Author.Tests.{le-leb, lt-leb}
use Rattle.rules.specs.Table.{most_deep}
use Rattle.rules.specs.Call.{run_length}
use Rattle.rules.specs.Exchange.{Room}
use Rattle.rules.specs.Exchange
use Rattle.lent.specs.Lent.{run_of}
use Rattle.tables.proofs.Good.{Good, found_good, found_bad}
use Rattle.exchange.proofs.Gates.{bad_table, bad_branch, too_short, room, bad_cell_lem, finished, no_node, due, told}
use Rattle.exchange.proofs.gate.checks.Goals as goal
use Rattle.exchange.proofs.gate.checks.Goals.{In_ok-n, In-Ok, Else-len-n}

-- the tree's table is good
old : (c : In_ok-n) → let t = c.args.table.now in Good most_deep t.kinds.now t.ns.now t.limits.now c.check_table.new.ends c.in_ok-n.n
old c = found_good _ _ _ _ _ _ c.check_table.ensures _ c.in_ok-n.was

-- and so is the branch's
new : (c : In-Ok) → let t = c.args.branch.now in Good most_deep t.kinds.now t.ns.now t.limits.now c.check_table-2.new.ends c.in-Ok.added
new c = found_good _ _ _ _ _ _ c.check_table-2.ensures _ c.in-Ok.is

enough : (c : Else-len-n) → leb c.in_ok-n.n (run_length (run_of c.args.cells.now)) ≡ true
enough c = le-leb _ _ (omega (arith, c.len.ensures, c.if-len-n.false))

pub returns-in_err-n : goal.returns-in_err-n
returns-in_err-n c to =
    let a = c.args in
    told _ _ _ _ _ c.from_residual.ensures.1 (bad_table a.«record» a.table.now a.cells.now a.at a.branch.now to _ (found_bad _ _ _ _ _ _ c.check_table.ensures _ c.in_err-n.was))

pub returns-in-Err : goal.returns-in-Err
returns-in-Err c to =
    let at = goal.at.returns-in-Err c in
    let a = c.args in
    bad_branch a.«record» a.table.now a.cells.now a.at a.branch.now to (old at.In_ok-n) _ (found_bad _ _ _ _ _ _ c.check_table-2.ensures _ c.in-Err.is)

pub returns-then-len-n : goal.returns-then-len-n
returns-then-len-n c to =
    let at = goal.at.returns-then-len-n c in
    let a = c.args in
    too_short a.«record» a.table.now a.cells.now a.at a.branch.now to (old at.In_ok-n) (new at.In-Ok) (lt-leb _ _ (omega (arith, c.len.ensures, c.if-len-n.true)))

pub check_cells-requires : goal.check_cells-requires
check_cells-requires c =
    let at = goal.at.check_cells-requires c in
    let a = c.args in
    let none = Exchange.room [] [] [] [] [] [] [] in
    room a.«record» a.table.now a.cells.now a.at a.branch.now none (old at.In_ok-n) (new at.In-Ok) (enough at.Else-len-n)

pub returns-in_err-check_cells : goal.returns-in_err-check_cells
returns-in_err-check_cells c to =
    let at = goal.at.returns-in_err-check_cells c in
    let a = c.args in
    told _ _ _ _ _ c.from_residual-in_err-check_cells.ensures.1
    (bad_cell_lem a.«record» a.table.now a.cells.now a.at a.branch.now to (old at.In_ok-n) (new at.In-Ok) (enough at.Else-len-n) c.check_cells.ensures _ c.in_err-check_cells.was)

pub returns-then-record : goal.returns-then-record
returns-then-record c to =
    let at = goal.at.returns-then-record c in
    let a = c.args in
    finished a.«record» a.table.now a.cells.now a.at a.branch.now to (old at.In_ok-n) (new at.In-Ok) (enough at.Else-len-n) c.check_cells.ensures c.in_ok-check_cells.was c.if-record.true

pub returns-then-n-at : goal.returns-then-n-at
returns-then-n-at c to =
    let at = goal.at.returns-then-n-at c in
    let a = c.args in
    no_node a.«record» a.table.now a.cells.now a.at a.branch.now to (old at.In_ok-n) (new at.In-Ok) (enough at.Else-len-n) c.check_cells.ensures c.in_ok-check_cells.was
    c.if-record.false c.if-n-at.true

pub returns : goal.returns
returns c to =
    let at = goal.at.returns c in
    let a = c.args in
    due a.«record» a.table.now a.cells.now a.at a.branch.now to (old at.In_ok-n) (new at.In-Ok) (enough at.Else-len-n) c.check_cells.ensures c.in_ok-check_cells.was
    c.if-record.false c.if-n-at.false
