-- The refusals in their order.
use mathlib.Core.Path.{sym, ◌∙◌}
use mathlib.Core.Bool.{false≢true}
use Prim.Native.Nat.{ℕ}
use native.Mathlib.Omega.{arith}
use Rattle.rules.specs.Call.{Given}
use Rattle.lent.specs.Lent.{given_of}
use Rattle.refusals.proofs.Gates.{as_lent, as_held, as_short, lent, unmatched, refused_lem, handed, no_time, a_time}
use Rattle.refusals.proofs.Gates.{Held, found, bad_time, fine_time, bad_answer_lem, fine_answers, finished, due}
use Rattle.refusals.proofs.gate.checks.Goals as goal
use Rattle.refusals.proofs.gate.checks.Goals.{Start, After-event_of, else-not-fresh-via-then-not-fresh+else-record, else-not-fresh-via-else-not-fresh}

abbrev call : Start → ℕ → Given
call c fuel =
    let a = c.args in
    given_of a.«record» a.table.now a.cells.now a.spare.now a.board.now a.event fuel a.answers.now

-- the table's tree was found, and there is room
held :
    (c : After-event_of) (fuel : ℕ) →
    let a = c.args in
    Held a.fresh a.entries (given_of a.«record» a.table.now a.cells.now a.spare.now a.board.now a.event fuel a.answers.now) c.scan.new.work c.in-Ok.n
held c fuel =
    let a = c.args in
    let g = given_of a.«record» a.table.now a.cells.now a.spare.now a.board.now a.event fuel a.answers.now in
    let long = sym (as_short g c.as_cells-lent.ensures c.as_cells.ensures _ c.too_short.ensures) ∙ c.if-too_short.false in
    found _ _ g _ c.rows-rows.ensures long _ _ (as_lent g c.as_cells-lent.ensures _ _ _ _ c.scan.ensures) c.in-Ok.is c.requires (omega arith)

pub returns-then-too_short : goal.returns-then-too_short
returns-then-too_short c fuel =
    let g = call (goal.at.returns-then-too_short c).Start fuel in
    unmatched _ _ g _ _ c.unmatched.ensures c.rows-rows.ensures
    (sym (as_short g c.as_cells-lent.ensures c.as_cells.ensures _ c.too_short.ensures) ∙ c.if-too_short.true)

pub scan-requires : goal.scan-requires
scan-requires c =
    let g = call (goal.at.scan-requires c).Start 0 in
    record {
      lent =
          as_held g c.as_cells-lent.ensures _
          (lent g _ c.rows-rows.ensures (sym (as_short g c.as_cells-lent.ensures c.as_cells.ensures _ c.too_short.ensures) ∙ c.if-too_short.false));
    }

pub returns-in-Err : goal.returns-in-Err
returns-in-Err c fuel =
    let g = call (goal.at.returns-in-Err c).Start fuel in
    let long = sym (as_short g c.as_cells-lent.ensures c.as_cells.ensures _ c.too_short.ensures) ∙ c.if-too_short.false in
    refused_lem _ _ g _ c.rows-rows.ensures long _ _ (as_lent g c.as_cells-lent.ensures _ _ _ _ c.scan.ensures) _ c.in-Err.is c.refused.ensures

pub returns-in_err-used : goal.returns-in_err-used
returns-in_err-used c fuel =
    let none = no_time _ _ (sym c.ok_or.ensures.value ∙ c.in_err-used.was) in
    handed _ _ _ _ _ _ c.from_residual.ensures (rw none.1 (bad_time (held (goal.at.returns-in_err-used c).After-event_of fuel) c.event_of.ensures none.0))

pub returns-in-Some : goal.returns-in-Some
returns-in-Some c fuel =
    let some = a_time _ _ (sym c.ok_or.ensures.value ∙ c.in_ok-used.was) in
    bad_answer_lem (fine_time (held (goal.at.returns-in-Some c).After-event_of fuel) c.event_of.ensures _ some) c.bad_answer.ensures _ c.in-Some.is

pub returns-then-record : goal.returns-then-record
returns-then-record c fuel =
    let some = a_time _ _ (sym c.ok_or.ensures.value ∙ c.in_ok-used.was) in
    let time = fine_time (held (goal.at.returns-then-record c).After-event_of fuel) c.event_of.ensures _ some in
    finished (fine_answers time c.bad_answer.ensures c.in_default.is) c.if-not-fresh.true c.if-record.true

-- a tick of a tree that has not finished, or a restart
pub returns : goal.returns
returns c fuel =
    let some = a_time _ _ (sym c.ok_or.ensures.value ∙ c.in_ok-used.was) in
    let time = fine_time (held (goal.at.returns c).After-event_of fuel) c.event_of.ensures _ some in
    due (fine_answers time c.bad_answer.ensures c.in_default.is)
    (elim c.else-not-fresh.branch [
      | else-not-fresh-via-then-not-fresh+else-record w ↦ λ e. w.if-record.false
      | else-not-fresh-via-else-not-fresh w ↦ λ e. absurd (false≢true (sym e ∙ w.if-not-fresh.false))
    ])
