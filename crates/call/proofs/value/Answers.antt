-- A refusal, or the walk.
use native.Mathlib.Omega.{arith}
use Rattle.rules.specs.Call.{Given}
use Rattle.lent.specs.Lent.{given_of}
use Rattle.refusals.proofs.Gates.{passed_open}
use Rattle.call.proofs.value.Given.{Over}
use Rattle.call.proofs.value.Goals as goal
use Rattle.call.proofs.value.Goals.{Start}

abbrev call : (g : Over) → Start g → Given
call g c =
    let a = c.args in
    given_of a.«record» a.table.now a.cells.now a.spare.now a.board.now a.event a.fuel a.answers.now

-- a walk is due only where there is room for it
pub carry_out-requires-clause-bound : goal.carry_out-requires-clause-bound
carry_out-requires-clause-bound g c =
    let a = c.args in
    let passed = passed_open a.fresh c.entries-entries.result (call g (goal.at.carry_out-requires-clause-bound g c).Start) _ _ (c.checks.ensures a.fuel) _ _ c.in-Ok.is in
    omega (arith, c.entries-entries.ensures, passed.0)
