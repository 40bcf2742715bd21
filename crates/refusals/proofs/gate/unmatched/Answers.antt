-- The table's check tells one from the other.
use Rattle.refusals.proofs.Gates.{unmatched_bad, unmatched_good}
use Rattle.refusals.proofs.gate.unmatched.Goals as goal

pub returns-in-Err : goal.returns-in-Err
returns-in-Err c = unmatched_bad _ _ _ _ _ _ c.check_table.ensures _ c.in-Err.is c.from.ensures

pub returns-in-Ok : goal.returns-in-Ok
returns-in-Ok c = unmatched_good _ _ _ _ _ _ c.check_table.ensures _ c.in-Ok.is
