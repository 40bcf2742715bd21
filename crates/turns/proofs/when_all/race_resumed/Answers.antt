-- A child that ended, or the next one, past Waits that were visited at once.
use native.Mathlib.Omega.{arith}
use Rattle.leaves.proofs.WaitLaws.{passed_on}
use Rattle.turns.proofs.WhenAllLaws.{Past, past_none, past_some, past_fuel, race_runs}
use Rattle.turns.proofs.when_all.race_resumed.Goals as goal
use Rattle.turns.proofs.when_all.race_resumed.Goals.{then-next-eq2, else-next-eq2}

pub race_next-requires-clause-node_lt_q : goal.race_next-requires-clause-node_lt_q
race_next-requires-clause-node_lt_q c = elim c.if-next-eq2.branch [
  | then-next-eq2 w ↦ omega (arith, passed_on w.past_waits-next.ensures.waiting)
  | else-next-eq2 w ↦ omega arith
]

pub race_next-requires-clause-index_bound : goal.race_next-requires-clause-index_bound
race_next-requires-clause-index_bound c = elim c.if-next-eq2.branch [
  | then-next-eq2 w ↦ omega (arith, passed_on w.past_waits-next.ensures.waiting)
  | else-next-eq2 w ↦ omega arith
]

-- where the arms of the `if` meet
past : (c : goal.After-race_next) → Past c.args.reads.now.limits.now c.args.level c.args.work.now c.args.times.now c.if-next-eq2.next c.if-next-eq2.work c.if-next-eq2.times
past c = elim c.if-next-eq2.branch [
  | then-next-eq2 w ↦ past_some w.work-is w.times-is w.next-is w.past_waits-next.ensures.waiting w.past_waits-next.ensures.upper_bound
  | else-next-eq2 w ↦ past_none w.work-is w.times-is w.next-is
]

pub returns-clause-by_index : goal.returns-clause-by_index
returns-clause-by_index c = λ a b tk. race_runs c.requires.fine (past c) a b tk _ _ c.in-Running.is (c.race_next.ensures.ts_value _ _)

pub returns-clause-work_bound : goal.returns-clause-work_bound
returns-clause-work_bound c = past_fuel c.requires.fine (past c)
