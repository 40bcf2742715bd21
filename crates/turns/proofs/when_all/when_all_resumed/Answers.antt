-- Each arm of the match.
use mathlib.Core.Path.{sym, ◌∙◌}
use native.Mathlib.Omega.{arith}
use Rattle.leaves.proofs.WaitLaws.{passed_on}
use Rattle.turns.proofs.WhenAllLaws.{Past, past_none, past_some, past_fuel, when_runs, when_fuel}
use Rattle.turns.proofs.when_all.when_all_resumed.Goals as goal
use Rattle.turns.proofs.when_all.when_all_resumed.Goals.{then-next-eq2, else-next-eq2}

pub when_all_next-requires-clause-node_lt_q : goal.when_all_next-requires-clause-node_lt_q
when_all_next-requires-clause-node_lt_q c = elim c.if-next-eq2.branch [
  | then-next-eq2 w ↦ omega (arith, passed_on w.past_waits-next.ensures.waiting)
  | else-next-eq2 w ↦ omega arith
]

pub when_all_next-requires-clause-index_bound : goal.when_all_next-requires-clause-index_bound
when_all_next-requires-clause-index_bound c = elim c.if-next-eq2.branch [
  | then-next-eq2 w ↦ omega (arith, passed_on w.past_waits-next.ensures.waiting)
  | else-next-eq2 w ↦ omega arith
]

-- where the arms of the `if` meet
past : (c : goal.After-when_all_next) → Past c.args.reads.now.limits.now c.args.level c.args.work.now c.args.times.now c.if-next-eq2.next c.if-next-eq2.work c.if-next-eq2.times
past c = elim c.if-next-eq2.branch [
  | then-next-eq2 w ↦ past_some w.work-is w.times-is w.next-is w.past_waits-next.ensures.waiting w.past_waits-next.ensures.upper_bound
  | else-next-eq2 w ↦ past_none w.work-is w.times-is w.next-is
]

pub returns-after-next-eq2-clause-by_index : goal.returns-after-next-eq2-clause-by_index
returns-after-next-eq2-clause-by_index c =
    λ a b tk. when_runs c.requires.fine (past c) a b tk c.args.res _ c.args.any (sym c.turned.ensures ∙ c.in-Running.is) (c.when_all_next.ensures.ts_value _ _)

pub returns-after-next-eq2-clause-work_bound : goal.returns-after-next-eq2-clause-work_bound
returns-after-next-eq2-clause-work_bound c = past_fuel c.requires.fine (past c)

pub returns-in-Success-clause-work_bound : goal.returns-in-Success-clause-work_bound
returns-in-Success-clause-work_bound c = rw (when_fuel c.args.level c.requires.fine _ _ _ c.fresh.ensures.work_after c.put_mark.ensures) (omega arith)
