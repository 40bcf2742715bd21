-- What the status of the condition leads to, and that of a child of the body.
use Rattle.turns.proofs.LoopLaws as law
use Rattle.turns.proofs.loops.while_all_resumed.Goals as goal

pub returns-in-Success-clause-times_value : goal.returns-in-Success-clause-times_value
returns-in-Success-clause-times_value c = let a = c.args in
    let next = c.while_all_next-in-Success.ensures in λ v. law.all_again v a.level a.res.seen a.res.left _ _ c.in-Success.is _ _ _ c.end_of-next.ensures.0
    c.index_after.ensures c.move_on-moved.ensures.value _ _ c.move_on-moved.ensures.work_after c.move_on-moved.ensures.times_after c.if-level-eq0.false _ (next.ts_value v _ _)

pub returns-in-Success-clause-work_unchanged : goal.returns-in-Success-clause-work_unchanged
returns-in-Success-clause-work_unchanged c = law.fuel_moved_on _ _ _ _ _ _ c.end_of-next.ensures.1 c.move_on-moved.ensures.work_after
