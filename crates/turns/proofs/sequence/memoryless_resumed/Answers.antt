-- What the status of the child, exchanged or not, leads to.
use mathlib.Core.Path.{sym, ◌∙◌}
use Rattle.turns.proofs.TurnLaws.{fuel_freshed}
use Rattle.turns.proofs.SequenceLaws as law
use Rattle.turns.proofs.sequence.memoryless_resumed.Goals as goal

-- the next child is due
pub returns-else-level-next-clause-times_value : goal.returns-else-level-next-clause-times_value
returns-else-level-next-clause-times_value c = let a = c.args in
    let pre = c.requires.fine in
    λ v. law.mem_again a.exchange v a.level a.res.seen a.res.left _ _
    (sym c.turned.ensures ∙ c.in-Success.is) pre.stop_in c.if-level-next.false _ _ c.fresh.ensures.work_after c.fresh.ensures.times_after _
    c.end_of.ensures.0

pub returns-else-level-next-clause-work_unchanged : goal.returns-else-level-next-clause-work_unchanged
returns-else-level-next-clause-work_unchanged c = let pre = c.requires.fine in
    fuel_freshed _ _ _ _ pre.next_in c.fresh.ensures.work_after
