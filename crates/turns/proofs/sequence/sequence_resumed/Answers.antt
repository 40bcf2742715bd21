-- What the status of the child, exchanged or not, leads to.
use mathlib.Core.Path.{sym, ◌∙◌}
use Rattle.turns.proofs.TurnLaws.{fuel_freshed}
use Rattle.turns.proofs.SequenceLaws as law
use Rattle.turns.proofs.sequence.sequence_resumed.Goals as goal

-- an other event
pub returns-then-not-update-clause-work_unchanged : goal.returns-then-not-update-clause-work_unchanged
returns-then-not-update-clause-work_unchanged c =
    c.done_in_place-then-not-update.ensures.work_unchanged ∙ fuel_freshed _ _ _ _ c.end_of-behind.ensures.1 c.fresh.ensures.work_after

-- the next child is due

pub returns-else-not-update-clause-times_value : goal.returns-else-not-update-clause-times_value
returns-else-not-update-clause-times_value c = let a = c.args in
    let next = c.end_of-next.ensures in
    let more = c.if-level-next.false in λ v. law.seq_again a.exchange v a.level a.res.seen a.res.left _ _ (sym c.turned.ensures ∙ c.in-Success.is) _
    next.0 more _ c.end_of-behind.ensures.0 _ _ c.fresh.ensures.work_after c.fresh.ensures.times_after c.requires.stop_in (sym c.updates-update.ensures ∙ c.if-not-update.false)

pub returns-else-not-update-clause-work_unchanged : goal.returns-else-not-update-clause-work_unchanged
returns-else-not-update-clause-work_unchanged c = let next = c.end_of-next.ensures in
    fuel_freshed _ _ _ _ c.end_of-behind.ensures.1 c.fresh.ensures.work_after
