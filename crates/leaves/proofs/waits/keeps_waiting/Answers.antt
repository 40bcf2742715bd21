-- Nothing is done, or a Wait is visited that stays Running.
use mathlib.Core.Path.{ap}
use Rattle.rules.specs.Table.{cleaned}
use Rattle.leaves.proofs.WaitLaws.{waits_on, not_ended}
use Rattle.leaves.proofs.waits.keeps_waiting.Goals as goal

pub returns-clause-times_value : goal.returns-clause-times_value
returns-clause-times_value c e a b tick =
    waits_on _ tick _ _ _ _ _ _ _ _ _ _ _ c.requires c.kind_of-kind.ensures c.in-Wait.is c.if-fuel-eq0.false
    c.updates.ensures c.if-not-updates.false (ap cleaned c.time_at-limit.ensures) c.time_at.ensures (not_ended _ _ c.if-not-elapsed-limit.false)
    c.with_seen.ensures c.from.ensures c.put_time.ensures
