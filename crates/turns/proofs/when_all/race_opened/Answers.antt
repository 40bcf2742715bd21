-- From the first child on.
use Rattle.turns.proofs.WhenAllLaws.{race_start}
use Rattle.turns.proofs.when_all.race_opened.Goals as goal

pub returns-clause-ts_value : goal.returns-clause-ts_value
returns-clause-ts_value c = let next = c.race_next.ensures in λ v ts. race_start v _ _ _ _ ts _ c.end_of.ensures.0 (next.ts_value v ts)
