-- No child at all, or from the first on.
use lib.Ieee.{of_bits}
use Rattle.turns.proofs.WhenAllLaws.{when_empty, when_start}
use Rattle.turns.proofs.when_all.when_all_opened.Goals as goal

pub returns-then-stop-p-clause-ts_value : goal.returns-then-stop-p-clause-ts_value
returns-then-stop-p-clause-ts_value c = rw (c.turned.ensures, c.passed.ensures) (λ v ts. when_empty _ _ _ _ _ _ ts _ c.end_of-stop.ensures.0 c.if-stop-p.true)

pub returns-clause-ts_value : goal.returns-clause-ts_value
unfolding of_bits
returns-clause-ts_value c = let next = c.when_all_next.ensures in λ v ts. when_start _ _ _ _ _ _ ts _ c.end_of-stop.ensures.0 c.if-stop-p.false _ (next.ts_value v ts)
