-- There is no child, or the condition is due.
use Rattle.turns.proofs.LoopLaws.{while_none, while_asks}
use Rattle.turns.proofs.loops.while_opened.Goals as goal

pub returns-then-p-ge255-clause-ts_value : goal.returns-then-p-ge255-clause-ts_value
returns-then-p-ge255-clause-ts_value c = rw c.stopped.ensures (λ v ws ts. while_none v _ _ ws ts c.if-p-ge255.true)

pub returns-clause-ts_value : goal.returns-clause-ts_value
returns-clause-ts_value c = let pre = c.requires in λ v ws ts. while_asks v _ _ ws ts c.if-p-ge255.false _ pre.count_zero _
