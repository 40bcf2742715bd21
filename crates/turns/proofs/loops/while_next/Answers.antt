-- No turn is left, or no child, or the child is due.
use Rattle.turns.proofs.LoopLaws.{while_over, while_lost, while_due}
use Rattle.turns.proofs.loops.while_next.Goals as goal

pub returns-then-turns-eq0-clause-ts_value : goal.returns-then-turns-eq0-clause-ts_value
returns-then-turns-eq0-clause-ts_value c = rw c.stopped.ensures (λ v ws ts. while_over v _ _ _ _ _ _ ws ts _ c.if-turns-eq0.true)

pub returns-then-level-q-clause-ts_value : goal.returns-then-level-q-clause-ts_value
returns-then-level-q-clause-ts_value c = rw c.stopped-then-level-q.ensures (λ v ws ts. while_lost v _ _ _ _ _ _ ws ts _ c.if-level-q.true)

pub returns-clause-ts_value : goal.returns-clause-ts_value
returns-clause-ts_value c = λ v ws ts. while_due v _ _ _ _ _ _ ws ts _ c.if-turns-eq0.false c.if-level-q.false _
