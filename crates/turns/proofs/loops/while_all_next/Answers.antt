-- No turn is left, or the condition is due, or no child is left, or the child is due.
use Rattle.turns.proofs.LoopLaws.{all_over, all_asks, all_lost, all_due}
use Rattle.turns.proofs.loops.while_all_next.Goals as goal

pub returns-then-turns-eq0-clause-ts_value : goal.returns-then-turns-eq0-clause-ts_value
returns-then-turns-eq0-clause-ts_value c = rw c.stopped.ensures (λ v ws ts. all_over v _ _ _ _ _ _ _ ws ts _ c.if-turns-eq0.true)

pub returns-then-i-eq0-clause-ts_value : goal.returns-then-i-eq0-clause-ts_value
returns-then-i-eq0-clause-ts_value c = λ v ws ts. all_asks v _ _ _ _ _ _ _ ws ts _ c.if-turns-eq0.false c.if-i-eq0.true _

pub returns-then-level-q-clause-ts_value : goal.returns-then-level-q-clause-ts_value
returns-then-level-q-clause-ts_value c = rw c.stopped-then-level-q.ensures (λ v ws ts. all_lost v _ _ _ _ _ _ _ ws ts _ c.if-i-eq0.false c.if-level-q.true)

pub returns-clause-ts_value : goal.returns-clause-ts_value
returns-clause-ts_value c = λ v ws ts. all_due v _ _ _ _ _ _ _ ws ts _ c.if-turns-eq0.false c.if-i-eq0.false c.if-level-q.false _
