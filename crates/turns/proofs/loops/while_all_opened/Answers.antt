-- There is no child, or the walk goes on from the place.
use native.Mathlib.Omega.{arith}
use Rattle.turns.proofs.TurnLaws.{child_behind}
use Rattle.turns.proofs.LoopLaws.{all_none, all_begins}
use Rattle.turns.proofs.loops.while_all_opened.Goals as goal

pub returns-then-p-ge255-clause-ts_value : goal.returns-then-p-ge255-clause-ts_value
returns-then-p-ge255-clause-ts_value c = rw c.stopped.ensures (λ v ts. all_none v _ _ _ ts c.if-p-ge255.true)

pub while_all_next-requires-clause-node_lt_q : goal.while_all_next-requires-clause-node_lt_q
while_all_next-requires-clause-node_lt_q c = let behind = child_behind _ _ _ _ _ c.end_of-stop.ensures.1 c.child.ensures.0 in omega (arith, behind)

pub returns-clause-ts_value : goal.returns-clause-ts_value
returns-clause-ts_value c =
    let next = c.while_all_next.ensures in
    λ v ts. all_begins v _ _ _ ts c.if-p-ge255.false _ _ _ _ c.end_of-stop.ensures.0 c.end_of.ensures.0 c.place_of-i.ensures.0 c.child.ensures.0 _
    (next.ts_value v _ ts)
