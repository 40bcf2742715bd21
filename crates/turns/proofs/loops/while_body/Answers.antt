-- The body from the place on.
use native.Mathlib.Omega.{arith}
use Rattle.turns.proofs.TurnLaws.{child_behind}
use Rattle.turns.proofs.loops.while_body.Goals as goal

pub while_next-requires-clause-node_lt_q : goal.while_next-requires-clause-node_lt_q
while_next-requires-clause-node_lt_q c = let past = c.end_of-body.ensures.2 (omega (arith, c.requires)) in
    let behind = child_behind _ _ _ _ _ c.end_of-stop.ensures.1 c.child.ensures.0 in omega (arith, past, behind)
