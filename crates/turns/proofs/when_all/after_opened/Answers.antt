-- From the place on.
use native.Mathlib.Omega.{arith}
use lib.Ieee.{of_bits}
use Rattle.turns.proofs.TurnLaws.{child_behind}
use Rattle.turns.proofs.WhenAllLaws.{after_start}
use Rattle.turns.proofs.when_all.after_opened.Goals as goal

pub after_next-requires-clause-node_lt_q : goal.after_next-requires-clause-node_lt_q
after_next-requires-clause-node_lt_q c = let child = c.child.ensures in omega (arith, child_behind _ _ _ _ _ c.end_of-stop.ensures.1 child.0)

pub returns-clause-ts_value : goal.returns-clause-ts_value
unfolding of_bits
returns-clause-ts_value c =
    let next = c.after_next.ensures in
    λ v ts. after_start v _ _ _ _ _ _ _ ts _ c.end_of-stop.ensures.0 c.place_of-place.ensures.0 c.child.ensures.0 (next.ts_value v ts)
