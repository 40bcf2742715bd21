-- Behind the last child, or the child at the place is due.
use mathlib.Core.Path.{refl}
use native.Mathlib.Omega.{arith}
use Rattle.turns.proofs.TurnLaws.{child_behind}
use Rattle.turns.proofs.SequenceLaws.{seq_over, seq_start}
use Rattle.turns.proofs.sequence.sequence_opened.Goals as goal

pub returns-then-stop-q-clause-ts_value : goal.returns-then-stop-q-clause-ts_value
returns-then-stop-q-clause-ts_value c =
    rw c.waiting.ensures
    (λ v x ts. seq_over x v _ _ _ ts _ _ _ c.end_of-stop.ensures.0 c.place_of-i.ensures.0 c.child-q.ensures.0 c.if-stop-q.true)

pub returns-clause-ts_value : goal.returns-clause-ts_value
returns-clause-ts_value c = let stop_in = c.end_of-stop.ensures.1 in
    λ v x ts. seq_start x v _ _ _ ts _ _ _ c.end_of-stop.ensures.0 c.place_of-i.ensures.0 c.child-q.ensures.0 stop_in c.if-stop-q.false

pub returns-clause-keeps : goal.returns-clause-keeps
returns-clause-keeps c = let stop_in = c.end_of-stop.ensures.1 in
    let behind = child_behind _ _ _ _ _ stop_in c.child-q.ensures.0 in
    record {
      kind = refl;
      node = refl;
      fine = record {
        node_in = omega arith;
        child_in = omega (arith, c.if-stop-q.false);
        next_in = c.requires.next_bound;
        stop_in = stop_in;
        index_in = omega (arith, c.place_of-i.ensures.1);
      };
    }
