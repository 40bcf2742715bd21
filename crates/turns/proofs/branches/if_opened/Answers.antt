-- The branch that was chosen, or the condition.
use mathlib.Core.Path.{refl}
use Prim.Native.Nat.{◌+◌}
use native.Mathlib.Omega.{arith}
use borrow.Author.Tests.{eq-eqb, ne_eqb}
use Rattle.turns.proofs.BranchLaws.{if_held, if_lost, if_none, if_due}
use Rattle.turns.proofs.TurnLaws.{child_past}
use Rattle.turns.proofs.branches.if_opened.Goals as goal

pub returns-then-stop-held-clause-ts_value : goal.returns-then-stop-held-clause-ts_value
returns-then-stop-held-clause-ts_value c = λ v ts. rw c.stopped.ensures
    (if_lost v _ _ _ ts _ _ c.end_of-stop.ensures.0 c.place_of-place.ensures.0 _ c.if-place-gt0.true c.child-held.ensures.0 c.if-stop-held.true)

pub returns-then-place-gt0-clause-ts_value : goal.returns-then-place-gt0-clause-ts_value
returns-then-place-gt0-clause-ts_value c = let held = c.if-place-gt0.true in λ v ts. rw (ne_eqb c.place_of-place.result 0 (λ z. omega (arith, held)))
    (if_held v _ _ _ ts _ _ c.end_of-stop.ensures.0 c.place_of-place.ensures.0 _ held c.child-held.ensures.0 c.if-stop-held.false)

pub returns-then-place-gt0-clause-keeps : goal.returns-then-place-gt0-clause-keeps
returns-then-place-gt0-clause-keeps c = let pre = c.requires in
    record {
      kind = refl;
      node = refl;
      fine = record {
        node_in = omega (
          arith,
          c.child-held.ensures.0,
          child_past c.args.work.now c.end_of-stop.result c.place_of-place.result (c.args.level.node + 1) c.end_of-stop.ensures.1,
        );
        child_in = omega (arith, c.if-stop-held.false, c.end_of-stop.ensures.1);
        next_in = omega (arith, pre.next_zero);
        stop_in = c.end_of-stop.ensures.1;
        index_in = omega (arith, c.place_of-place.ensures.1);
      };
    }

pub returns-then-p-ge255-clause-ts_value : goal.returns-then-p-ge255-clause-ts_value
returns-then-p-ge255-clause-ts_value c = λ v ts. rw c.stopped-then-p-ge255.ensures
    (if_none v _ _ _ ts _ _ c.end_of-stop.ensures.0 c.place_of-place.ensures.0 c.if-place-gt0.false c.if-p-ge255.true)

pub returns-clause-ts_value : goal.returns-clause-ts_value
returns-clause-ts_value c = let pre = c.requires in λ v ts. rw (eq-eqb _ 0 pre.index_zero)
    (if_due v _ _ _ ts _ _ c.end_of-stop.ensures.0 c.place_of-place.ensures.0 c.if-place-gt0.false c.if-p-ge255.false)
