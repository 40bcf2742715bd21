-- A branch's result; no choice yet; a branch that is chosen.
use mathlib.Core.Path.{refl}
use Prim.Native.Nat.{◌+◌}
use native.Mathlib.Omega.{arith}
use borrow.Author.Tests.{ne_eqb}
use Rattle.turns.proofs.BranchLaws.{choice_small, if_chosen, if_chosen_lost}
use Rattle.turns.proofs.FuelLaws.{fuel_chosen}
use Rattle.turns.proofs.TurnLaws.{child_past}
use Rattle.turns.proofs.branches.if_resumed.Goals as goal

pub returns-then-stop-branch-clause-times_value : goal.returns-then-stop-branch-clause-times_value
returns-then-stop-branch-clause-times_value c = let a = c.args in
    λ v. rw c.stopped.ensures
    (if_chosen_lost v a.level a.res.left a.work.now a.times.now c.if-level-ne0.false
    a.res.seen _ c.in-Some.ensures _ _ c.choose.ensures.work_after c.choose.ensures.times_after _
    c.child-branch.ensures.0 c.if-stop-branch.true)

pub returns-then-stop-branch-clause-work_unchanged : goal.returns-then-stop-branch-clause-work_unchanged
returns-then-stop-branch-clause-work_unchanged c = let pre = c.requires in rw c.choose.ensures.work_after (fuel_chosen _ _ _ _ (omega (arith, pre.node_in, pre.child_in)))

pub returns-clause-times_value : goal.returns-clause-times_value
returns-clause-times_value c = let a = c.args in
    let small = choice_small _ _ c.in-Some.ensures in
    λ v. rw (ne_eqb c.in-Some.chosen 0 (λ z. omega (arith, small)))
    (if_chosen v a.level a.res.left a.work.now a.times.now c.if-level-ne0.false
    a.res.seen _ c.in-Some.ensures _ _ c.choose.ensures.work_after c.choose.ensures.times_after _
    c.child-branch.ensures.0 c.if-stop-branch.false)

pub returns-clause-keeps : goal.returns-clause-keeps
returns-clause-keeps c = let a = c.args in
    let pre = c.requires in
    record {
      kind = refl;
      node = refl;
      fine = record {
        node_in = omega (arith, c.child-branch.ensures.0, child_past c.choose.new.work a.level.stop c.in-Some.chosen (a.level.node + 1) pre.stop_in);
        child_in = omega (arith, c.if-stop-branch.false, pre.stop_in);
        next_in = pre.next_in;
        stop_in = pre.stop_in;
        index_in = omega (arith, choice_small _ _ c.in-Some.ensures);
      };
    }

pub returns-clause-work_unchanged : goal.returns-clause-work_unchanged
returns-clause-work_unchanged c = let pre = c.requires in
    rw c.choose.ensures.work_after (fuel_chosen _ _ _ _ (omega (arith, pre.node_in, pre.child_in)))
