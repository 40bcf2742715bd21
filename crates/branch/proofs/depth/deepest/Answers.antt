-- The trees before `at` are at most so deep.
use native.Mathlib.Omega.{arith}
use Rattle.branch.proofs.Depths.{all_left, none_left, goes_on, next}
use Rattle.branch.proofs.depth.deepest.Goals as goal

pub loop-at-init : goal.loop-at-init
loop-at-init c ts h levels known = all_left _ _ _ _ h

pub returns-then-next-at : goal.returns-then-next-at
returns-then-next-at c ts h few levels known =
    let on = goes_on _ _ _ _ _ _ (c.loop-at.invariant ts h levels known) c.loop-at-test.true in
    absurd (omega arith)

pub loop-at-preserved : goal.loop-at-preserved
loop-at-preserved c ts h levels known =
    let on = next _ _ _ _ _ _ c.args.deep.now known levels (c.loop-at.invariant ts h levels known) c.loop-at-test.true in
    rw (c.from-next.ensures, c.max-levels.ensures) on

pub returns : goal.returns
returns c ts h few levels known = none_left _ _ _ _ _ _ (c.loop-at.invariant ts h levels known) c.loop-at-test.false
