-- What is still to be passed leads to the same child.
use mathlib.Core.Path.{sym, ◌∙◌}
use native.Mathlib.Omega.{arith}
use Rattle.work.proofs.Laws.{child_over, child_next, child_here}
use Rattle.work.proofs.array.child.Goals as goal

pub returns-then-stop-at : goal.returns-then-stop-at
returns-then-stop-at c = let inv = c.loop.invariant in (sym (child_over _ _ _ _ c.if-stop-at.true) ∙ inv.0, inv.1)

pub loop-preserved : goal.loop-preserved
loop-preserved c =
    (child_next _ _ _ _ _ _ (omega arith) (omega arith) c.if-stop-at.false c.end_of-at.ensures.0 ∙ c.loop.invariant.0, c.end_of-at.ensures.1)

pub returns : goal.returns
returns c = let inv = c.loop.invariant in (sym (child_here _ _ _ _ (omega arith)) ∙ inv.0, inv.1)
