-- A Wait is taken only if all tests pass.
use mathlib.Core.Path.{sym, ◌∙◌}
use mathlib.Core.Bool.{false≢true}
use borrow.Author.Tests.{eqb-true}
use native.Mathlib.Omega.{arith}
use Rattle.load.proofs.PassLaws.{between, plain}
use Rattle.load.proofs.pass.plain_wait.Goals as goal
use Rattle.load.proofs.pass.plain_wait.Goals.{then-from-eq0, else-from-eq0, then-limit, else-limit}

pub returns-then-leaf_allowed : goal.returns-then-leaf_allowed
returns-then-leaf_allowed c e = elim c.if-limit.branch [
  | then-limit w ↦ elim c.if-from-eq0.branch [
    | then-from-eq0 v ↦
        plain _ _ _ _ _ _ _ (omega (arith, v.if-from-eq0.true)) (between _ (sym v.value-is ∙ w.if-limit.true) e)
        (sym w.leaf_allowed.ensures ∙ sym w.value-is ∙ c.if-leaf_allowed.true)
    | else-from-eq0 v ↦ absurd (v.if-from-eq0.false (eqb-true _ 0 (sym v.value-is ∙ w.if-limit.true)))
  ]
  | else-limit w ↦ absurd (false≢true (sym w.if-limit.false ∙ sym w.value-is ∙ c.if-leaf_allowed.true))
]
