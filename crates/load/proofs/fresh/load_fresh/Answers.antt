-- What is still to be loaded gives the same words.
use mathlib.Core.Path.{sym, ◌∙◌}
use Prim.Native.Nat.{ℕ}
use native.Mathlib.Omega.{arith}
use lib.ListN.{get_or-replicate}
use Rattle.load.proofs.Laws.{load_one, load_none}
use Rattle.load.proofs.fresh.load_fresh.Goals as goal

pub loop-p-preserved : goal.loop-p-preserved
loop-p-preserved c =
    let zero = get_or-replicate {A = ℕ} _ _ 0 0 c.loop-p-test.true in
    load_one _ _ _ _ _ _ _ _ _ _ _ (omega arith) (c.saturating_sub-below.ensures ∙ rw c.from.ensures) (rw zero c.word.ensures) ∙ c.loop-p.invariant

pub returns : goal.returns
returns c = sym (load_none _ _ _ _ _ _ _ _ (omega arith)) ∙ c.loop-p.invariant
