-- Nothing is to be shown, or what is still to be shown gives the same words.
use mathlib.Core.Path.{sym, ◌∙◌}
use native.Mathlib.Omega.{arith}
use Rattle.shown.proofs.ShowLaws.{words_one, words_none}
use Rattle.shown.proofs.show_ended.Goals as goal

pub loop-p-preserved : goal.loop-p-preserved
loop-p-preserved c = words_one _ _ _ _ _ (omega arith) c.show_below.ensures ∙ c.loop-p.invariant

pub returns : goal.returns
returns c = sym (words_none _ _ _ (omega arith)) ∙ c.loop-p.invariant
