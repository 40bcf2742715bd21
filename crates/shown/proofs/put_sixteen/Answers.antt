-- The words that were passed are put through.
use mathlib.Core.Path.{refl}
use Rattle.shown.specs.Show.{over_words}
use Rattle.shown.proofs.ShowLaws.{over_more}
use Rattle.shown.proofs.put_sixteen.Goals as goal

pub loop-i-init : goal.loop-i-init
unfolding over_words
loop-i-init g c = λ f e. refl

pub loop-i-preserved : goal.loop-i-preserved
loop-i-preserved g c = λ f e. over_more _ _ _ _ _ _ (c.loop-i.invariant f e) (e _ _ c.put.ensures)
