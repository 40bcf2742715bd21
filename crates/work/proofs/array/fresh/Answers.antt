-- What is still to be made fresh gives the same words and times.
use mathlib.Core.Path.{sym, ◌∙◌}
use native.Mathlib.Omega.{arith}
use lib.Ieee.{of_bits}
use Rattle.work.proofs.Laws.{fresh_word_one, fresh_word_none, fresh_time_one, fresh_time_none}
use Rattle.work.proofs.array.fresh.Goals as goal

pub loop-at-preserved : goal.loop-at-preserved
unfolding of_bits
loop-at-preserved c =
    let inv = c.loop-at.invariant in
    (fresh_word_one _ _ _ _ _ (omega arith) c.fresh_word.ensures ∙ inv.0, fresh_time_one _ _ _ _ _ (omega arith) c.put_time.ensures ∙ inv.1)

pub returns-clause-work_after : goal.returns-clause-work_after
returns-clause-work_after c = sym (fresh_word_none _ _ _ (omega arith)) ∙ c.loop-at.invariant.0

pub returns-clause-times_after : goal.returns-clause-times_after
returns-clause-times_after c = sym (fresh_time_none _ _ _ (omega arith)) ∙ c.loop-at.invariant.1
