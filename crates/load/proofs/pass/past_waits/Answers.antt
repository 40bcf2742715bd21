-- From `from` on plain Waits stand, and their words: first whole groups, then one by one.
use Rattle.load.proofs.PassLaws.{passes_more}
use Rattle.load.proofs.SixteenLaws.{passes_sixteen}
use Rattle.load.proofs.pass.past_waits.Goals as goal

pub loop-begin-preserved : goal.loop-begin-preserved
loop-begin-preserved c =
    let pre = c.requires in
    passes_sixteen c.loop-begin.invariant c.loop-begin-test.true pre.from_le_to.1 c.if-begin-eq1.true pre.groups c.if-plain-begin.true c.clear_sixteen.ensures

pub loop-at-preserved : goal.loop-at-preserved
loop-at-preserved c =
    passes_more c.loop-at.invariant c.loop-at-test.true c.requires.from_le_to.1
    (c.plain_wait.ensures c.if-not-plain_wait.false) _ c.word.ensures
