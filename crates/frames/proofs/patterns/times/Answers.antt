-- `times` meets its contract.
use Rattle.std.proofs.Common.{arith, ◌∙◌, length-set}
use Rattle.frames.proofs.Nans.{timed_more, timed_end}
use Rattle.frames.proofs.patterns.times.Goals as goal

pub loop-i-preserved : goal.loop-i-preserved
loop-i-preserved c =
    let l = c.loop-i in
    record {
      length = simp length-set l.invariant.length;
      turned = rw (l.invariant.turned, c.time.ensures) (timed_more l.i _ _ (omega arith) (omega arith));
    }

pub returns : goal.returns
returns c =
    let l = c.loop-i in
    let a = c.args in
    l.invariant.turned ∙ timed_end l.i a.n a.patterns.now a.out.now (omega arith)
