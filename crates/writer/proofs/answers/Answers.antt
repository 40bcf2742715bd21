-- `answers` meets its contract.
use Rattle.std.proofs.Common.{arith, ◌∙◌}
use Rattle.writer.proofs.Puts.{answer_put}
use Rattle.writer.proofs.answers.Goals as goal

pub loop-i-preserved : goal.loop-i-preserved
loop-i-preserved c =
    let status = c.put-at in
    let leftover = c.put-at-in-loop-i in
    let l = c.loop-i in
    let a = c.args in
    record {
      length = leftover.auto.room ∙ status.auto.room ∙ l.invariant.length;
      place = omega (arith, status.ensures.place, leftover.ensures.place);
      put = answer_put l.i a.statuses.now a.leftovers.now (omega arith) l.invariant.put status.ensures leftover.ensures (rw c.from.ensures);
    }
