-- `put_number` meets its contract.
use Rattle.std.proofs.Common.{arith, sym, ◌≡◌, ◌∙◌, ◌-◌, length-set}
use Rattle.frames.specs.Hex.{digits}
use Rattle.frames.specs.Over.{over_none}
use Rattle.writer.proofs.Puts.{digit_first}
use Rattle.writer.proofs.put_number.Goals as goal

pub loop-i-preserved : goal.loop-i-preserved
loop-i-preserved c =
    let l = c.loop-i in
    record {
      length = simp length-set l.invariant.length;
      put = rw c.glyph.ensures (digit_first l.room c.args.at (l.i - 1) l.i l.rest (omega arith) (omega arith)) ∙ l.invariant.put;
    }

pub returns : goal.returns
unfolding digits
returns c =
    let l = c.loop-i in
    let e : l.i ≡ 0 = omega arith in
    sym (over_none l.room c.args.at) ∙ (rw e at l.invariant.put)
