-- `begin` meets its contract.
use Rattle.std.proofs.Common.{arith, subst, ◌≤◌, ◌∙◌, List, length}
use Rattle.frames.specs.Line.{Field}
use Rattle.frames.specs.Parts.{Puts}
use Rattle.writer.proofs.Puts.{puts_on, fields_more, field_room}
use Rattle.writer.proofs.begin.Goals as goal

pub put-at-requires : goal.put-at-requires
put-at-requires c =
    let l = c.loop-width in
    omega (arith, l.invariant.put.place, field_room l.width-index c.args.fields.now (omega arith))

pub loop-width-preserved : goal.loop-width-preserved
loop-width-preserved c =
    let l = c.loop-width in
    let two : 2 ≤ length c.put_number.new.room = omega (arith, c.put_number.auto.room) in
    record {
      length = c.put-at.auto.room ∙ l.invariant.length;
      put = subst (λ (fs : List Field). Puts c.put_number.new.room 2 fs c.put-at.new.room c.put-at.result) (fields_more l.width-index c.args.fields.now (omega arith))
          (puts_on two l.invariant.put c.put-at.ensures);
    }
