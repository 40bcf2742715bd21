-- Word after word.
use native.Mathlib.Omega.{arith}
use Rattle.settle.proofs.BackLaws.{putting_more}
use Rattle.settle.proofs.back.put_states.Goals as goal

pub loop-i-preserved : goal.loop-i-preserved
loop-i-preserved c =
    let pre = c.requires in
    let inv = c.loop-i.invariant in (
      putting_more (omega arith) pre.1 inv.0 (omega arith) c.place_of.ensures.0,
      putting_more (omega arith) pre.2 inv.1 (omega arith) c.mark_of.ensures.0,
      putting_more (omega arith) pre.3 inv.2 (omega arith) c.seen_of.ensures.0,
    )
