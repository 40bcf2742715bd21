-- The items before the next one are zero.
use native.Mathlib.Omega.{arith}
use lib.Seq.{length-take-le}
use Rattle.work.proofs.Filling.{filling_more}
use Rattle.cells.proofs.clearing.clear.Goals as goal

pub loop-item-preserved : goal.loop-item-preserved
loop-item-preserved g c =
    let long = length-take-le c.args.n c.args.items.now c.requires in
    filling_more (omega arith) c.loop-item.invariant (omega arith)
