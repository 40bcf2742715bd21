-- Of each slice what stands before i is copied.
use mathlib.Core.Path.{refl}
use Rattle.cells.proofs.Copies.{copying_more}
use Rattle.cells.proofs.copy.copy_few.Goals as goal

pub loop-i-preserved : goal.loop-i-preserved
loop-i-preserved c =
    let inv = c.loop-i.invariant in
    let pre = c.requires in
    let h = c.loop-i-test.true in record {
      times = copying_more _ (pre.long.times, pre.long_2.times) inv.times h refl;
      places = copying_more _ (pre.long.places, pre.long_2.places) inv.places h refl;
      marks = copying_more _ (pre.long.marks, pre.long_2.marks) inv.marks h refl;
      sinces = copying_more _ (pre.long.sinces, pre.long_2.sinces) inv.sinces h refl;
      same = inv.same;
    }
