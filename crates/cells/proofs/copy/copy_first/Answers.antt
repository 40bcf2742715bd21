-- What stands before i is copied.
use mathlib.Core.Path.{ap}
use lib.ListN.{set}
use Rattle.cells.proofs.Copies.{copying_more}
use Rattle.cells.proofs.copy.copy_first.Goals as goal

pub loop-i-preserved : goal.loop-i-preserved
loop-i-preserved g c =
    let item = c.index-from-i in
    copying_more item.result c.requires c.loop-i.invariant c.loop-i-test.true (ap (λ x. set c.loop-i.to c.loop-i.i x) item.is)
