-- The items before the next one are zero.
use Rattle.work.proofs.Filling.{Filling}
use Rattle.cells.proofs.clearing.clear.Given as goal

abbrev pub invariant-loop-item : goal.invariant-loop-item
invariant-loop-item g l = Filling l.fn.zero l.initial.item-items l.n l.item-index l.item-items
