-- A tree is next, or a tree has ended: each way through a turn keeps what is known of the open nodes, of their cells and of the words.
use Prim.Native.Nat.{◌-◌}
use Rattle.load.proofs.Opens.{NodesIn, EndedIn}
use Rattle.load.proofs.pass.look.Given as goal

abbrev pub invariant-loop-left : goal.invariant-loop-left
invariant-loop-left l = EndedIn l.table l.cells l.initial.work l.opens l.work l.«open» l.left l.ended l.may_end l.fault l.at

abbrev pub decreases-loop-left : goal.decreases-loop-left
decreases-loop-left l = l.«open»

abbrev pub invariant-loop-at : goal.invariant-loop-at
invariant-loop-at l = NodesIn l.table l.cells l.initial.work l.opens l.work l.«open» l.left l.ended l.may_end l.fault l.at

abbrev pub decreases-loop-at : goal.decreases-loop-at
decreases-loop-at l = 256 - l.at
