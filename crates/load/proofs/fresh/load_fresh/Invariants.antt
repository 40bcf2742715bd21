-- What is still to be loaded gives the same words.
use mathlib.Core.Path.{◌≡◌}
use mathlib.Core.Bool.{true}
use Prim.Native.Nat.{◌-◌}
use lib.ListN.{replicate}
use Rattle.load.specs.Load.{load_words}
use Rattle.load.proofs.fresh.load_fresh.Given as goal

abbrev pub invariant-loop-p : goal.invariant-loop-p
invariant-loop-p l =
    load_words true l.kinds l.ends (replicate l.n 0) (replicate l.n 0) l.p (l.n - l.p) l.work
    ≡ load_words true l.kinds l.ends (replicate l.n 0) (replicate l.n 0) 0 l.n l.initial.work
