-- The times that were passed went on, and the others are as they were.
use mathlib.Core.Path.{◌≡◌}
use Prim.Native.Nat.{ℕ, ◌≤◌, ◌<◌}
use lib.Ieee.{Float, binary64, add}
use lib.ListN.{get_or}
use Rattle.leaves.proofs.waits.sixteen_keep_waiting.Given as goal

abbrev pub invariant-loop-time : goal.invariant-loop-time
invariant-loop-time l =
    ((j : ℕ) (d : Float) → j < l.time-index → get_or l.time-items j d ≡ add binary64 (get_or l.initial.time-items j d) l.dt)
    × ((j : ℕ) (d : Float) → l.time-index ≤ j → get_or l.time-items j d ≡ get_or l.initial.time-items j d)
