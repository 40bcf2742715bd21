-- Each child that is passed over leaves the driver where it stands.
use mathlib.Core.Path.{◌≡◌}
use mathlib.Core.Bool.{Bool}
use mathlib.Core.List.{List}
use Prim.Native.Nat.{◌≤◌, ◌-◌}
use lib.Ieee.{Float}
use Rattle.work.specs.Flat.{Visitor, when_all_go}
use Rattle.turns.proofs.when_all.unmarked.Given as goal

-- Each child that is passed over leaves the driver where it stands.
abbrev pub invariant-loop-at : goal.invariant-loop-at
invariant-loop-at l =
    ((v : Visitor) (dt : Float) (all : Bool) (least : Float) (ts : List Float) → when_all_go v l.stop dt 256 l.q all least l.work ts ≡ when_all_go v l.stop dt 256 l.at all least l.work ts)
    × (l.q ≤ l.at)
    × (l.at ≤ 256)

abbrev pub decreases-loop-at : goal.decreases-loop-at
decreases-loop-at l = l.stop - l.at
