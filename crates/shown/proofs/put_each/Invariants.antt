-- The children that are left lead to the same words, in both loops.
use Rattle.std.proofs.Common.{◌≡◌, ℕ, ◌≤◌}
use Rattle.shown.specs.Show.{Puts, put_at, each_from}
use Rattle.shown.proofs.put_each.Given as goal

-- The children that are left lead to the same words, in both loops.
abbrev pub invariant-loop-left : goal.invariant-loop-left
invariant-loop-left g l =
    (l.q ≤ 256)
    × (l.stop ≤ 256)
    × ((f : ℕ → ℕ) → Puts (goal.F-post g l.put) f → each_from (put_at f) l.stop l.left l.q l.work ≡ each_from (put_at f) l.stop l.initial.left l.initial.q l.initial.work)

abbrev pub decreases-loop-left : goal.decreases-loop-left
decreases-loop-left g l = l.left

abbrev pub invariant-loop-left-2 : goal.invariant-loop-left-2
invariant-loop-left-2 g l =
    (l.q ≤ 256)
    × (l.stop ≤ 256)
    × ((f : ℕ → ℕ) → Puts (goal.F-post g l.put) f → each_from (put_at f) l.stop l.left l.q l.work ≡ each_from (put_at f) l.stop l.initial.left l.initial.q l.initial.work)

abbrev pub decreases-loop-left-2 : goal.decreases-loop-left-2
decreases-loop-left-2 g l = l.left
