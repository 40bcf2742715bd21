-- States of 0: none of the nodes before p has a place or a mark.
use Rattle.std.proofs.Common.{◌≡◌, ℕ, ◌+◌, ◌-◌, ◌<◌}
use Rattle.work.specs.Array.{word_at}
use Rattle.shown.specs.Show.{Bare}
use Rattle.shown.proofs.all_bare.Given as goal

-- States of 0: none of the nodes before p has a place or a mark.
abbrev pub invariant-loop-p : goal.invariant-loop-p
invariant-loop-p l = l.states ≡ 0 → (q : ℕ) → q < l.p → Bare (word_at l.work q) (256 - l.n + q)
