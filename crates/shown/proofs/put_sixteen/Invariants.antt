-- The words that were passed are put through.
use Rattle.std.proofs.Common.{◌≡◌, ℕ}
use Rattle.shown.specs.Show.{Puts, over_words}
use Rattle.shown.proofs.put_sixteen.Given as goal

-- The words that were passed are put through.
abbrev pub invariant-loop-i : goal.invariant-loop-i
invariant-loop-i g l = (f : ℕ → ℕ) → Puts (goal.F-post g l.put) f → l.work ≡ over_words f l.q l.i l.initial.work
