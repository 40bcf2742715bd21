-- What is still to be made fresh gives the same words and times.
use mathlib.Core.Path.{◌≡◌}
use Prim.Native.Nat.{◌-◌}
use Rattle.work.specs.Array.{fresh_words, fresh_times}
use Rattle.work.proofs.array.fresh.Given as goal

abbrev pub invariant-loop-at : goal.invariant-loop-at
invariant-loop-at l =
    (fresh_words l.at (l.to - l.at) l.work ≡ fresh_words l.from (l.to - l.from) l.initial.work)
    × (fresh_times l.at (l.to - l.at) l.times ≡ fresh_times l.from (l.to - l.from) l.initial.times)
