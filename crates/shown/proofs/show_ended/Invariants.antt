-- What is still to be shown gives the same words.
use Rattle.std.proofs.Common.{◌≡◌, ◌-◌}
use Rattle.shown.specs.Show.{ended_words}
use Rattle.shown.proofs.show_ended.Given as goal

-- What is still to be shown gives the same words.
abbrev pub invariant-loop-p : goal.invariant-loop-p
invariant-loop-p l = ended_words l.p (l.n - l.p) l.work ≡ ended_words 0 l.n l.initial.work
