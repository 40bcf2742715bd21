-- `ticks` and `trees` call each other. Measure: twice the nodes of the subtree, or twice those of the trees and one.
use Rattle.std.proofs.Common.{ℕ, ◌+◌, ◌-◌, ◌*◌, get_or}
use Rattle.std.specs.Float.{binary64}
use Rattle.rules.specs.Tree.{Forest}
use Rattle.bound.specs.Ready.{TreesFrom, after}
use Rattle.bound.proofs.Laws.{Left}
use Rattle.bound.proofs.+ticks_trees.Given as goal

abbrev pub decreases-ticks : goal.decreases-ticks
decreases-ticks l = 2 * (get_or l.ends.now l.at 0 - l.at)

abbrev pub decreases-trees : goal.decreases-trees
decreases-trees l = 2 * (after l.ends.now l.count l.from - l.from) + 1

-- what is left of the trees, and what has been counted of them
abbrev pub invariant-trees-loop : goal.invariant-trees-loop
invariant-trees-loop l =
    (ts : Forest) (stop : ℕ) → TreesFrom l.table l.ends l.from l.count ts stop →
    let t = l.table in
    Left binary64 t.kinds.now t.ns.now t.limits.now l.ends l.join l.step l.from l.count ts stop l.at (l.count - l.counter) l.all
