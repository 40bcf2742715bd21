-- The bound of a node with children, arm by arm.
use Rattle.std.proofs.Common.{[], ◌∷◌}
use Rattle.rules.specs.declared.behavior.Kind.TheVariants.{WhileAll, Race}
use Rattle.rules.specs.Kinds.{kind_of}
use Rattle.rules.proofs.Arms.{arm}
use Rattle.limits.specs.declared.node.Join.TheVariants.{Sum, Largest, Smallest, Product}
use Rattle.limits.proofs.Nodes.{Counts, counts, counted}
use Rattle.limits.proofs.node.together.Goals as goal

pub returns-in-Select : goal.returns-in-Select
unfolding kind_of
returns-in-Select c =
    let a = c.args in
    let sum = arm (λ k. Counts k Sum) (6 ∷ 7 ∷ 8 ∷ []) a.kind c.in-Select.in-Select-own.keys3 (counts.0, (counts.1, (counts.2, tt))) in
    counted a.own a.first a.rest _ a.kind Sum sum c.with-in-Select.ensures

pub returns-in-WhileAll : goal.returns-in-WhileAll
returns-in-WhileAll c = let a = c.args in rw c.in-WhileAll.is (counted a.own a.first a.rest _ WhileAll Product counts.3 c.with-in-WhileAll.ensures)

pub returns-in-WhenAll : goal.returns-in-WhenAll
unfolding kind_of
returns-in-WhenAll c =
    let a = c.args in
    let largest = arm (λ k. Counts k Largest) (13 ∷ 14 ∷ 15 ∷ []) a.kind c.in-WhenAll.in-WhenAll-own.keys5 (counts.4, (counts.5, (counts.6, tt))) in
    counted a.own a.first a.rest _ a.kind Largest largest c.with-in-WhenAll.ensures

pub returns-in-Race : goal.returns-in-Race
returns-in-Race c = let a = c.args in rw c.in-Race.is (counted a.own a.first a.rest _ Race Smallest counts.7 c.with-in-Race.ensures)
