-- What each arm asks of the open level, and what its driver makes of the child's result.
use Rattle.turns.proofs.NodeLaws as law
use Rattle.turns.proofs.node.resumed.Goals as goal

pub returns-in-If-clause-by_index : goal.returns-in-If-clause-by_index
returns-in-If-clause-by_index c =
    let r = c.if_resumed.ensures in
    law.visited_by _ (law.if_driver _ c.in-If.in-If-own.keys3) _ _ _ _ _ c.if_resumed.result r.keeps _ _ (λ a b tk. r.times_value _)

pub returns-in-Select-clause-by_index : goal.returns-in-Select-clause-by_index
returns-in-Select-clause-by_index c =
    let r = c.sequence_resumed.ensures in
    law.visited_by _ (law.sequence_driver _ _ c.exchanges.ensures c.in-Select.in-Select-own.keys4) _ _ _ _ _ c.sequence_resumed.result r.keeps _ _ (λ a b tk. r.times_value _)

pub returns-in-MemorylessSequence-clause-by_index : goal.returns-in-MemorylessSequence-clause-by_index
returns-in-MemorylessSequence-clause-by_index c =
    let r = c.memoryless_resumed.ensures in
    law.visited_by _ (law.memoryless_driver _ _ c.exchanges-in-MemorylessSequence.ensures c.in-MemorylessSequence.in-MemorylessSequence-own.keys5)
    _ _ _ _ _ c.memoryless_resumed.result r.keeps _ _ (λ a b tk. r.times_value _)

pub returns-in-While-clause-by_index : goal.returns-in-While-clause-by_index
returns-in-While-clause-by_index c =
    let r = c.while_resumed.ensures in
    law.visited_by _ (law.while_driver _ c.in-While.in-While-own.keys6) _ _ _ _ _ c.while_resumed.result r.keeps _ _ (λ a b tk. r.times_value _)

pub returns-in-WhileAll-clause-by_index : goal.returns-in-WhileAll-clause-by_index
returns-in-WhileAll-clause-by_index c =
    let r = c.while_all_resumed.ensures in
    law.visited_by _ (law.while_all_driver _ c.in-WhileAll.in-WhileAll-own.keys7) _ _ _ _ _ c.while_all_resumed.result r.keeps _ _ (λ a b tk. r.times_value _)

pub returns-in-WhenAll-clause-by_index : goal.returns-in-WhenAll-clause-by_index
returns-in-WhenAll-clause-by_index c =
    let r = c.when_all_resumed.ensures in
    law.visited_by _ (law.when_all_driver _ _ c.exchanges-in-WhenAll.ensures c.in-WhenAll.in-WhenAll-own.keys8) _ _ _ _ _ c.when_all_resumed.result r.keeps _ _ r.by_index

pub returns-in-After-clause-by_index : goal.returns-in-After-clause-by_index
returns-in-After-clause-by_index c =
    let r = c.after_resumed.ensures in
    law.visited_by _ (law.after_driver _ c.in-After.in-After-own.keys9) _ _ _ _ _ c.after_resumed.result r.keeps _ _ (λ a b tk. r.ts_value _ _)

pub returns-in-Race-clause-by_index : goal.returns-in-Race-clause-by_index
returns-in-Race-clause-by_index c =
    let r = c.race_resumed.ensures in
    law.visited_by _ (law.race_driver _ c.in-Race.in-Race-own.keys10) _ _ _ _ _ c.race_resumed.result r.keeps _ _ r.by_index
