-- What each arm asks of the level that was just entered, and the rule of its kind.
use mathlib.Core.Path.{refl}
use Rattle.turns.proofs.NodeLaws as law
use Rattle.turns.proofs.node.opened.Goals as goal

pub returns-in-If-clause-times_value : goal.returns-in-If-clause-times_value
returns-in-If-clause-times_value c =
    let r = c.if_opened.ensures in
    law.opened_by c.entered-level.ensures (law.if_driver _ c.in-If.in-If-own.keys2) c.if_opened.result r.keeps _ _ _ _ (λ T v. r.ts_value v _)

pub returns-in-Select-clause-times_value : goal.returns-in-Select-clause-times_value
returns-in-Select-clause-times_value c =
    let r = c.sequence_opened.ensures in
    law.opened_by c.entered-level.ensures (law.sequence_driver _ _ refl c.in-Select.in-Select-own.keys3) c.sequence_opened.result r.keeps _ _ _ _ (λ T v. r.ts_value v _ _)

pub returns-in-MemorylessSequence-clause-times_value : goal.returns-in-MemorylessSequence-clause-times_value
returns-in-MemorylessSequence-clause-times_value c =
    let r = c.memoryless_opened.ensures in
    law.opened_by c.entered-level.ensures (law.memoryless_driver _ _ c.exchanges.ensures c.in-MemorylessSequence.in-MemorylessSequence-own.keys4)
    c.memoryless_opened.result r.keeps _ _ _ _ (λ T. r.times_value)

pub returns-in-While-clause-times_value : goal.returns-in-While-clause-times_value
returns-in-While-clause-times_value c =
    let r = c.while_opened.ensures in
    law.opened_by c.entered-level.ensures (law.while_driver _ c.in-While.in-While-own.keys5) c.while_opened.result r.keeps _ _ _ _ (λ T v. r.ts_value v _ _)

pub returns-in-WhileAll-clause-times_value : goal.returns-in-WhileAll-clause-times_value
returns-in-WhileAll-clause-times_value c =
    let r = c.while_all_opened.ensures in
    law.opened_by c.entered-level.ensures (law.while_all_driver _ c.in-WhileAll.in-WhileAll-own.keys6) c.while_all_opened.result r.keeps _ _ _ _ (λ T v. r.ts_value v _)

pub returns-in-WhenAll-clause-times_value : goal.returns-in-WhenAll-clause-times_value
returns-in-WhenAll-clause-times_value c =
    let r = c.when_all_opened.ensures in
    law.opened_by c.entered-level.ensures (law.when_all_driver _ _ c.exchanges-in-WhenAll.ensures c.in-WhenAll.in-WhenAll-own.keys7) c.when_all_opened.result r.keeps _ _ _ _ (λ T v. r.ts_value v _)

pub returns-in-After-clause-times_value : goal.returns-in-After-clause-times_value
returns-in-After-clause-times_value c =
    let r = c.after_opened.ensures in
    law.opened_by c.entered-level.ensures (law.after_driver _ c.in-After.in-After-own.keys8) c.after_opened.result r.keeps _ _ _ _ (λ T v. r.ts_value v _)

pub returns-in-Race-clause-times_value : goal.returns-in-Race-clause-times_value
returns-in-Race-clause-times_value c =
    let r = c.race_opened.ensures in
    law.opened_by c.entered-level.ensures (law.race_driver _ c.in-Race.in-Race-own.keys9) c.race_opened.result r.keeps _ _ _ _ (λ T v. r.ts_value v _)
