-- `head` meets its contract: each kind's frames, and no others.
use Rattle.std.proofs.Common.{arith}
use Rattle.frames.proofs.Heads.{by_kind, no_kind}
use Rattle.frames.proofs.reader.head.Goals as goal

pub returns-in-1 : goal.returns-in-1
returns-in-1 c = by_kind _ c.number.new.self.bytes.now c.in_ok-number.field-0 1 c.node.result c.in_ok-number.ensures c.in-1.is c.node.ensures

pub returns-in-2 : goal.returns-in-2
returns-in-2 c = by_kind _ c.number.new.self.bytes.now c.in_ok-number.field-0 2 c.asked.result c.in_ok-number.ensures c.in-2.is c.asked.ensures

pub returns-in-3 : goal.returns-in-3
returns-in-3 c = by_kind _ c.number.new.self.bytes.now c.in_ok-number.field-0 3 c.asked-in-3.result c.in_ok-number.ensures c.in-3.is c.asked-in-3.ensures

pub returns-in-130 : goal.returns-in-130
returns-in-130 c = by_kind _ c.number.new.self.bytes.now c.in_ok-number.field-0 130 c.said.result c.in_ok-number.ensures c.in-130.is c.said.ensures

pub returns-in-131 : goal.returns-in-131
returns-in-131 c = by_kind _ c.number.new.self.bytes.now c.in_ok-number.field-0 131 c.said-in-131.result c.in_ok-number.ensures c.in-131.is c.said-in-131.ensures

pub returns-in-143 : goal.returns-in-143
returns-in-143 c = by_kind _ c.number.new.self.bytes.now c.in_ok-number.field-0 143 c.malformed.result c.in_ok-number.ensures c.in-143.is c.malformed.ensures

pub returns-in_default : goal.returns-in_default
returns-in_default c =
    no_kind _ c.number.new.self.bytes.now c.in_ok-number.field-0 c.in_ok-number.ensures (λ e. omega arith) (λ e. omega arith) (λ e. omega arith) (λ e. omega arith)
    (λ e. omega arith) (λ e. omega arith)
