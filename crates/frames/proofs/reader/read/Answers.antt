-- `read` meets its contract.
use Rattle.std.proofs.Common.{arith, subst, ℕ}
use Rattle.std.specs.Prelude.{Option, Some, None}
use Rattle.frames.specs.Parts.{Whole, Filled}
use Rattle.frames.proofs.Heads.{reads_is, filled_some}
use Rattle.frames.proofs.reader.read.Goals as goal

pub returns-in_err-ok_or : goal.returns-in_err-ok_or
returns-in_err-ok_or c =
    let whole : Whole c.args.line.now (Some c.in_ok-frame.frame) = subst (Whole c.args.line.now) c.in_ok-frame.ensures.ok_part c.head.ensures in
    let none =
    subst (λ (r : Option Unit). Filled c.args.line.now c.count-n.result c.args.statuses.now c.args.leftovers.now r c.fill.new.statuses c.fill.new.leftovers)
    c.in_err-ok_or.ensures.ok_part c.fill.ensures in
    absurd
    (filled_some c.args.line.now c.in_ok-frame.frame c.args.statuses.now c.fill.new.statuses c.args.leftovers.now c.fill.new.leftovers whole
    (subst (λ (k : ℕ). Filled c.args.line.now k c.args.statuses.now c.args.leftovers.now None c.fill.new.statuses c.fill.new.leftovers) c.count-n.ensures none))

pub returns : goal.returns
returns c =
    let whole : Whole c.args.line.now (Some c.in_ok-frame.frame) = subst (Whole c.args.line.now) c.in_ok-frame.ensures.ok_part c.head.ensures in
    let filled =
    subst (λ (r : Option Unit). Filled c.args.line.now c.count-n.result c.args.statuses.now c.args.leftovers.now r c.fill.new.statuses c.fill.new.leftovers)
    c.in_ok-ok_or.ensures.ok_part c.fill.ensures in
    reads_is c.args.line.now c.in_ok-frame.frame c.count-n.result c.args.statuses.now c.fill.new.statuses c.args.leftovers.now c.fill.new.leftovers
    c.count-n.ensures (omega arith) (omega arith) c.fill.auto.statuses c.fill.auto.leftovers whole filled
