-- `skip` meets its contract.
use Rattle.std.proofs.Common.{arith, subst, ◌≡◌, ℕ}
use Rattle.std.specs.Prelude.{Some}
use Rattle.frames.specs.Parts.{Skips}
use Rattle.frames.proofs.Runs.{none_skipped, skipped_more, skipped_not}
use Rattle.frames.proofs.hex.Rest.skip.Goals as goal

pub loop-init : goal.loop-init
loop-init c = none_skipped _

pub returns-in_err-answer : goal.returns-in_err-answer
returns-in_err-answer c =
    rw c.from_residual.ensures
    (skipped_not c.args.self.now.bytes.now c.loop.self.bytes.now c.answer.new.self.bytes.now c.loop.counter c.args.count (omega arith) c.loop.invariant c.in_err-answer.ensures)

pub loop-preserved : goal.loop-preserved
loop-preserved c =
    skipped_more c.args.self.now.bytes.now c.loop.self.bytes.now c.answer.new.self.bytes.now c.loop.counter c.in_ok-answer.field-0 c.loop.invariant c.in_ok-answer.ensures

pub returns : goal.returns
returns c =
    let e : c.loop.counter ≡ c.args.count = omega arith in
    subst (λ (k : ℕ). Skips c.args.self.now.bytes.now k (Some tt) c.loop.self.bytes.now) e c.loop.invariant
