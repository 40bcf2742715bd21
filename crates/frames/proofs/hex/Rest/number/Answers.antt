-- `number` meets its contract: too few bytes, a byte that is no digit, or one digit more.
use Rattle.std.proofs.Common.{arith, refl}
use Rattle.std.proofs.Math.ListN.{get_or}
use Rattle.std.specs.Prelude.{None}
use Rattle.frames.specs.Hex.{digits}
use Rattle.frames.specs.Parts.{Nibble}
use Rattle.frames.proofs.Numbers.{too_short, no_digit, one_more, one_fits, one_small}
use Rattle.frames.proofs.hex.Rest.number.Goals as goal

pub returns-in_err-digits : goal.returns-in_err-digits
returns-in_err-digits c = let h = c.in_err-digits.ensures.cases in rw c.from_residual.ensures (λ v t _ e. too_short _ _ v t (omega arith) e)

pub loop-digit-init : goal.loop-digit-init
unfolding digits
loop-digit-init c = record { small = omega arith; read = refl }

pub overflow_mul-value : goal.overflow_mul-value
overflow_mul-value c =
    let n = c.in_ok-digits.ensures.cases.3 in
    omega (arith, one_fits c.loop-digit.digit-index c.args.width c.loop-digit.value 0 (omega arith) (omega arith) c.loop-digit.invariant.small (omega arith))

pub returns-in_err-value : goal.returns-in_err-value
returns-in_err-value c =
    let d = c.in_ok-digits.ensures.cases in
    let n = d.3 in
    let h : Nibble (get_or _ c.loop-digit.digit-index 0) None = rw d.1 at c.in_err-value.ensures in
    rw c.from_residual-in_err-value.ensures (λ v t _ e. no_digit _ c.args.width c.loop-digit.digit-index v t (omega arith) h e)

pub overflow_add-value : goal.overflow_add-value
overflow_add-value c =
    let n = c.in_ok-digits.ensures.cases.3 in
    omega (arith, one_fits c.loop-digit.digit-index c.args.width c.loop-digit.value _ (omega arith) (omega arith) c.loop-digit.invariant.small c.in_ok-value.ensures.0)

pub loop-digit-preserved : goal.loop-digit-preserved
loop-digit-preserved c =
    let d = c.in_ok-value in
    let l = c.loop-digit in
    record {
      small = one_small l.digit-index l.value d.field-0 l.invariant.small d.ensures.0;
      read = one_more c.in_ok-digits.digits.now l.digit-index l.value d.field-0 (omega arith) d.ensures l.invariant.read;
    }
