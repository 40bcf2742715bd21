-- A float that is equal to zero is zero, and any other stays.
use Rattle.std.proofs.Common.{◌≡◌, zero, suc, ◌*◌, ◌<◌, true, false, T, sym, refl, subst, zero-lt-suc, mul-pos, zero-mul, arith, ne_eqb}
use lib.Ieee.{Float, nan, inf, fin, binary64, of_bits, of_fields, odd, eq, up, down}
use lib.Ieee.Fits.{up_pos}
use Rattle.rules.specs.Table.{cleaned}
use Rattle.rules.proofs.number.cleaned.Goals as goal

-- A float that is equal to zero is zero, and any other stays.
abbrev nought : Float
nought = of_bits binary64 0

is_zero : (x : Float) → eq x nought ≡ true → nought ≡ cleaned x
unfolding eq of_bits of_fields odd
is_zero nan e = absurd (subst T (sym e) tt)
is_zero (inf s) e = absurd (subst T (sym e) tt)
is_zero (fin s zero d) e = refl
is_zero (fin s (suc m) d) e =
    let more : 0 < suc m * up d = mul-pos (zero-lt-suc m) (up_pos d) in
    absurd (subst T (sym (rw (zero-mul (down d), ne_eqb (suc m * up d * 1) 0 (omega arith)) at e)) tt)

is_no_zero : (x : Float) → eq x nought ≡ false → x ≡ cleaned x
unfolding eq of_bits of_fields odd
is_no_zero nan e = refl
is_no_zero (inf s) e = refl
is_no_zero (fin true zero d) e = absurd (subst T (rw (zero-mul (up d), zero-mul (down d)) at e) tt)
is_no_zero (fin false zero d) e = absurd (subst T (rw (zero-mul (up d), zero-mul (down d)) at e) tt)
is_no_zero (fin s (suc m) d) e = refl

pub returns-then-x : goal.returns-then-x
returns-then-x c = is_zero c.args.x c.if-x.true

pub returns-else-x : goal.returns-else-x
returns-else-x c = is_no_zero c.args.x c.if-x.false
