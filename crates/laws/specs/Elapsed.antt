-- Times that a cell may hold: no NaN, no sign. Sums keep to that, and so does what is left when a limit has been reached.
use Rattle.std.specs.Prelude.{◌≡◌, Bool, true, false, cond, ◌&&◌, ◌||◌, ℕ, zero, suc, ◌+◌, ◌-◌, ◌*◌, ◌^◌, ◌≤◌, T, ltb, eqb, Float}
use Rattle.std.proofs.Common.{sym, subst, not-le_of_lt, le_of_lt, le_of_eq, ltb→lt, eqb→eq}
use Rattle.std.specs.Float.{nan, inf, fin, Format, binary32, binary64}
use Rattle.std.specs.Float.Ieee.{prec, emax, low, up, down, odd, units, round, sum, add, sub, lt, le}
use Rattle.rules.specs.Outcome.{smaller, largest}
use Rattle.rules.specs.Table.{number}
use Rattle.rules.specs.Cells.{elapsed}

odd_elapsed : (d q k l : ℕ) → T (elapsed (odd d false q k l))
unfolding odd
odd_elapsed d zero k l = tt
odd_elapsed d (suc q) k l = tt

units_elapsed : (F : Format) (q k : ℕ) → T (elapsed (units F false q k))
unfolding units
units_elapsed F q k = on (ltb (q * 2 ^ k) (2 ^ (low F + suc (emax F))))
  where
    on : (b : Bool) → T (elapsed (cond b (odd (suc (prec F)) false q k (low F)) (inf false)))
    on true = odd_elapsed (suc (prec F)) q k (low F)
    on false = tt

round_elapsed : (F : Format) (a c : ℕ) → T (elapsed (round F false a c))
unfolding round
round_elapsed F a c = units_elapsed F _ _

pub number_elapsed : (x : Float) → T (number x) → T (elapsed x)
number_elapsed nan h = h
number_elapsed (inf s) h = absurd h
number_elapsed (fin s m e) h = h

pub add_elapsed : (F : Format) (x y : Float) → T (elapsed x) → T (elapsed y) → T (elapsed (add F x y))
unfolding add sum
add_elapsed F nan y h g = absurd h
add_elapsed F (inf true) y h g = absurd h
add_elapsed F (inf false) nan h g = absurd g
add_elapsed F (inf false) (inf true) h g = absurd g
add_elapsed F (inf false) (inf false) h g = tt
add_elapsed F (inf false) (fin t n d) h g = tt
add_elapsed F (fin true m e) y h g = absurd h
add_elapsed F (fin false m e) nan h g = absurd g
add_elapsed F (fin false m e) (inf true) h g = absurd g
add_elapsed F (fin false m e) (inf false) h g = tt
add_elapsed F (fin false m e) (fin true n d) h g = absurd g
add_elapsed F (fin false m e) (fin false n d) h g = round_elapsed F (m * up e * down d + n * up d * down e) (down e * down d)

above : (a b : ℕ) → T (ltb b a || (eqb b a && true)) → b ≤ a
above a b h = on (ltb b a) (ltb→lt b a) h
  where
    same : (c : Bool) → (T c → b ≡ a) → T (c && true) → b ≤ a
    same true f g = le_of_eq (f tt)
    same false f g = absurd g

    on : (c : Bool) → (T c → suc b ≤ a) → T (c || (eqb b a && true)) → b ≤ a
    on true f g = le_of_lt (f tt)
    on false f g = same (eqb b a) (eqb→eq b a) g

difference : (F : Format) (a b c : ℕ) → b ≤ a → T (elapsed (sum F false a true b c))
unfolding sum
difference F a b c h = on (ltb a b) (ltb→lt a b)
  where
    low_side : (t : Bool) → (T t → suc b ≤ a) → T (elapsed (round F (false && t) (a - b) c))
    low_side t f = round_elapsed F (a - b) c

    on : (t : Bool) → (T t → suc a ≤ b) → T (elapsed (cond t (round F true (b - a) c) (round F (false && ltb b a) (a - b) c)))
    on true f = absurd (not-le_of_lt (f tt) h)
    on false f = low_side (ltb b a) (ltb→lt b a)

pub sub_elapsed : (F : Format) (l z : Float) → T (number l) → T (elapsed z) → le l z ≡ true → T (elapsed (sub F z l))
unfolding sub le
sub_elapsed F l nan h g e = absurd g
sub_elapsed F l (inf true) h g e = absurd g
sub_elapsed F l (fin true m a) h g e = absurd g
sub_elapsed F nan (inf false) h g e = absurd h
sub_elapsed F (inf s) (inf false) h g e = absurd h
sub_elapsed F (fin s n d) (inf false) h g e = tt
sub_elapsed F nan (fin false m a) h g e = absurd h
sub_elapsed F (inf s) (fin false m a) h g e = absurd h
sub_elapsed F (fin true n d) (fin false m a) h g e = absurd h
sub_elapsed F (fin false n d) (fin false m a) h g e = difference F (m * up a * down d) (n * up d * down a) (down a * down d) (above (m * up a * down d) (n * up d * down a) (subst T (sym e) tt))

pub largest_elapsed : (F : Format) → T (elapsed (largest F))
largest_elapsed binary32 = tt
largest_elapsed binary64 = tt

pub smaller_elapsed : (x r : Float) → T (elapsed x) → T (elapsed r) → T (elapsed (smaller x r))
smaller_elapsed x r h g = on (lt r x)
  where
    on : (b : Bool) → T (elapsed (cond b r x))
    on true = g
    on false = h
