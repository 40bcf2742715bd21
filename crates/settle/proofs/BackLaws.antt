-- A run onto which a field of the words, or a tick's number, is put, one word after the other.
use mathlib.Core.Path.{◌≡◌, refl, ap, ◌∙◌}
use mathlib.Core.Bool.{cond, false}
use mathlib.Core.List.{List, [], ◌∷◌}
use Prim.Native.Nat.{ℕ, zero, suc, ◌+◌, ◌/◌, ◌%◌, ◌≤◌, ◌<◌}
use native.Mathlib.Nat.{le_of_suc-le-suc, not-suc-le-zero}
use native.Mathlib.Numerals.{add-one}
use native.Mathlib.Omega.{arith}
use borrow.Author.Tests.{ne_eqb, eqb-false}
use lib.Bits.{bit_or, or_shr, or_mod}
use lib.ListN.{length, get_or, set, take, length-set}
use Rattle.std.specs.List.{fold}
use Rattle.rules.specs.Call.{stamped}
use Rattle.work.specs.Word.{anew_of}
use Rattle.work.proofs.Laws.{or_first, or_second}
use Rattle.settle.specs.Back.{over, stamped_over}

over_suc : (f : ℕ → ℕ) (i : ℕ) (ws l : List ℕ) → i < length ws → i < length l → set (over f i ws l) i (f (get_or ws i 0)) ≡ over f (suc i) ws l
over_suc f i [] l a b = absurd (not-suc-le-zero a)
over_suc f i (x ∷ ws) [] a b = absurd (not-suc-le-zero b)
over_suc f zero (x ∷ ws) (y ∷ l) a b = refl
over_suc f (suc i) (x ∷ ws) (y ∷ l) a b = ap (λ t. f x ∷ t) (over_suc f i ws l (le_of_suc-le-suc a) (le_of_suc-le-suc b))

-- of n words, those before i stand over the run
pub record Putting (f : ℕ → ℕ) (ws start : List ℕ) (n i : ℕ) (l : List ℕ) : Type 0 where
  pub within : i ≤ n
  pub is : l ≡ over f i ws start
  pub long : length l ≡ length start

pub putting_start : {f : ℕ → ℕ} {ws start : List ℕ} {n : ℕ} → Putting f ws start n 0 start
putting_start = record { within = omega arith; is = refl; long = refl }

pub putting_more : {f : ℕ → ℕ} {ws start : List ℕ} {n i : ℕ} {l : List ℕ} {w : ℕ}
    → n ≤ length ws
    → n ≤ length start
    → Putting f ws start n i l
    → i < n
    → w ≡ f (get_or ws i 0)
    → Putting f ws start n (i + 1) (set l i w)
putting_more {f} {ws} {start} {n} {i} {l} {w} a b c h e = record {
  within = omega arith;
  is = rw (e, c.is, add-one) (over_suc f i ws start (omega arith) (omega arith));
  long = length-set l i w ∙ c.long;
}

pub putting_end : {f : ℕ → ℕ} {ws start : List ℕ} {n i : ℕ} {l : List ℕ} → Putting f ws start n i l → n ≤ i → l ≡ over f n ws start
putting_end {n} {i} c h = let e : n ≡ i = omega (arith, c.within) in rw e c.is

-- ---- a run onto which a tick's number is put
stamp_suc : (this i : ℕ) (ws l : List ℕ) → i < length ws → i < length l
    → set (stamped_over this i ws l) i (cond (anew_of (get_or ws i 0)) this (get_or (stamped_over this i ws l) i 0)) ≡ stamped_over this (suc i) ws l
unfolding stamped
stamp_suc this i [] l a b = absurd (not-suc-le-zero a)
stamp_suc this i (x ∷ ws) [] a b = absurd (not-suc-le-zero b)
stamp_suc this zero (x ∷ ws) (y ∷ l) a b = refl
stamp_suc this (suc i) (x ∷ ws) (y ∷ l) a b = ap (λ t. cond (anew_of x) this y ∷ t) (stamp_suc this i ws l (le_of_suc-le-suc a) (le_of_suc-le-suc b))

-- of n words, those before i have put it
pub record Stamping (this : ℕ) (ws start : List ℕ) (n i : ℕ) (l : List ℕ) : Type 0 where
  pub within : i ≤ n
  pub is : l ≡ stamped_over this i ws start
  pub long : length l ≡ length start

pub stamping_start : {this : ℕ} {ws start : List ℕ} {n : ℕ} → Stamping this ws start n 0 start
unfolding stamped
stamping_start = record { within = omega arith; is = refl; long = refl }

pub stamping_more : {this : ℕ} {ws start : List ℕ} {n i : ℕ} {l : List ℕ} {w : ℕ}
    → n ≤ length ws
    → n ≤ length start
    → Stamping this ws start n i l
    → i < n
    → w ≡ cond (anew_of (get_or ws i 0)) this (get_or l i 0)
    → Stamping this ws start n (i + 1) (set l i w)
stamping_more {this} {ws} {start} {n} {i} {l} {w} a b c h e = record {
  within = omega arith;
  is = rw (e, c.is, add-one) (stamp_suc this i ws start (omega arith) (omega arith));
  long = length-set l i w ∙ c.long;
}

pub stamping_end : {this : ℕ} {ws start : List ℕ} {n i : ℕ} {l : List ℕ} → Stamping this ws start n i l → n ≤ i → l ≡ stamped_over this n ws start
stamping_end {n} {i} c h = let e : n ≡ i = omega (arith, c.within) in rw e c.is

-- ---- no number to put
-- 1 in a word whose node was made fresh
abbrev anew_bit : ℕ → ℕ
anew_bit w = w / 33554432 % 2

or_anew : (a b : ℕ) → (anew_bit a ≤ anew_bit (bit_or a b)) × (anew_bit b ≤ anew_bit (bit_or a b))
or_anew a b =
    let x = anew_bit a in
    let y = anew_bit b in
    rw (or_shr a b 25, or_mod (a / 33554432) (b / 33554432) 1) (or_first x y, or_second x y)

bit_stays : (ws : List ℕ) (a : ℕ) → anew_bit a ≤ anew_bit (fold bit_or a ws)
bit_stays [] a = omega arith
bit_stays (x ∷ ws) a = omega (arith, (or_anew a x).0, bit_stays ws (bit_or a x))

none_anew : (w all : ℕ) → anew_bit w ≤ anew_bit all → anew_of all ≡ false → anew_of w ≡ false
unfolding anew_of
none_anew w all h e = ne_eqb (anew_bit w) 1 (λ is. eqb-false (anew_bit all) 1 e (omega (arith, h, is)))

-- no bit of all words says that a node was made fresh
pub stamped_none : (this n a : ℕ) (ws l : List ℕ) → n ≤ length ws → n ≤ length l → anew_of (fold bit_or a (take n ws)) ≡ false → stamped_over this n ws l ≡ l
unfolding stamped
stamped_none this zero a ws l h k e = refl
stamped_none this (suc n) a [] l h k e = absurd (not-suc-le-zero h)
stamped_none this (suc n) a (x ∷ ws) [] h k e = absurd (not-suc-le-zero k)
stamped_none this (suc n) a (x ∷ ws) (y ∷ l) h k e =
    let here = none_anew x (fold bit_or (bit_or a x) (take n ws)) (omega (arith, (or_anew a x).1, bit_stays (take n ws) (bit_or a x))) e in
    rw here (ap (λ t. y ∷ t) (stamped_none this n (bit_or a x) ws l (le_of_suc-le-suc h) (le_of_suc-le-suc k) e))
