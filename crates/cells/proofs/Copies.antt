-- A run onto which the first elements of another are copied, one after the other.
use mathlib.Core.Path.{◌≡◌, refl, ap, ◌∙◌}
use mathlib.Core.List.{List, [], ◌∷◌}
use Prim.Native.Nat.{ℕ, zero, suc, ◌+◌, ◌≤◌, ◌<◌}
use native.Mathlib.Nat.{le_of_suc-le-suc, not-suc-le-zero}
use native.Mathlib.Numerals.{add-one}
use native.Mathlib.Omega.{arith}
use lib.ListN.{length, get_or, set, length-append, length-take, length-drop}
use Rattle.cells.specs.Onto.{onto}

pub onto_length : {A : Type 0} (n : ℕ) (l m : List A) → n ≤ length l → n ≤ length m → length (onto n l m) ≡ length m
onto_length n l m a b = simp (length-append, length-take, length-drop) (omega arith)

onto_suc : {A : Type 0} (i : ℕ) (l m : List A) (d : A) → i < length l → i < length m → set (onto i l m) i (get_or l i d) ≡ onto (suc i) l m
onto_suc i [] m d a b = absurd (not-suc-le-zero a)
onto_suc i (x ∷ l) [] d a b = absurd (not-suc-le-zero b)
onto_suc zero (x ∷ l) (y ∷ m) d a b = refl
onto_suc (suc i) (x ∷ l) (y ∷ m) d a b = ap (λ t. x ∷ t) (onto_suc i l m d (le_of_suc-le-suc a) (le_of_suc-le-suc b))

-- of n elements of l, those before i stand over those of start
pub record Copying {A : Type 0} (l start : List A) (n i : ℕ) (m : List A) : Type 0 where
  pub within : i ≤ n
  pub is : m ≡ onto i l start
  pub long : length m ≡ length start

pub copying_more : {A : Type 0} {l start : List A} {n i : ℕ} {m m' : List A} (d : A) → (n ≤ length l) × (n ≤ length start) → Copying l start n i m → i < n
    → m' ≡ set m i (get_or l i d) → Copying l start n (i + 1) m'
copying_more {l} {start} {n} {i} {m} {m'} d long c h e =
    let e' : m' ≡ onto (suc i) l start = rw (e, c.is) (onto_suc i l start d (omega arith) (omega arith)) in
    record { within = omega arith; is = rw add-one e'; long = ap length e' ∙ onto_length (suc i) l start (omega arith) (omega arith) }
