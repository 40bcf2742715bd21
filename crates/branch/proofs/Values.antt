-- What a function gives of the numbers from q on: parts of it, and what the code writes of it.
use mathlib.Core.Path.{◌≡◌, refl, ap, ◌∙◌}
use mathlib.Core.List.{List, ◌++◌, append_assoc}
use Prim.Native.Nat.{ℕ, zero, suc, ◌+◌, ◌-◌, ◌≤◌, ◌<◌}
use native.Mathlib.Nat.{zero-add, suc-add, add-zero}
use native.Mathlib.Omega.{arith}
use borrow.Author.Tests.{lt-ltb, le-ltb}
use lib.ListN.{length, take, drop, get_or, replicate}
use lib.Seq.{take_at, drop_at, drop-cons}
use Rattle.branch.specs.declared.write.Cut.{Cut}
use Rattle.branch.specs.Write.{values, source_of, from, at, always}

module _ {A : Type 0} where
  pub values_length : (f : ℕ → A) (n q : ℕ) → length (values f q n) ≡ n
  values_length f zero q = refl
  values_length f (suc n) q = ap (λ (z : ℕ). suc z) (values_length f n (suc q))

  pub values_add : (f : ℕ → A) (n q m : ℕ) → values f q (n + m) ≡ values f q n ++ values f (q + n) m
  values_add f zero q m = rw (zero-add m, add-zero q)
  values_add f (suc n) q m =
      let e : suc q + n ≡ q + suc n = omega arith in
      rw (suc-add n m, ← e) (ap (λ (l : List A). List.◌∷◌ (f q) l) (values_add f n (suc q) m))

  pub values_same : (f g : ℕ → A) (n q r : ℕ) → ((j : ℕ) → j < n → f (q + j) ≡ g (r + j)) → values f q n ≡ values g r n
  values_same f g zero q r h = refl
  values_same f g (suc n) q r h =
      let first : f q ≡ g r = rw (add-zero q, add-zero r) at (h 0 (omega arith)) in
      let rest : (j : ℕ) → j < n → f (suc q + j) ≡ g (suc r + j) = λ j m.
      let a : suc q + j ≡ q + suc j = omega arith in
      let b : suc r + j ≡ r + suc j = omega arith in
      rw (a, b) (h (suc j) (omega arith)) in
      λ i. List.◌∷◌ (first i) (values_same f g n (suc q) (suc r) rest i)

  pub values_always : (x : A) (n q : ℕ) → replicate n x ≡ values (always x) q n
  values_always x zero q = refl
  values_always x (suc n) q = ap (λ (l : List A). List.◌∷◌ x l) (values_always x n (suc q))

  -- a part of a slice
  pub values_slice : (d : A) (l : List A) (n q : ℕ) → q + n ≤ length l → take n (drop q l) ≡ values (at d l) q n
  values_slice d l zero q h = refl
  values_slice d l (suc n) q h = rw (drop-cons l q d (omega arith)) (ap (λ (z : List A). List.◌∷◌ (get_or l q d) z) (values_slice d l n (suc q) (omega arith)))

  -- a part of the first a + b
  pub take_values : (f : ℕ → A) (a b : ℕ) (behind : List A) → take a (values f 0 (a + b) ++ behind) ≡ values f 0 a
  take_values f a b behind = rw (values_add f a 0 b, append_assoc) (take_at (values f 0 a) (values f (0 + a) b ++ behind) a (values_length f a 0))

  pub drop_values : (f : ℕ → A) (a b : ℕ) (behind : List A) → drop a (values f 0 (a + b) ++ behind) ≡ values f a b ++ behind
  drop_values f a b behind =
      rw (values_add f a 0 b, append_assoc) (drop_at (values f 0 a) (values f (0 + a) b ++ behind) a (values_length f a 0)
      ∙ ap (λ (z : ℕ). values f z b ++ behind) (zero-add a))

-- ---- what is written, in three parts
module _ {A : Type 0} (cut : Cut) (g h : ℕ → A) (rest : ℕ) (all : cut.nodes ≡ cut.at + (cut.added + rest)) where
  abbrev made : ℕ → A
  made i = from g h (source_of cut i)

  before_at : (j : ℕ) → j < cut.at → made (0 + j) ≡ g (0 + j)
  before_at j m = rw (zero-add j, lt-ltb j cut.at m)

  added_at : (j : ℕ) → j < cut.added → made (cut.at + j) ≡ h (0 + j)
  added_at j m =
      let e : cut.at + j - cut.at ≡ j = omega arith in
      rw (zero-add j, le-ltb (cut.at + j) cut.at (omega arith), e, lt-ltb j cut.added m)

  behind_at : (j : ℕ) → j < rest → made (cut.at + cut.added + j) ≡ g (cut.stop + j)
  behind_at j m =
      let e : cut.at + cut.added + j - cut.at ≡ cut.added + j = omega arith in
      let e' : cut.added + j - cut.added ≡ j = omega arith in
      rw (le-ltb (cut.at + cut.added + j) cut.at (omega arith), e, le-ltb (cut.added + j) cut.added (omega arith), e')

  pub three : values made 0 cut.nodes ≡ values g 0 cut.at ++ (values h 0 cut.added ++ values g cut.stop rest)
  three =
      ap (values made 0) all
      ∙ values_add made cut.at 0 (cut.added + rest)
      ∙ rw (
        zero-add cut.at,
        values_add made cut.added cut.at rest,
        values_same made g cut.at 0 0 before_at,
        values_same made h cut.added cut.at 0 added_at,
        values_same made g rest (cut.at + cut.added) cut.stop behind_at,
      )
