-- How a row is answered, and what the answer tells of the row.
use mathlib.Core.Path.{◌≡◌, refl}
use mathlib.Core.Bool.{Bool, true, false, cond, ◌&&◌, and-true, and-false}
use mathlib.Core.List.{List}
use Prim.Native.Nat.{ℕ, zero, suc, ◌≤◌, ◌<◌}
use native.Mathlib.Omega.{arith}
use borrow.Author.Tests.{le-leb, lt-leb}
use lib.Dec.{leb}
use lib.Ieee.{Float}
use lib.ListN.{length, get_or}
use Rattle.rules.specs.declared.behavior.Kind.{Kind}
use Rattle.rules.specs.Kinds.{kind_of, fewest, most, children}
use Rattle.rules.specs.Table.{count_allowed, limit_allowed, row_allowed}
use Rattle.std.specs.Prelude.{Some, None}
use Rattle.std.specs.Bool.{then_some}
use Rattle.tables.specs.Checks.{row_of}

bad_test : (b : Bool) (m : ℕ) → cond b (Some m) None ≡ None → b ≡ false
bad_test true m e = cc
bad_test false m e = refl

allowed_test : (b : Bool) (m c : ℕ) → cond b (Some m) None ≡ Some c → b ≡ true
allowed_test true m c e = refl
allowed_test false m c e = cc

children_test : (b : Bool) (m c : ℕ) → cond b (Some m) None ≡ Some c → c ≡ m
children_test true m c e = cc
children_test false m c e = cc

pub row_bad : (k n : ℕ) (l : Float) → row_of k n l ≡ None → row_allowed k n l ≡ false
row_bad k n l e = bad_test (row_allowed k n l) (children (kind_of k) n) e

pub row_allowed_lem : (k n : ℕ) (l : Float) (c : ℕ) → row_of k n l ≡ Some c → row_allowed k n l ≡ true
row_allowed_lem k n l c e = allowed_test (row_allowed k n l) (children (kind_of k) n) c e

pub row_children : (k n : ℕ) (l : Float) (c : ℕ) → row_of k n l ≡ Some c → c ≡ children (kind_of k) n
row_children k n l c e = children_test (row_allowed k n l) (children (kind_of k) n) c e

-- ---- the tests, in their order
some_if : (b : Bool) (c : ℕ) → then_some b c ≡ cond b (Some c) None
some_if true c = refl
some_if false c = refl

module _ (k n : ℕ) (l : Float) where
  pub no_kind : 16 < k → None ≡ row_of k n l
  unfolding row_allowed
  no_kind h = rw (lt-leb k 16 h)

  module _ {kind : Kind} (is : kind ≡ kind_of k) (low : k ≤ 16) {b : Bool} (bs : b ≡ limit_allowed kind l) where
    pub no_limit : b ≡ false → None ≡ row_of k n l
    unfolding row_allowed
    no_limit h = rw (le-leb k 16 low, ← is, ← bs, h, and-false (count_allowed kind n))

    pub by_count : b ≡ true → {c : ℕ} → c ≡ children kind n → {a : Bool} → a ≡ leb (fewest kind) c && leb c (most kind) → then_some a c ≡ row_of k n l
    unfolding row_allowed
    by_count good {c} kids {a} counts = rw (le-leb k 16 low, ← is, ← kids, ← counts, ← bs, good, and-true a) (some_if a c)

-- ---- an element that is there needs no default
pub any_default : {A : Type 0} (xs : List A) (i : ℕ) (d d' : A) → i < length xs → get_or xs i d ≡ get_or xs i d'
any_default List.[] i d d' h = absurd (omega arith)
any_default (List.◌∷◌ x xs) zero d d' h = refl
any_default (List.◌∷◌ x xs) (suc i) d d' h = any_default xs i d d' (omega arith)
