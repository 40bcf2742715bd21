-- A tree that is read with so many levels left has no more.
use mathlib.Core.Path.{◌≡◌, refl}
use mathlib.Core.Bool.{Bool, true, false, cond, ◌&&◌}
use mathlib.Core.List.{List}
use Prim.Native.Nat.{ℕ, zero, suc, ◌≤◌}
use native.Mathlib.Omega.{arith}
use lib.Dec.{ltb}
use lib.Ieee.{Float}
use Rattle.rules.specs.Kinds.{kind_of, children}
use Rattle.rules.specs.Tree.{new_cell, Tree, node, Forest, ◌◂◌, depth, depths}
use Rattle.rules.specs.Table.{row, row_allowed, Row, Read, got, fault, ◌and_then◌, read_children, read_tree}

abbrev Bounded : ℕ → Read Tree → Type 0
Bounded d (got t at rs) = depth t ≤ d
Bounded d (fault p) = Unit {0}

abbrev BoundedAll : ℕ → Read Forest → Type 0
BoundedAll d (got ts at rs) = depths ts ≤ d
BoundedAll d (fault p) = Unit {0}

module _ (d : ℕ) where
  more : (t : Tree) → depth t ≤ d → (r : Read Forest) → BoundedAll d r → BoundedAll d (r and_then λ ts at rs. got (t ◂ ts) at rs)
  unfolding depth
  more t h (got ts at rs) b = omega arith
  more t h (fault p) b = tt

  each :
      (r : Read Tree) (rest : ℕ → List Row → Read Forest) → Bounded d r →
      ((at : ℕ) (rs : List Row) → BoundedAll d (rest at rs)) →
      BoundedAll d (r and_then λ t at rs. rest at rs and_then λ ts at' rs'. got (t ◂ ts) at' rs')
  each (got t at rs) rest b h = more t b (rest at rs) (h at rs)
  each (fault p) rest b h = tt

  module _ (child : ℕ → List Row → Read Tree) (bounded : (at : ℕ) (rs : List Row) → Bounded d (child at rs)) where
    all_bounded : (n at : ℕ) (rs : List Row) → BoundedAll d (read_children child n at rs)
    unfolding read_children depth
    all_bounded zero at rs = omega arith
    all_bounded (suc n) at rs = each (child at rs) (read_children child n) (bounded at rs) (λ at' rs'. all_bounded n at' rs')

  made :
      (mk : Forest → Tree) → ((ts : Forest) → depth (mk ts) ≡ suc (depths ts)) →
      (r : Read Forest) → BoundedAll d r →
      Bounded (suc d) (r and_then λ ts at rs. got (mk ts) at rs)
  made mk e (got ts at rs) b = omega (arith, e ts)
  made mk e (fault p) b = tt

  picked : (b : Bool) (r : Read Tree) (p : ℕ) → Bounded (suc d) r → Bounded (suc d) (cond b r (fault p))
  picked true r p h = h
  picked false r p h = tt

  node_depth : (k n : ℕ) (l : Float) (ts : Forest) → depth (node (kind_of k) n l new_cell 0 ts) ≡ suc (depths ts)
  unfolding depth
  node_depth k n l ts = refl

bounded : (d at : ℕ) (rs : List Row) → Bounded d (read_tree d at rs)
unfolding read_tree
bounded zero at rs = tt
bounded (suc d) at List.[] = tt
bounded (suc d) at (List.◌∷◌ (row k n l) rs) =
    let m = children (kind_of k) n in
    let r = read_children (read_tree d) m (suc at) rs in
    let mk : Forest → Tree = λ ts. node (kind_of k) n l new_cell 0 ts in
    let below = made d mk (node_depth d k n l) r (all_bounded d (read_tree d) (bounded d) m (suc at) rs) in
    picked d (ltb at 256 && row_allowed k n l) (r and_then λ ts at' rs'. got (mk ts) at' rs') at below

pub read_depth : (d at : ℕ) (rs : List Row) {t : Tree} {at' : ℕ} {rs' : List Row} → read_tree d at rs ≡ got t at' rs' → depth t ≤ d
read_depth d at rs e = rw e at (bounded d at rs)
