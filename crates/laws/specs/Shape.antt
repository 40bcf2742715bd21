-- The shape of a tree: kinds, numbers and limits, which no tick changes.
use Rattle.std.specs.Prelude.{◌≡◌, refl, ℕ, zero, suc, ◌+◌, max, Float, true, false}
use Rattle.std.proofs.Common.{sym, ap, ◌∙◌}
use Rattle.rules.specs.declared.behavior.Kind.{Kind}
use Rattle.rules.specs.Tree.{Tree, node, Forest, fresh, fresh_all, size, sizes, depth, depths, mark, count, marked}
use Rattle.rules.specs.Tree
use Rattle.rules.specs.Loops.{put, fresh_at}

infixr 50 ◌◂◌
mutual
  pub data Shape : Type 0 where
    shp : Kind → ℕ → Float → Shapes → Shape

  pub data Shapes : Type 0 where
    [] : Shapes
    ◌◂◌ : Shape → Shapes → Shapes

abbrev mutual
  pub shape : Tree → Shape
  shape (node k n l c b ts) = shp k n l (shapes ts)

  pub shapes : Forest → Shapes
  shapes Tree.[] = []
  shapes (Tree.◌◂◌ t ts) = shape t ◂ shapes ts

mutual
  unfolding fresh

  pub fresh_shape : (t : Tree) → shape (fresh t) ≡ shape t
  fresh_shape (node k n l c b ts) = ap (λ (z : Shapes). shp k n l z) (fresh_shapes ts)

  pub fresh_shapes : (ts : Forest) → shapes (fresh_all ts) ≡ shapes ts
  fresh_shapes Tree.[] = refl
  fresh_shapes (Tree.◌◂◌ t ts) = λ i. fresh_shape t i ◂ fresh_shapes ts i

pub mark_shape : (t : Tree) → shape (mark t) ≡ shape t
mark_shape (node k n l c b ts) = refl

-- the marks of a tree made fresh, and of one that has ended
pub fresh_unmarked : (t : Tree) → marked (fresh t) ≡ false
unfolding fresh
fresh_unmarked (node k n l c b ts) = refl

pub mark_marked : (t : Tree) → marked (mark t) ≡ true
mark_marked (node k n l c b ts) = refl

-- ---- how many nodes, how many children, how deep
abbrev mutual
  pub size_of : Shape → ℕ
  size_of (shp k n l ss) = suc (sizes_of ss)

  pub sizes_of : Shapes → ℕ
  sizes_of [] = 0
  sizes_of (s ◂ ss) = size_of s + sizes_of ss

abbrev mutual
  pub depth_of : Shape → ℕ
  depth_of (shp k n l ss) = suc (depths_of ss)

  pub depths_of : Shapes → ℕ
  depths_of [] = 0
  depths_of (s ◂ ss) = max (depth_of s) (depths_of ss)

abbrev pub count_of : Shapes → ℕ
count_of [] = 0
count_of (s ◂ ss) = suc (count_of ss)

mutual
  unfolding size

  pub size_of_lem : (t : Tree) → size t ≡ size_of (shape t)
  size_of_lem (node k n l c b ts) = ap (λ (z : ℕ). suc z) (sizes_of_lem ts)

  sizes_of_lem : (ts : Forest) → sizes ts ≡ sizes_of (shapes ts)
  sizes_of_lem Tree.[] = refl
  sizes_of_lem (Tree.◌◂◌ t ts) = λ i. size_of_lem t i + sizes_of_lem ts i

mutual
  unfolding depth

  pub depth_of_lem : (t : Tree) → depth t ≡ depth_of (shape t)
  depth_of_lem (node k n l c b ts) = ap (λ (z : ℕ). suc z) (depths_of_lem ts)

  depths_of_lem : (ts : Forest) → depths ts ≡ depths_of (shapes ts)
  depths_of_lem Tree.[] = refl
  depths_of_lem (Tree.◌◂◌ t ts) = λ i. max (depth_of_lem t i) (depths_of_lem ts i)

pub count_of_lem : (ts : Forest) → count ts ≡ count_of (shapes ts)
count_of_lem Tree.[] = refl
count_of_lem (Tree.◌◂◌ t ts) = ap (λ (z : ℕ). suc z) (count_of_lem ts)

pub size_shape : (t u : Tree) → shape t ≡ shape u → size t ≡ size u
size_shape t u e = size_of_lem t ∙ ap size_of e ∙ sym (size_of_lem u)

pub depth_shape : (t u : Tree) → shape t ≡ shape u → depth t ≡ depth u
depth_shape t u e = depth_of_lem t ∙ ap depth_of e ∙ sym (depth_of_lem u)

pub count_shape : (ts us : Forest) → shapes ts ≡ shapes us → count ts ≡ count us
count_shape ts us e = count_of_lem ts ∙ ap count_of e ∙ sym (count_of_lem us)

-- ---- one child made fresh, and a loop's body after a success
pub fresh_at_shapes : (ts : Forest) (p : ℕ) → shapes (fresh_at p ts) ≡ shapes ts
fresh_at_shapes Tree.[] p = refl
fresh_at_shapes (Tree.◌◂◌ t ts) zero = λ i. fresh_shape t i ◂ shapes ts
fresh_at_shapes (Tree.◌◂◌ t ts) (suc p) = λ i. shape t ◂ fresh_at_shapes ts p i

pub moved_shapes : (ts : Forest) (p q : ℕ) (t : Tree) → shapes (put p t ts) ≡ shapes ts → shapes (fresh_at q (fresh_at p (put p t ts))) ≡ shapes ts
moved_shapes ts p q t e = fresh_at_shapes (fresh_at p (put p t ts)) q ∙ fresh_at_shapes (put p t ts) p ∙ e
