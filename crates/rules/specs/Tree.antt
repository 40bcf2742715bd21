-- The tree with its cells and its board: document 01, "The tree and its cells".
use Rattle.std.specs.Prelude.{ℕ, suc, ◌+◌, max, Bool, true, false, pos, ◌==◌, Float}
use Rattle.std.specs.Float.{fin}
use Rattle.rules.specs.declared.behavior.Kind.{Kind}

abbrev pub zero_time : Float
zero_time = fin false 0 (pos 0)

-- a time, a place and a mark; and whether it was made fresh in the tick that goes on
pub record Cell : Type 0 where
  pub time : Float
  pub place : ℕ
  pub mark : ℕ
  pub anew : Bool

abbrev pub with_time : Float → Cell → Cell
with_time x c = record { time = x; place = c.place; mark = c.mark; anew = c.anew }

abbrev pub with_place : ℕ → Cell → Cell
with_place p c = record { time = c.time; place = p; mark = c.mark; anew = c.anew }

abbrev pub with_mark : ℕ → Cell → Cell
with_mark m c = record { time = c.time; place = c.place; mark = m; anew = c.anew }

-- "fresh is all zero"
abbrev zero_cell : Bool → Cell
zero_cell a = record { time = zero_time; place = 0; mark = 0; anew = a }

-- a cell that a tick makes fresh
abbrev pub fresh_cell : Cell
fresh_cell = zero_cell true

-- the cell of a new tree
abbrev pub new_cell : Cell
new_cell = zero_cell false

infixr 50 ◌◂◌
-- node KIND N LIMIT CELL BOARD CHILDREN
mutual
  pub data Tree : Type 0 where
    node : Kind → ℕ → Float → Cell → ℕ → Forest → Tree

  pub data Forest : Type 0 where
    [] : Forest
    ◌◂◌ : Tree → Forest → Forest

-- "Make fresh" covers a whole subtree; the board stays
unfoldable mutual
  pub fresh : Tree → Tree
  fresh (node k n l c b kids) = node k n l fresh_cell b (fresh_all kids)

  pub fresh_all : Forest → Forest
  fresh_all [] = []
  fresh_all (t ◂ ts) = fresh t ◂ fresh_all ts

unfoldable mutual
  pub size : Tree → ℕ
  size (node k n l c b kids) = suc (sizes kids)

  pub sizes : Forest → ℕ
  sizes [] = 0
  sizes (t ◂ ts) = size t + sizes ts

-- how deep a tree is; the root is 1
unfoldable mutual
  pub depth : Tree → ℕ
  depth (node k n l c b kids) = suc (depths kids)

  pub depths : Forest → ℕ
  depths [] = 0
  depths (t ◂ ts) = max (depth t) (depths ts)

abbrev pub count : Forest → ℕ
count [] = 0
count (t ◂ ts) = suc (count ts)

-- the mark of a child of WhenAll and WhenAny that has ended
abbrev pub marked : Tree → Bool
marked (node k n l c b kids) = c.mark == 1

abbrev pub mark : Tree → Tree
mark (node k n l c b kids) = node k n l (with_mark 1 c) b kids
