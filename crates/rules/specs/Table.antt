-- The table: the preorder encoding of one tree of 1 to 256 nodes, at most 16 deep. Reading goes from left to right, so the place that
-- it stops at is the smallest faulty one. Document 01, "The tree and its cells".
use Rattle.std.specs.Prelude.{ℕ, zero, suc, Bool, false, cond, not, ◌&&◌, List, ◌==◌, nat_le, nat_lt, Float}
use Rattle.std.specs.Float.{nan, inf, fin}
use Rattle.rules.specs.declared.behavior.Kind.{Kind}
use Rattle.rules.specs.Kinds.{kind_of, fewest, most, children, timed}
use Rattle.rules.specs.Tree.{zero_time, new_cell, Tree, node, Forest, [], ◌◂◌}

abbrev pub most_nodes : ℕ
most_nodes = 256

abbrev pub most_deep : ℕ
most_deep = 16

-- the number to use of one that a host gives: minus zero is taken as plus zero
abbrev pub cleaned : Float → Float
cleaned nan = nan
cleaned (inf s) = inf s
cleaned (fin s zero e) = zero_time
cleaned (fin s (suc m) e) = fin s (suc m) e

-- a number to use: "finite with the sign bit clear"
abbrev pub number : Float → Bool
number nan = false
number (inf s) = false
number (fin s m e) = not s

-- "all its bits are 0"
abbrev pub zero_bits : Float → Bool
zero_bits nan = false
zero_bits (inf s) = false
zero_bits (fin s m e) = not s && m == 0

-- kind, n and limit of a node
pub data Row : Type 0 where
  row : ℕ → ℕ → Float → Row

-- the rows that are lent; "a run lent as several slices is as long as the shortest"
unfoldable pub rows : List ℕ → List ℕ → List Float → List Row
rows List.[] ns ls = List.[]
rows (List.◌∷◌ k ks) List.[] ls = List.[]
rows (List.◌∷◌ k ks) (List.◌∷◌ n ns) List.[] = List.[]
rows (List.◌∷◌ k ks) (List.◌∷◌ n ns) (List.◌∷◌ l ls) = List.◌∷◌ (row k n (cleaned l)) (rows ks ns ls)

-- as many children as the kind allows
abbrev pub count_allowed : Kind → ℕ → Bool
count_allowed k n = nat_le (fewest k) (children k n) && nat_le (children k n) (most k)

-- "all its bits are 0 except in Wait and Timeout"
abbrev pub limit_allowed : Kind → Float → Bool
limit_allowed k l = cond (timed k) (number l) (zero_bits l)

unfoldable pub row_allowed : ℕ → ℕ → Float → Bool
row_allowed k n l = nat_le k 16 && count_allowed (kind_of k) n && limit_allowed (kind_of k) l

-- got WHAT NEXT REST: what was read, the place behind it and the rows from there on; or the place of the fault
pub data Read (A : Type 0) : Type 0 where
  got : A → ℕ → List Row → Read A
  fault : ℕ → Read A

infixl 20 ◌and_then◌
abbrev pub ◌and_then◌ : {A B : Type 0} → Read A → (A → ℕ → List Row → Read B) → Read B
got a at rs and_then k = k a at rs
fault p and_then k = fault p

module _ (readChild : ℕ → List Row → Read Tree) where
  -- n trees, one behind the other
  unfoldable pub read_children : ℕ → ℕ → List Row → Read Forest
  read_children zero at rs = got [] at rs
  read_children (suc n) at rs = readChild at rs and_then λ t at' rs'. read_children n at' rs' and_then λ ts at'' rs''. got (t ◂ ts) at'' rs''

-- the tree that begins at a place, with `deep` levels left; its cells are those of a new tree
unfoldable pub read_tree : ℕ → ℕ → List Row → Read Tree
unfolding read_children row_allowed
read_tree zero at rs = fault at
read_tree (suc deep) at List.[] = fault at
read_tree (suc deep) at (List.◌∷◌ (row k n l) rs) = cond (nat_lt at most_nodes && row_allowed k n l)
    (read_children (read_tree deep) (children (kind_of k) n) (suc at) rs and_then λ ts at' rs'. got (node (kind_of k) n l new_cell 0 ts) at' rs')
    (fault at)

-- "The table holds exactly the root's subtree": the new tree, or the smallest faulty place
pub data Table : Type 0 where
  good : Tree → Table
  bad : ℕ → Table

abbrev pub whole : Read Tree → Table
whole (got t at List.[]) = good t
whole (got t at (List.◌∷◌ r rs)) = bad at
whole (fault p) = bad p

-- of at most so many levels
abbrev pub table_within : ℕ → List ℕ → List ℕ → List Float → Table
table_within deep kinds ns limits = whole (read_tree deep 0 (rows kinds ns limits))

unfoldable pub table : List ℕ → List ℕ → List Float → Table
unfolding read_tree rows
table kinds ns limits = table_within most_deep kinds ns limits
