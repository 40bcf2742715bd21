-- A tree as it stands in the table's slices, with where each of its subtrees ends.
use Rattle.std.specs.Prelude.{◌≡◌, true, List, ℕ, suc, Float, get_or}
use Rattle.rules.specs.declared.behavior.Kind.{Kind}
use Rattle.rules.specs.Kinds.{kind_of, children}
use Rattle.rules.specs.Tree.{zero_time, Tree, node, Forest, [], ◌◂◌, count}
use Rattle.rules.specs.Table.{cleaned, row_allowed}

-- the row at q is a node's, with so many children
pub record Row (kinds ns : List ℕ) (limits : List Float) (q : ℕ) (k : Kind) (n : ℕ) (l : Float) (many : ℕ) : Type 0 where
  pub kind : kind_of (get_or kinds q 0) ≡ k
  pub number : get_or ns q 0 ≡ n
  pub limit : cleaned (get_or limits q zero_time) ≡ l
  pub allowed : row_allowed (get_or kinds q 0) n l ≡ true
  pub kids : many ≡ children k n

module _ (kinds ns : List ℕ) (limits : List Float) (ends : List ℕ) where
  abbrev mutual
    -- a tree that begins at q
    pub At : ℕ → Tree → Type 0
    At q (node k n l c b ts) = Row kinds ns limits q k n l (count ts) × Ats (suc q) ts (get_or ends q 0)

    -- trees from q to stop
    pub Ats : ℕ → Forest → ℕ → Type 0
    Ats q [] stop = q ≡ stop
    Ats q (t ◂ ts) stop = At q t × Ats (get_or ends q 0) ts stop
