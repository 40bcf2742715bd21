-- What holds of each node of a tree at its place, where its subtrees end as `ends` says.
use Rattle.std.specs.Prelude.{◌≡◌, List, ℕ, suc, Float, get_or}
use Rattle.rules.specs.declared.behavior.Kind.{Kind}
use Rattle.rules.specs.Tree.{Cell, Tree, node, Forest, [], ◌◂◌}

module _ (ends : List ℕ) (P : ℕ → Kind → ℕ → Float → Cell → Type 0) where
  abbrev mutual
    -- a tree that begins at q
    pub Each : ℕ → Tree → Type 0
    Each q (node k n l c b ts) = P q k n l c × EachAll (suc q) ts (get_or ends q 0)

    -- trees from q to stop
    pub EachAll : ℕ → Forest → ℕ → Type 0
    EachAll q [] stop = q ≡ stop
    EachAll q (t ◂ ts) stop = Each q t × EachAll (get_or ends q 0) ts stop

-- nothing but where the subtrees end
abbrev pub Any : ℕ → Kind → ℕ → Float → Cell → Type 0
Any q k n l c = Unit {0}
