-- How deep a tree is whose subtrees end as `ends` says.
use Rattle.std.specs.Prelude.{◌≡◌, List, ℕ, ◌+◌, ◌≤◌, get_or}
use Rattle.rules.specs.Tree.{Tree, Forest, size, depth, depths}
use Rattle.branch.specs.Each.{Each, EachAll, Any}

module _ (deep ends : List ℕ) where
  -- of each tree from q to stop, `deep` has its depth
  abbrev pub Known : ℕ → ℕ → Type 0
  Known q stop = (p : ℕ) (t : Tree) → q ≤ p → p + size t ≤ stop → Each ends Any p t → depth t ≤ 16 → get_or deep p 0 ≡ depth t

  -- whatever trees stand there, this is their depth
  abbrev pub Deepest : ℕ → ℕ → ℕ → Type 0
  Deepest from stop r = (ts : Forest) → EachAll ends Any from ts stop → stop ≤ 256 → depths ts ≤ 16 → Known from stop → r ≡ depths ts

abbrev pub Depth : List ℕ → ℕ → ℕ → Type 0
Depth ends n r = (t : Tree) → Each ends Any 0 t → size t ≡ n → depth t ≤ 16 → r ≡ depth t
