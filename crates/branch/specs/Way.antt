-- The way from the root down to a node.
use Rattle.std.specs.Prelude.{◌≡◌, false, cond, List, ℕ, zero, suc, ◌-◌, ◌<◌, ◌≤◌, ltb, Float, length, get_or, Option}
use Rattle.std.specs.Bool.{then_some}
use Rattle.rules.specs.declared.behavior.Kind.{Kind}
use Rattle.rules.specs.Kinds.{kind_of}
use Rattle.rules.specs.Tree.{Cell, Tree, node, Forest, [], ◌◂◌, size}
use Rattle.rules.specs.Exchange.{free}
use Rattle.branch.specs.Each.{Each}

-- how many nodes stand above the node p places behind the root
unfoldable mutual
  unfolding size

  pub above : Tree → ℕ → ℕ
  above (node k n l c b ts) zero = 0
  above (node k n l c b ts) (suc p) = suc (above_in ts p)

  pub above_in : Forest → ℕ → ℕ
  above_in [] p = 0
  above_in (t ◂ ts) p = cond (ltb p (size t)) (above t p) (above_in ts (p - size t))

module _ (kinds ns ends places marks : List ℕ) where
  -- what is read of a node on the way
  pub record Node (q : ℕ) (k : Kind) (n : ℕ) (l : Float) (c : Cell) : Type 0 where
    pub kind : kind_of (get_or kinds q 0) ≡ k
    pub number : get_or ns q 0 ≡ n
    pub place : get_or places q 0 ≡ c.place
    pub mark : get_or marks q 0 ≡ c.mark

  abbrev pub Stands : Tree → Type 0
  Stands t = Each ends Node 0 t

  -- the node at a place of a tree that stands in the slices
  pub record Lies (at : ℕ) : Type 0 where
    pub tree : Tree
    pub stands : Stands tree
    pub inside : at < size tree
    pub few : size tree ≤ 256
    pub in_kinds : size tree ≤ length kinds
    pub in_ns : size tree ≤ length ns
    pub in_places : size tree ≤ length places
    pub in_marks : size tree ≤ length marks

  -- whatever tree stands in the slices, this is the way to its node at a place
  abbrev pub Leads : ℕ → Option ℕ → Type 0
  Leads at r = (t : Tree) → Stands t → at < size t → r ≡ then_some (free false t at) (above t at)
