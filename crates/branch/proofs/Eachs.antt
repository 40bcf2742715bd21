-- Facts of each node at its place: where a tree ends, and what follows of each node.
use mathlib.Core.Path.{◌≡◌}
use mathlib.Core.List.{List}
use Prim.Native.Nat.{ℕ, suc, ◌+◌, ◌<◌}
use native.Mathlib.Omega.{arith}
use lib.Ieee.{Float}
use lib.ListN.{get_or}
use Rattle.rules.specs.declared.behavior.Kind.{Kind}
use Rattle.rules.specs.Tree.{Cell, Tree, node, Forest, [], ◌◂◌, size, sizes}
use Rattle.branch.specs.Each.{Each, EachAll}

pub size_pos : (t : Tree) → 0 < size t
unfolding size
size_pos (node k n l c b ts) = omega arith

module _ (ends : List ℕ) (P : ℕ → Kind → ℕ → Float → Cell → Type 0) where
  mutual
    unfolding size

    pub each_end : (t : Tree) (q : ℕ) → Each ends P q t → get_or ends q 0 ≡ q + size t
    each_end (node k n l c b ts) q h = omega (arith, eachs_end ts (suc q) (get_or ends q 0) h.1)

    pub eachs_end : (ts : Forest) (q stop : ℕ) → EachAll ends P q ts stop → stop ≡ q + sizes ts
    eachs_end [] q stop h = omega (arith, h)
    eachs_end (t ◂ ts) q stop h = omega (arith, each_end t q h.0, eachs_end ts (get_or ends q 0) stop h.1)

  module _ (Q : ℕ → Kind → ℕ → Float → Cell → Type 0) (to : (q : ℕ) (k : Kind) (n : ℕ) (l : Float) (c : Cell) → P q k n l c → Q q k n l c) where
    mutual
      pub each_map : (t : Tree) (q : ℕ) → Each ends P q t → Each ends Q q t
      each_map (node k n l c b ts) q h = (to q k n l c h.0, eachs_map ts (suc q) (get_or ends q 0) h.1)

      pub eachs_map : (ts : Forest) (q stop : ℕ) → EachAll ends P q ts stop → EachAll ends Q q ts stop
      eachs_map [] q stop h = h
      eachs_map (t ◂ ts) q stop h = (each_map t q h.0, eachs_map ts (get_or ends q 0) stop h.1)
