-- A tree with its cells as it stands in the slices, at most so many levels deep.
use mathlib.Core.Path.{◌≡◌, refl, sym, ap, subst}
use mathlib.Core.List.{List}
use Prim.Native.Nat.{ℕ, zero, suc, ◌≤◌, ◌<◌}
use native.Mathlib.Omega.{arith}
use lib.Ieee.{Float, nan}
use lib.ListN.{length, get_or, drop}
use Rattle.rules.specs.declared.behavior.Kind.{Kind}
use Rattle.rules.specs.Kinds.{kind_of}
use Rattle.rules.specs.Tree.{Cell, Tree, node, Forest, [], ◌◂◌, size, depth, depths}
use Rattle.rules.specs.Cells.{cell_of, cells, with_cells, with_cells_all}
use Rattle.tables.specs.At.{At, Ats}
use Rattle.tables.proofs.Placed.{ats_end}

-- ---- the cells
abbrev pub cell_at : List Float → List ℕ → List ℕ → ℕ → Cell
cell_at times places marks i = cell_of (get_or times i nan) (get_or places i 0) (get_or marks i 0)

pub drop_cells :
    (xs : List Float) (ps ms : List ℕ) (i : ℕ) → i < length (cells xs ps ms) →
    drop i (cells xs ps ms) ≡ List.◌∷◌ (cell_at xs ps ms i) (drop (suc i) (cells xs ps ms))
unfolding cells
drop_cells List.[] ps ms i h = absurd (omega arith)
drop_cells (List.◌∷◌ x xs) List.[] ms i h = absurd (omega arith)
drop_cells (List.◌∷◌ x xs) (List.◌∷◌ p ps) List.[] i h = absurd (omega arith)
drop_cells (List.◌∷◌ x xs) (List.◌∷◌ p ps) (List.◌∷◌ m ms) zero h = refl
drop_cells (List.◌∷◌ x xs) (List.◌∷◌ p ps) (List.◌∷◌ m ms) (suc i) h = drop_cells xs ps ms i (omega arith)

module _ (kinds ns ends : List ℕ) (times : List Float) (places marks : List ℕ) where
  pub record Node (q : ℕ) (k : Kind) (n : ℕ) (c : Cell) : Type 0 where
    pub kind : kind_of (get_or kinds q 0) ≡ k
    pub number : get_or ns q 0 ≡ n
    pub held : c ≡ cell_at times places marks q

  abbrev mutual
    pub Held : Tree → ℕ → ℕ → Type 0
    Held (node k n l c b ts) zero q = ⊥
    Held (node k n l c b ts) (suc d) q = Node q k n c × Helds ts d (suc q) (get_or ends q 0)

    pub Helds : Forest → ℕ → ℕ → ℕ → Type 0
    Helds [] d q stop = q ≡ stop
    Helds (t ◂ ts) d q stop = Held t d q × Helds ts d (get_or ends q 0) stop

  mutual
    pub held_lt : (t : Tree) (d q : ℕ) → Held t d q → q < get_or ends q 0
    held_lt (node k n l c b ts) zero q h = absurd h
    held_lt (node k n l c b ts) (suc d) q h = helds_le ts d (suc q) (get_or ends q 0) h.1

    pub helds_le : (ts : Forest) (d q stop : ℕ) → Helds ts d q stop → q ≤ stop
    helds_le [] d q stop h = omega arith
    helds_le (t ◂ ts) d q stop h = omega (arith, held_lt t d q h.0, helds_le ts d (get_or ends q 0) stop h.1)

  -- a tree that stands in the table, with the cells of the run
  abbrev run : List Cell
  run = cells times places marks

  module _ (limits : List Float) where
    mutual
      unfolding with_cells depth size

      pub holds :
          (t : Tree) (d q : ℕ) → depth t ≤ d → At kinds ns limits ends q t → get_or ends q 0 ≤ length run →
          Held (with_cells t (drop q run)).0 d q × ((with_cells t (drop q run)).1 ≡ drop (get_or ends q 0) run)
      holds (node k n l c b ts) zero q deep h long = absurd (omega arith)
      holds (node k n l c b ts) (suc d) q deep h long =
          let z = ats_end kinds ns limits ts ends (suc q) (get_or ends q 0) h.1 in
          let r = holds_all ts d (suc q) (get_or ends q 0) (omega arith) h.1 long in
          rw (drop_cells times places marks q (omega arith)) ((record { kind = h.0.kind; number = h.0.number; held = refl }, r.0), r.1)

      pub holds_all :
          (ts : Forest) (d q stop : ℕ) → depths ts ≤ d → Ats kinds ns limits ends q ts stop → stop ≤ length run →
          Helds (with_cells_all ts (drop q run)).0 d q stop × ((with_cells_all ts (drop q run)).1 ≡ drop stop run)
      holds_all [] d q stop deep h long = (h, ap (λ (x : ℕ). drop x run) h)
      holds_all (t ◂ ts) d q stop deep h long =
          let z = ats_end kinds ns limits ts ends (get_or ends q 0) stop h.1 in
          let r = holds t d q (omega arith) h.0 (omega arith) in
          let rest = holds_all ts d (get_or ends q 0) stop (omega arith) h.1 long in
          let rs = subst (λ (x : List Cell). Helds (with_cells_all ts x).0 d (get_or ends q 0) stop × ((with_cells_all ts x).1 ≡ drop stop run)) (sym r.1) rest in
          ((r.0, rs.0), rs.1)
