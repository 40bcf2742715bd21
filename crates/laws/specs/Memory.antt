-- The cells that a call leaves are the cells that the next one finds.
use Rattle.std.specs.Prelude.{◌≡◌, refl, List, ℕ, ◌+◌, take, drop, Float}
use Rattle.std.proofs.Common.{ap, ◌∙◌, zero-add, suc-add, add-zero, add_assoc}
use Rattle.std.proofs.Math.Seq.{take-nil}
use Rattle.rules.specs.Tree.{Cell, Tree, node, Forest, [], ◌◂◌, size, sizes, marked}
use Rattle.rules.specs.Cells.{cell_of, cells, with_cells, with_cells_all, column, columns, time_of, place_of, mark_of}
use Rattle.rules.specs.Call.{Run, onto_run}
use Rattle.laws.specs.Shape.{Shape, shp, Shapes, shape, shapes}
use Rattle.laws.specs.Shape

-- a cell as it is lent, and a tree between two ticks: its board is cleared, and no tick has made it fresh
abbrev lent_cell : Cell → ℕ → Cell
lent_cell c b = cell_of c.time c.place c.mark

unfoldable mutual
  pub clear : Tree → Tree
  clear (node k n l c b ts) = node k n l (lent_cell c b) 0 (clear_all ts)

  pub clear_all : Forest → Forest
  clear_all [] = []
  clear_all (t ◂ ts) = clear t ◂ clear_all ts

mutual
  unfolding clear

  pub clear_shape : (t : Tree) → shape (clear t) ≡ shape t
  clear_shape (node k n l c b ts) = ap (λ (z : Shapes). shp k n l z) (clears_shape ts)

  pub clears_shape : (ts : Forest) → shapes (clear_all ts) ≡ shapes ts
  clears_shape [] = refl
  clears_shape (t ◂ ts) = λ i. Shape.◌◂◌ (clear_shape t i) (clears_shape ts i)

pub clear_marked : (t : Tree) → marked (clear t) ≡ marked t
unfolding clear
clear_marked (node k n l c b ts) = refl

-- the tree that a run of cells holds for a table's tree
abbrev pub held : Tree → Run → Tree
held t r = (with_cells t (cells r.times r.places r.marks)).0

-- ---- the cells as one column
mutual
  unfolding cells column

  one_column : (t : Tree) (xs : List Float) (ps ms : List ℕ) → cells (column time_of t xs) (column place_of t ps) (column mark_of t ms) ≡ column lent_cell t (cells xs ps ms)
  one_column (node k n l c b ts) xs ps ms = ap (λ (z : List Cell). List.◌∷◌ (lent_cell c b) z) (one_columns ts xs ps ms)

  one_columns : (ts : Forest) (xs : List Float) (ps ms : List ℕ) → cells (columns time_of ts xs) (columns place_of ts ps) (columns mark_of ts ms) ≡ columns lent_cell ts (cells xs ps ms)
  one_columns [] xs ps ms = refl
  one_columns (t ◂ ts) xs ps ms = one_column t (columns time_of ts xs) (columns place_of ts ps) (columns mark_of ts ms) ∙ ap (λ (z : List Cell). column lent_cell t z) (one_columns ts xs ps ms)

-- ---- a tree of that shape
abbrev mutual
  Of : Tree → Shape → Type 0
  Of (node k n l c b ts) (shp k' n' l' ss) = (k ≡ k') × (n ≡ n') × (l ≡ l') × Ofs ts ss

  Ofs : Forest → Shapes → Type 0
  Ofs [] Shape.[] = Unit {0}
  Ofs [] (Shape.◌◂◌ s ss) = ⊥
  Ofs (t ◂ ts) Shape.[] = ⊥
  Ofs (t ◂ ts) (Shape.◌◂◌ s ss) = Of t s × Ofs ts ss

mutual
  own : (t : Tree) → Of t (shape t)
  own (node k n l c b ts) = (refl, refl, refl, owns ts)

  owns : (ts : Forest) → Ofs ts (shapes ts)
  owns [] = tt
  owns (t ◂ ts) = (own t, owns ts)

mutual
  unfolding with_cells column clear

  read_back : (t u : Tree) (behind : List Cell) → Of t (shape u) → with_cells t (column lent_cell u behind) ≡ (clear u, behind)
  read_back (node k n l c b ts) (node k' n' l' c' b' us) behind o = rw (o.0, o.1, o.2, reads_back ts us behind o.3)

  reads_back : (ts us : Forest) (behind : List Cell) → Ofs ts (shapes us) → with_cells_all ts (columns lent_cell us behind) ≡ (clear_all us, behind)
  reads_back [] [] behind o = refl
  reads_back [] (u ◂ us) behind o = absurd o
  reads_back (t ◂ ts) [] behind o = absurd o
  reads_back (t ◂ ts) (u ◂ us) behind o = rw (read_back t u (columns lent_cell us behind) o.0, reads_back ts us behind o.1)

-- what was written is found again, as it is between two ticks
pub held_onto : (since : List ℕ) (t u : Tree) (r : Run) → shape u ≡ shape t → held t (onto_run since u r) ≡ clear u
unfolding onto_run
held_onto since t u r e =
    let xs = drop (size u) r.times in
    let ps = drop (size u) r.places in
    let ms = drop (size u) r.marks in
    ap (λ (z : List Cell). (with_cells t z).0) (one_column u xs ps ms) ∙ ap (λ (z : Tree × List Cell). z.0) (read_back t u (cells xs ps ms) (rw e (own t)))

-- cells change no shape
mutual
  unfolding with_cells

  pub with_shape : (t : Tree) (cs : List Cell) → shape (with_cells t cs).0 ≡ shape t
  with_shape (node k n l c b ts) List.[] = refl
  with_shape (node k n l c b ts) (List.◌∷◌ c' cs) = ap (λ (z : Shapes). shp k n l z) (with_shapes ts cs)

  with_shapes : (ts : Forest) (cs : List Cell) → shapes (with_cells_all ts cs).0 ≡ shapes ts
  with_shapes [] cs = refl
  with_shapes (t ◂ ts) cs = λ i. Shape.◌◂◌ (with_shape t cs i) (with_shapes ts (with_cells t cs).1 i)

pub held_shape : (t : Tree) (r : Run) → shape (held t r) ≡ shape t
held_shape t r = with_shape t (cells r.times r.places r.marks)

-- ---- a tree is held by the first cells of a run: what stands behind them does not matter
abbrev pub first_cells : ℕ → Run → List Cell
first_cells n r = take n (cells r.times r.places r.marks)

mutual
  unfolding with_cells size

  first_with : (t : Tree) (m : ℕ) (cs : List Cell) → with_cells t (take (size t + m) cs) ≡ ((with_cells t cs).0, take m (with_cells t cs).1)
  first_with (node k n l c b ts) m List.[] = rw (suc-add (sizes ts) m, take-nil m)
  first_with (node k n l c b ts) m (List.◌∷◌ c' cs) = rw (suc-add (sizes ts) m, firsts_with ts m cs)

  firsts_with : (ts : Forest) (m : ℕ) (cs : List Cell) → with_cells_all ts (take (sizes ts + m) cs) ≡ ((with_cells_all ts cs).0, take m (with_cells_all ts cs).1)
  firsts_with [] m cs = rw (zero-add m)
  firsts_with (t ◂ ts) m cs = rw (add_assoc (size t) (sizes ts) m, first_with t (sizes ts + m) cs, firsts_with ts m (with_cells t cs).1)

pub first_held : (t : Tree) (r : Run) → (with_cells t (first_cells (size t) r)).0 ≡ held t r
first_held t r = rw (add-zero (size t)) at (ap (λ (z : Tree × List Cell). z.0) (first_with t 0 (cells r.times r.places r.marks)))

pub held_first : (t : Tree) (r r' : Run) → first_cells (size t) r ≡ first_cells (size t) r' → held t r ≡ held t r'
held_first t r r' e = rw (← first_held t r, e) (first_held t r')
