-- Where a tree starts: cells that are all zero hold the table's tree, and fresh cells the same tree made fresh.
use Rattle.std.specs.Prelude.{◌≡◌, refl, List, ℕ, ◌+◌, replicate, Float}
use Rattle.std.proofs.Common.{sym, ap, ◌∙◌, zero-add, suc-add, add-zero, add_assoc}
use Rattle.rules.specs.Tree.{Cell, fresh_cell, new_cell, Tree, node, Forest, [], ◌◂◌, fresh, fresh_all, size, sizes}
use Rattle.rules.specs.Table.{good, table}
use Rattle.rules.specs.Cells.{with_cells, with_cells_all}
use Rattle.rules.specs.Call.{Run}
use Rattle.laws.specs.Memory.{held, first_cells, first_held}
use Rattle.laws.specs.Tables.{Tabled, Tableds, tabled}

abbrev pub AllFresh : List Cell → Type 0
AllFresh List.[] = Unit {0}
AllFresh (List.◌∷◌ c cs) = (c ≡ new_cell) × AllFresh cs

mutual
  unfolding with_cells

  with_fresh : (t : Tree) (cs : List Cell) → Tabled t → AllFresh cs → ((with_cells t cs).0 ≡ t) × AllFresh (with_cells t cs).1
  with_fresh (node k n l c b ts) List.[] h f = ((λ i. node k n l c (sym h.4 i) ts), tt)
  with_fresh (node k n l c b ts) (List.◌∷◌ c' cs) h f =
      let r = with_fresh_all ts cs h.5 f.1 in
      ((λ i. node k n l ((f.0 ∙ sym h.3) i) (sym h.4 i) (r.0 i)), r.1)

  with_fresh_all : (ts : Forest) (cs : List Cell) → Tableds ts → AllFresh cs → ((with_cells_all ts cs).0 ≡ ts) × AllFresh (with_cells_all ts cs).1
  with_fresh_all [] cs h f = (refl, f)
  with_fresh_all (t ◂ ts) cs h f =
      let r = with_fresh t cs h.0 f in
      let rs = with_fresh_all ts (with_cells t cs).1 h.1 r.1 in
      ((λ i. r.0 i ◂ rs.0 i), rs.1)

-- the cells of the table's nodes are all zero: then they hold the table's tree
abbrev pub FreshCells : Tree → Run → Type 0
FreshCells t c = AllFresh (first_cells (size t) c)

pub fresh_held : (kinds ns : List ℕ) (limits : List Float) (t : Tree) (c : Run) → table kinds ns limits ≡ good t → FreshCells t c → held t c ≡ t
fresh_held kinds ns limits t c e f = sym (first_held t c) ∙ (with_fresh t (first_cells (size t) c) (tabled kinds ns limits t e).0 f).0

-- a run of fresh cells makes the table's tree fresh
mutual
  unfolding with_cells fresh size

  fresh_with : (t : Tree) (m : ℕ) → Tabled t → with_cells t (replicate (size t + m) fresh_cell) ≡ (fresh t, replicate m fresh_cell)
  fresh_with (node k n l c b ts) m h = rw (suc-add (sizes ts) m, freshs_with ts m h.5, h.4)

  freshs_with : (ts : Forest) (m : ℕ) → Tableds ts → with_cells_all ts (replicate (sizes ts + m) fresh_cell) ≡ (fresh_all ts, replicate m fresh_cell)
  freshs_with [] m h = rw (zero-add m)
  freshs_with (t ◂ ts) m h = rw (add_assoc (size t) (sizes ts) m, fresh_with t (sizes ts + m) h.0, freshs_with ts m h.1)

pub made_fresh : (t : Tree) → Tabled t → (with_cells t (replicate (size t) fresh_cell)).0 ≡ fresh t
made_fresh t h = rw (add-zero (size t)) at (ap (λ (z : Tree × List Cell). z.0) (fresh_with t 0 h))
