-- A good table's tree with the cells of a run, and a fresh one: what stands at each node's place.
use mathlib.Core.Path.{◌≡◌, refl, sym, ap, ◌∙◌}
use mathlib.Core.Bool.{true, ◌&&◌, and-eq-true_iff}
use mathlib.Core.List.{List}
use Prim.Native.Nat.{ℕ, zero, suc, ◌+◌, ◌≤◌, ◌<◌}
use native.Mathlib.Omega.{arith}
use borrow.Author.Tests.{leb-true}
use lib.Dec.{leb}
use lib.Ieee.{Float}
use lib.ListN.{length, get_or, drop, length-drop}
use lib.Seq.{drop-cons, drop-drop}
use Rattle.rules.specs.declared.behavior.Kind.{Kind}
use Rattle.rules.specs.Kinds.{code, kind_of}
use Rattle.rules.specs.Codes.{code_kind}
use Rattle.rules.specs.Tree.{zero_time, Cell, new_cell, Tree, node, Forest, [], ◌◂◌, size, sizes, count}
use Rattle.rules.specs.Table.{cleaned, count_allowed, limit_allowed, row_allowed}
use Rattle.rules.specs.Cells.{cells, with_cells, with_cells_all}
use Rattle.laws.specs.Tables.{Tabled, Tableds}
use Rattle.tables.specs.At.{Row, At, Ats}
use Rattle.tables.proofs.Placed.{at_end}
use Rattle.branch.specs.Each.{Each, EachAll}

-- ---- the cells of a run
pub record CellAt (c : Cell) (xs : List Float) (ps ms : List ℕ) (q : ℕ) : Type 0 where
  pub time : c.time ≡ get_or xs q zero_time
  pub place : c.place ≡ get_or ps q 0
  pub mark : c.mark ≡ get_or ms q 0

cell_at : (q : ℕ) (xs : List Float) (ps ms : List ℕ) → q < length (cells xs ps ms) → CellAt (get_or (cells xs ps ms) q new_cell) xs ps ms q
unfolding cells
cell_at q List.[] ps ms h = absurd (omega arith)
cell_at q (List.◌∷◌ x xs) List.[] ms h = absurd (omega arith)
cell_at q (List.◌∷◌ x xs) (List.◌∷◌ p ps) List.[] h = absurd (omega arith)
cell_at zero (List.◌∷◌ x xs) (List.◌∷◌ p ps) (List.◌∷◌ m ms) h = record { time = refl; place = refl; mark = refl }
cell_at (suc q) (List.◌∷◌ x xs) (List.◌∷◌ p ps) (List.◌∷◌ m ms) h =
    let r = cell_at q xs ps ms (omega arith) in
    record { time = r.time; place = r.place; mark = r.mark }

mutual
  unfolding with_cells size

  with_drop : (t : Tree) (cs : List Cell) → (with_cells t cs).1 ≡ drop (size t) cs
  with_drop (node k n l c b ts) List.[] = refl
  with_drop (node k n l c b ts) (List.◌∷◌ c' cs) = with_drops ts cs

  with_drops : (ts : Forest) (cs : List Cell) → (with_cells_all ts cs).1 ≡ drop (sizes ts) cs
  with_drops [] cs = refl
  with_drops (t ◂ ts) cs = with_drops ts (with_cells t cs).1 ∙ ap (λ (l : List Cell). drop (sizes ts) l) (with_drop t cs) ∙ drop-drop (sizes ts) (size t) cs

-- ---- what stands at a node's place
module _ (kinds ns : List ℕ) (limits : List Float) where
  pub record InRow (q : ℕ) (k : Kind) (n : ℕ) (l : Float) : Type 0 where
    pub coded : code k ≡ get_or kinds q 0
    pub kind : kind_of (get_or kinds q 0) ≡ k
    pub number : n ≡ get_or ns q 0
    pub limit : l ≡ cleaned (get_or limits q zero_time)

  small_kind : (x n : ℕ) (l : Float) → row_allowed x n l ≡ true → x ≤ 16
  unfolding row_allowed
  small_kind x n l h =
      let a = ((and-eq-true_iff (leb x 16 && count_allowed (kind_of x) n) (limit_allowed (kind_of x) l)).0 h).0 in
      leb-true x 16 ((and-eq-true_iff (leb x 16) (count_allowed (kind_of x) n)).0 a).0

  in_row : (q : ℕ) (k : Kind) (n : ℕ) (l : Float) (many : ℕ) → Row kinds ns limits q k n l many → InRow q k n l
  in_row q k n l many r =
      let coded = code_kind (get_or kinds q 0) (small_kind (get_or kinds q 0) n l r.allowed) in
      record { coded = ap code (sym r.kind) ∙ coded; kind = r.kind; number = sym r.number; limit = sym r.limit }

  module _ (ends : List ℕ) where
    -- the new branch
    pub record Fresh (q : ℕ) (k : Kind) (n : ℕ) (l : Float) (c : Cell) : Type 0 where
      pub row : InRow q k n l
      pub cell : c ≡ new_cell

    mutual
      pub fresh_stands : (t : Tree) (q : ℕ) → At kinds ns limits ends q t → Tabled t → Each ends Fresh q t
      fresh_stands (node k n l c b ts) q h f = (record { row = in_row q k n l (count ts) h.0; cell = f.3 }, freshes_stand ts (suc q) (get_or ends q 0) h.1 f.5)

      freshes_stand : (ts : Forest) (q stop : ℕ) → Ats kinds ns limits ends q ts stop → Tableds ts → EachAll ends Fresh q ts stop
      freshes_stand [] q stop h f = h
      freshes_stand (t ◂ ts) q stop h f = (fresh_stands t q h.0 f.0, freshes_stand ts (get_or ends q 0) stop h.1 f.1)

    -- the tree with its cells
    module _ (times : List Float) (places marks : List ℕ) where
      pub record Stood (q : ℕ) (k : Kind) (n : ℕ) (l : Float) (c : Cell) : Type 0 where
        pub row : InRow q k n l
        pub cell : CellAt c times places marks q

      abbrev run : List Cell
      run = cells times places marks

      mutual
        unfolding with_cells size

        stands_with : (t : Tree) (q : ℕ) (cs : List Cell) → At kinds ns limits ends q t → cs ≡ drop q run → q + size t ≤ length run → Each ends Stood q (with_cells t cs).0
        stands_with (node k n l c b ts) q List.[] h e low = absurd (omega (arith, ap length e, length-drop q run))
        stands_with (node k n l c b ts) q (List.◌∷◌ c' cs) h e low =
            let cut : List.◌∷◌ c' cs ≡ List.◌∷◌ (get_or run q new_cell) (drop (suc q) run) = e ∙ drop-cons run q new_cell (omega arith) in
            let first : c' ≡ get_or run q new_cell = cc in
            let rest : cs ≡ drop (suc q) run = cc in
            let here : CellAt c' times places marks q = rw first (cell_at q times places marks (omega arith)) in
            (record { row = in_row q k n l (count ts) h.0; cell = here }, stand_with ts (suc q) (get_or ends q 0) cs h.1 rest (omega arith))

        stand_with : (ts : Forest) (q stop : ℕ) (cs : List Cell) → Ats kinds ns limits ends q ts stop → cs ≡ drop q run → q + sizes ts ≤ length run → EachAll ends Stood q (with_cells_all ts cs).0 stop
        stand_with [] q stop cs h e low = h
        stand_with (t ◂ ts) q stop cs h e low =
            let end = at_end kinds ns limits t ends q h.0 in
            let dropped = with_drop t cs ∙ ap (λ (l : List Cell). drop (size t) l) e ∙ drop-drop (size t) q run in
            let rest : (with_cells t cs).1 ≡ drop (get_or ends q 0) run = dropped ∙ ap (λ (z : ℕ). drop z run) (sym end) in
            (stands_with t q cs h.0 e (omega arith), stand_with ts (get_or ends q 0) stop (with_cells t cs).1 h.1 rest (omega arith))

      pub stands : (t : Tree) → At kinds ns limits ends 0 t → size t ≤ length run → Each ends Stood 0 (with_cells t run).0
      stands t h low = stands_with t 0 run h refl (omega arith)
