-- The cell check as a fact about a tree: `bad_cell` finds none exactly where every cell is allowed.
use Rattle.std.specs.Prelude.{◌≡◌, refl, Bool, true, false, cond, ◌||◌, ℕ, suc, ◌+◌, T}
use Rattle.std.proofs.Common.{sym, ap, ◌∙◌, add-zero, arith}
use Rattle.rules.specs.Kinds.{marks_children}
use Rattle.rules.specs.Tree.{Tree, node, Forest, [], ◌◂◌, size, sizes}
use Rattle.rules.specs.Cells.{cell_allowed, ended_in, Found, faulty, none, bad_cell, bad_cells}

abbrev mutual
  pub Fine : Bool → Bool → Tree → Type 0
  Fine ended mayEnd (node k n l c b ts) = T (cell_allowed ended mayEnd k n c) × Fines (ended || ended_in c) (marks_children k) ts

  pub Fines : Bool → Bool → Forest → Type 0
  Fines ended mayEnd [] = Unit {0}
  Fines ended mayEnd (t ◂ ts) = Fine ended mayEnd t × Fines ended mayEnd ts

abbrev pub IfNone : Found → Type 0 → Type 0
IfNone (faulty p) X = Unit {0}
IfNone (none at) X = X

node_if : (b : Bool) (o : Found) (at : ℕ) (X Y : Type 0) → (T b → X) → IfNone o Y → IfNone (cond b o (faulty at)) (X × Y)
node_if true (faulty p) at X Y f h = tt
node_if true (none p) at X Y f h = (f tt, h)
node_if false o at X Y f h = tt

both_if : (o : Found) (k : ℕ → Found) (X Y : Type 0) → IfNone o X → ((at : ℕ) → IfNone (k at) Y) → IfNone (elim o [ faulty p ↦ faulty p | none at ↦ k at ]) (X × Y)
both_if (faulty p) k X Y h f = tt
both_if (none at) k X Y h f = on (k at) (f at)
  where
    on : (o : Found) → IfNone o Y → IfNone o (X × Y)
    on (faulty p) g = tt
    on (none p) g = (h, g)

mutual
  unfolding bad_cell

  fine_if : (ended mayEnd : Bool) (at : ℕ) (t : Tree) → IfNone (bad_cell ended mayEnd at t) (Fine ended mayEnd t)
  fine_if ended mayEnd at (node k n l c b ts) =
      node_if (cell_allowed ended mayEnd k n c) (bad_cells (ended || ended_in c) (marks_children k) (suc at) ts) at (T (cell_allowed ended mayEnd k n c))
      (Fines (ended || ended_in c) (marks_children k) ts) (λ h. h)
      (fines_if (ended || ended_in c) (marks_children k) (suc at) ts)

  fines_if : (ended mayEnd : Bool) (at : ℕ) (ts : Forest) → IfNone (bad_cells ended mayEnd at ts) (Fines ended mayEnd ts)
  fines_if ended mayEnd at [] = tt
  fines_if ended mayEnd at (t ◂ ts) =
      both_if (bad_cell ended mayEnd at t) (λ at'. bad_cells ended mayEnd at' ts) (Fine ended mayEnd t) (Fines ended mayEnd ts) (fine_if ended mayEnd at t) (λ at'. fines_if ended mayEnd at' ts)

pub fine_of : (ended mayEnd : Bool) (at at' : ℕ) (t : Tree) → bad_cell ended mayEnd at t ≡ none at' → Fine ended mayEnd t
fine_of ended mayEnd at at' t e = rw e at (fine_if ended mayEnd at t)

-- ---- and back
taken : (b : Bool) (x y : Found) → T b → cond b x y ≡ x
taken true x y h = refl
taken false x y h = absurd h

found : (o : Found) (at : ℕ) (k : ℕ → Found) → o ≡ none at → elim o [ faulty p ↦ faulty p | none at' ↦ k at' ] ≡ k at
found o at k e = ap (λ (u : Found). elim u [ faulty p ↦ faulty p | none at' ↦ k at' ]) e

behind : (a s : ℕ) → suc a + s ≡ a + suc s
behind a s = omega arith

sums : (a s u : ℕ) → a + s + u ≡ a + (s + u)
sums a s u = omega arith

mutual
  unfolding bad_cell size

  pub none_of : (ended mayEnd : Bool) (at : ℕ) (t : Tree) → Fine ended mayEnd t → bad_cell ended mayEnd at t ≡ none (at + size t)
  none_of ended mayEnd at (node k n l c b ts) h =
      taken (cell_allowed ended mayEnd k n c) (bad_cells (ended || ended_in c) (marks_children k) (suc at) ts) (faulty at) h.0
      ∙ nones_of (ended || ended_in c) (marks_children k) (suc at) ts h.1
      ∙ ap none (behind at (sizes ts))

  nones_of : (ended mayEnd : Bool) (at : ℕ) (ts : Forest) → Fines ended mayEnd ts → bad_cells ended mayEnd at ts ≡ none (at + sizes ts)
  nones_of ended mayEnd at [] h = ap none (sym (add-zero at))
  nones_of ended mayEnd at (t ◂ ts) h =
      found (bad_cell ended mayEnd at t) (at + size t) (λ at'. bad_cells ended mayEnd at' ts) (none_of ended mayEnd at t h.0) ∙ nones_of ended mayEnd (at + size t) ts h.1 ∙ ap none
      (sums at (size t) (sizes ts))
