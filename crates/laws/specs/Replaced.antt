-- The tree with a branch replaced: it is one that a table can have, its board is clear and its cells are accepted, where that holds of the tree and of a fresh branch.
use Rattle.std.specs.Prelude.{◌≡◌, refl, Bool, true, false, cond, ◌&&◌, ◌||◌, List, ℕ, zero, suc, ◌-◌, T, leb, Float}
use Rattle.std.proofs.Common.{sym, ap, ◌∙◌, arith, le-leb}
use Rattle.rules.specs.declared.behavior.Kind.{Kind}
use Rattle.rules.specs.Kinds.{timed, marks_children}
use Rattle.rules.specs.Tree.{Cell, new_cell, Tree, node, Forest, [], ◌◂◌, size, count}
use Rattle.rules.specs.Cells.{cells, with_cells, with_cells_all, last_place, cell_allowed, ended_in}
use Rattle.rules.specs.Exchange.{replaced, replaced_in}
use Rattle.laws.specs.Memory.{clear, clear_all}
use Rattle.laws.specs.Tables.{Tabled, Tableds}
use Rattle.laws.specs.Tests.{below_or_not}
use Rattle.laws.specs.Fine.{Fine, Fines}
use Rattle.laws.specs.ReadBack.{Sound, Sounds}

-- ---- what a table can have
count_replaced : (ts : Forest) (p : ℕ) (u : Tree) → count (replaced_in ts p u) ≡ count ts
unfolding replaced
count_replaced [] p u = refl
count_replaced (t ◂ ts) p u = below_or_not p (size t) (λ e m. rw e) (λ e m. rw e (ap (λ (z : ℕ). suc z) (count_replaced ts (p - size t) u)))

module _ (u : Tree) (s : Sound u) where
  mutual
    unfolding replaced

    pub sound_replaced : (t : Tree) (p : ℕ) → Sound t → Sound (replaced t p u)
    sound_replaced (node k n l c b ts) zero h = s
    sound_replaced (node k n l c b ts) (suc p) h = (h.0, h.1 ∙ sym (count_replaced ts p u), h.2, h.3, sounds_replaced ts p h.4)

    sounds_replaced : (ts : Forest) (p : ℕ) → Sounds ts → Sounds (replaced_in ts p u)
    sounds_replaced [] p h = tt
    sounds_replaced (t ◂ ts) p h = below_or_not p (size t)
        (λ e m. rw e (sound_replaced t p h.0, h.1))
        (λ e m. rw e (h.0, sounds_replaced ts (p - size t) h.1))

count_with : (ts : Forest) (cs : List Cell) → count (with_cells_all ts cs).0 ≡ count ts
unfolding with_cells
count_with [] cs = refl
count_with (t ◂ ts) cs = ap (λ (z : ℕ). suc z) (count_with ts (with_cells t cs).1)

mutual
  unfolding with_cells

  pub sound_with : (t : Tree) (cs : List Cell) → Sound t → Sound (with_cells t cs).0
  sound_with (node k n l c b ts) List.[] h = h
  sound_with (node k n l c b ts) (List.◌∷◌ c' cs) h = (h.0, h.1 ∙ sym (count_with ts cs), h.2, h.3, sounds_with ts cs h.4)

  sounds_with : (ts : Forest) (cs : List Cell) → Sounds ts → Sounds (with_cells_all ts cs).0
  sounds_with [] cs h = tt
  sounds_with (t ◂ ts) cs h = (sound_with t cs h.0, sounds_with ts (with_cells t cs).1 h.1)

-- ---- a tree between two ticks: its board is clear, and no tick has made it fresh
abbrev mutual
  pub Blank : Tree → Type 0
  Blank (node k n l c b ts) = (b ≡ 0) × (c.anew ≡ false) × Blanks ts

  pub Blanks : Forest → Type 0
  Blanks [] = Unit {0}
  Blanks (t ◂ ts) = Blank t × Blanks ts

mutual
  unfolding clear

  pub blank_clear : (t : Tree) → Blank t → clear t ≡ t
  blank_clear (node k n l c b ts) h =
      λ i. node k n l (record { time = c.time; place = c.place; mark = c.mark; anew = sym h.1 i }) (sym h.0 i) (blanks_clear ts h.2 i)

  blanks_clear : (ts : Forest) → Blanks ts → clear_all ts ≡ ts
  blanks_clear [] h = refl
  blanks_clear (t ◂ ts) h = λ i. blank_clear t h.0 i ◂ blanks_clear ts h.1 i

mutual
  pub tabled_blank : (t : Tree) → Tabled t → Blank t
  tabled_blank (node k n l c b ts) h = (h.4, ap (λ (c : Cell). c.anew) h.3, tableds_blank ts h.5)

  tableds_blank : (ts : Forest) → Tableds ts → Blanks ts
  tableds_blank [] h = tt
  tableds_blank (t ◂ ts) h = (tabled_blank t h.0, tableds_blank ts h.1)

-- cells as they are lent
abbrev Lent : List Cell → Type 0
Lent List.[] = Unit {0}
Lent (List.◌∷◌ c cs) = (c.anew ≡ false) × Lent cs

pub cells_lent : (xs : List Float) (ps ms : List ℕ) → Lent (cells xs ps ms)
unfolding cells
cells_lent List.[] ps ms = tt
cells_lent (List.◌∷◌ x xs) List.[] ms = tt
cells_lent (List.◌∷◌ x xs) (List.◌∷◌ p ps) List.[] = tt
cells_lent (List.◌∷◌ x xs) (List.◌∷◌ p ps) (List.◌∷◌ m ms) = (refl, cells_lent xs ps ms)

mutual
  unfolding with_cells

  pub blank_with : (t : Tree) (cs : List Cell) → Lent cs → Blank t → Blank (with_cells t cs).0 × Lent (with_cells t cs).1
  blank_with (node k n l c b ts) List.[] e h = ((refl, h.1, h.2), tt)
  blank_with (node k n l c b ts) (List.◌∷◌ c' cs) e h = let r = blanks_with ts cs e.1 h.2 in ((refl, e.0, r.0), r.1)

  blanks_with : (ts : Forest) (cs : List Cell) → Lent cs → Blanks ts → Blanks (with_cells_all ts cs).0 × Lent (with_cells_all ts cs).1
  blanks_with [] cs e h = (tt, e)
  blanks_with (t ◂ ts) cs e h =
      let r = blank_with t cs e h.0 in
      let rs = blanks_with ts (with_cells t cs).1 r.1 h.1 in
      ((r.0, rs.0), rs.1)

module _ (u : Tree) (s : Blank u) where
  mutual
    unfolding replaced

    pub blank_replaced : (t : Tree) (p : ℕ) → Blank t → Blank (replaced t p u)
    blank_replaced (node k n l c b ts) zero h = s
    blank_replaced (node k n l c b ts) (suc p) h = (h.0, h.1, blanks_replaced ts p h.2)

    blanks_replaced : (ts : Forest) (p : ℕ) → Blanks ts → Blanks (replaced_in ts p u)
    blanks_replaced [] p h = tt
    blanks_replaced (t ◂ ts) p h = below_or_not p (size t)
        (λ e m. rw e (blank_replaced t p h.0, h.1))
        (λ e m. rw e (h.0, blanks_replaced ts (p - size t) h.1))

-- ---- accepted cells: a fresh one is allowed in every node, also below one that has ended
fresh_allowed : (ended mayEnd : Bool) (k : Kind) (n : ℕ) → T (cell_allowed ended mayEnd k n new_cell)
unfolding cell_allowed
fresh_allowed true mayEnd k n = tt
fresh_allowed false mayEnd k n = on (timed k) (leb 0 (last_place k n)) (le-leb 0 (last_place k n) (omega arith))
  where
    on : (b x : Bool) → x ≡ true → T (cond b true true && x)
    on true x e = rw e tt
    on false x e = rw e tt

mutual
  fresh_fine : (t : Tree) → Tabled t → (ended mayEnd : Bool) → Fine ended mayEnd t
  fresh_fine (node k n l c b ts) h ended mayEnd = rw h.3 (fresh_allowed ended mayEnd k n, fresh_fines ts h.5 (ended || ended_in new_cell) (marks_children k))

  fresh_fines : (ts : Forest) → Tableds ts → (ended mayEnd : Bool) → Fines ended mayEnd ts
  fresh_fines [] h ended mayEnd = tt
  fresh_fines (t ◂ ts) h ended mayEnd = (fresh_fine t h.0 ended mayEnd, fresh_fines ts h.1 ended mayEnd)

module _ (u : Tree) (s : Tabled u) where
  mutual
    unfolding replaced

    pub fine_replaced : (t : Tree) (p : ℕ) (ended mayEnd : Bool) → Fine ended mayEnd t → Fine ended mayEnd (replaced t p u)
    fine_replaced (node k n l c b ts) zero ended mayEnd h = fresh_fine u s ended mayEnd
    fine_replaced (node k n l c b ts) (suc p) ended mayEnd h = (h.0, fines_replaced ts p (ended || ended_in c) (marks_children k) h.1)

    fines_replaced : (ts : Forest) (p : ℕ) (ended mayEnd : Bool) → Fines ended mayEnd ts → Fines ended mayEnd (replaced_in ts p u)
    fines_replaced [] p ended mayEnd h = tt
    fines_replaced (t ◂ ts) p ended mayEnd h = below_or_not p (size t)
        (λ e m. rw e (fine_replaced t p ended mayEnd h.0, h.1))
        (λ e m. rw e (h.0, fines_replaced ts (p - size t) ended mayEnd h.1))
