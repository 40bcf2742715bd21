-- What the check of the cells asks and answers.
use Rattle.std.specs.Prelude.{◌≡◌, refl, List, map, Bool, false, cond, ℕ, zero, suc, ◌≤◌, ltb, Float, length, get_or, Result, Ok, Err}
use Rattle.rules.specs.Tree.{Tree, size, depth}
use Rattle.rules.specs.Cells.{cells, with_cells, Found, faulty, none, bad_cell}
use Rattle.tables.specs.At.{At}
use Rattle.lent.specs.declared.table.Table.{Table}
use Rattle.lent.specs.declared.cells.Cells.{Cells}
use Rattle.cells.specs.declared.check.BadCell.{BadCell}
use Rattle.cells.specs.declared.check.Open.{Open}

-- the slices hold n nodes with their cells
pub record Room (t : Table) (c : Cells) (n : ℕ) : Type 0 where
  pub nodes : n ≤ 256
  pub kinds_long : n ≤ length t.kinds.now
  pub ns_long : n ≤ length t.ns.now
  pub times_long : n ≤ length c.times.now
  pub places_long : n ≤ length c.places.now
  pub marks_long : n ≤ length c.marks.now

abbrev pub Said : Type 0
Said = Result (Unit {0}) BadCell

abbrev pub bad_at : ℕ → BadCell
bad_at p = record { 0 = p }

abbrev pub said : Found → Said
said (faulty p) = Err (bad_at p)
said (none p) = Ok tt

pub said_faulty : (o : Found) (r : Said) (b : BadCell) → r ≡ said o → r ≡ Err b → o ≡ faulty b.0
said_faulty (faulty q) r b e h = cc
said_faulty (none q) r b e h = cc

pub said_fine : (o : Found) (r : Said) → r ≡ said o → r ≡ Ok tt → (q : ℕ) × (o ≡ none q)
said_fine (faulty q) r e h = (0, cc)
said_fine (none q) r e h = (q, refl)

-- whatever tree of n nodes stands in the table, its smallest bad cell is found
abbrev pub Checks : Table → List ℕ → Cells → ℕ → Said → Type 0
Checks t ends c n r = (limits : List Float) (tree : Tree)
    → At t.kinds.now t.ns.now limits ends 0 tree
    → size tree ≡ n
    → depth tree ≤ 16
    → r ≡ said (bad_cell false false 0 (with_cells tree (cells c.times.now c.places.now c.marks.now)).0)

-- where the open nodes end, and which of them have children that may be marked
abbrev pub stops_of : List Open → List ℕ
stops_of os = map (λ (o : Open). o.stop) os

abbrev pub may_of : List Open → List Bool
may_of os = map (λ (o : Open). o.may_end) os

-- the open nodes that do not end at a place; the first one stays
unfoldable pub open_of : List ℕ → ℕ → ℕ → ℕ
open_of stops at zero = zero
open_of stops at (suc zero) = 1
open_of stops at (suc (suc i)) = cond (ltb at (get_or stops (suc i) 0)) (suc (suc i)) (open_of stops at (suc i))

abbrev pub still_open : List Open → ℕ → ℕ → ℕ
still_open os at i = open_of (stops_of os) at i
