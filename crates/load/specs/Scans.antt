-- What the pass over table and cells finds, and the words that it leaves of what it accepts.
use Rattle.std.specs.Prelude.{◌≡◌, Bool, true, false, cond, List, ℕ, ◌+◌, ◌*◌, ◌/◌, ◌%◌, ◌≤◌, ◌<◌, Float, length, get_or, replicate, Option, Some, Result, Ok, Err}
use Rattle.std.specs.Option.{option_or}
use Rattle.std.specs.Float.{nan}
use Rattle.rules.specs.Kinds.{kind_of}
use Rattle.rules.specs.Tree.{Tree, size, depth}
use Rattle.rules.specs.Table.{cleaned, good, bad, rows, table}
use Rattle.rules.specs.Cells.{cell_of, cell_allowed, cells, with_cells, Found, faulty, none, bad_cell}
use Rattle.tables.specs.Checks.{row_of}
use Rattle.tables.specs.At.{At}
use Rattle.lent.specs.declared.table.Table.{Table}
use Rattle.lent.specs.declared.cells.Cells.{Cells}
use Rattle.refine.specs.Words.{pack}
use Rattle.load.specs.declared.found.Fault.{Fault}
use Rattle.load.specs.declared.found.Fault.TheVariants as fault
use Rattle.load.specs.Load.{load_words}

-- places or marks that words are made of: those that are lent, or none
abbrev pub start_from : Bool → ℕ → List ℕ → List ℕ
start_from fresh n xs = cond fresh (replicate n 0) xs

abbrev pub Scanned : Type 0
Scanned = Result ℕ Fault

-- the first bad cell so far, once the cell at q is looked at
abbrev pub first_of : Option ℕ → Bool → ℕ → Option ℕ
first_of s fine q = cond fine s (option_or s (Some q))

abbrev pub with_below : ℕ → ℕ → ℕ
with_below w b = w / 256 * 256 + b % 256

-- a Wait without a place whose limit and cell are good, where no ended child is above it
pub record PlainWait (mayEnd : Bool) (kind n : ℕ) (limit time : Float) (place mark : ℕ) : Type 0 where
  pub code : kind ≡ 0
  pub at_start : place ≡ 0
  pub row : row_of kind n (cleaned limit) ≡ Some 0
  pub cell : cell_allowed false mayEnd (kind_of kind) n (cell_of time place mark) ≡ true

module _ (kinds ns : List ℕ) (limits : List Float) (times : List Float) (places marks : List ℕ) where
  -- from `from` to r, at most to `to`, plain Waits stand, and their words; all others stay
  pub record Passes (mayEnd : Bool) (ws₀ ws : List ℕ) (from to r : ℕ) : Type 0 where
    pub lower : from ≤ r
    pub upper : r ≤ to
    pub long : length ws ≡ 260
    pub plain : (i : ℕ) → from ≤ i → i < r → PlainWait mayEnd (get_or kinds i 0) (get_or ns i 0) (get_or limits i nan) (get_or times i nan) (get_or places i 0) (get_or marks i 0)
    pub word : (i : ℕ) → from ≤ i → i < r → get_or ws i 0 ≡ pack 0 (get_or kinds i 0) (get_or places i 0) (get_or marks i 0) false 0
    pub before : (i : ℕ) → i < from → get_or ws i 0 ≡ get_or ws₀ i 0
    pub behind : (i : ℕ) → r ≤ i → get_or ws i 0 ≡ get_or ws₀ i 0

  -- the slices hold n rows, with a cell for each
  pub record Lent (n : ℕ) : Type 0 where
    pub nodes : n ≡ length (rows kinds ns limits)
    pub times_long : n ≤ length times
    pub places_long : n ≤ length places
    pub marks_long : n ≤ length marks

  -- the smallest bad cell of the tree with the lent cells
  abbrev pub found : Tree → Found
  found t = bad_cell false false 0 (with_cells t (cells times places marks)).0

  -- a tree whose smallest bad cell is at p
  pub record Faulty (p : ℕ) : Type 0 where
    pub tree : Tree
    pub is : table kinds ns limits ≡ good tree
    pub sized : size tree ≡ length (rows kinds ns limits)
    pub bad_at : found tree ≡ faulty p

  -- a tree of n nodes without a bad cell, and its words over those that stood there; a tree that starts fresh has no cells to look at
  pub record Accepted (fresh : Bool) (ws₀ ws : List ℕ) (n : ℕ) : Type 0 where
    pub tree : Tree
    pub is : table kinds ns limits ≡ good tree
    pub nodes : n ≡ length (rows kinds ns limits)
    pub sized : size tree ≡ n
    pub few : n ≤ 256
    pub levels : depth tree ≤ 16
    pub ends : List ℕ
    pub stands : At kinds ns limits ends 0 tree
    pub behind : ℕ
    pub fine : fresh ≡ false → found tree ≡ none behind
    pub words : ws ≡ load_words fresh kinds ends (start_from fresh n places) (start_from fresh n marks) 0 n ws₀

  -- only a tree that does not start fresh can have a bad cell
  abbrev pub Scans : Bool → List ℕ → List ℕ → Scanned → Type 0
  Scans fresh ws₀ ws (Err (fault.Table p)) = table kinds ns limits ≡ bad p
  Scans fresh ws₀ ws (Err (fault.Cell p)) = (fresh ≡ false) × Faulty p
  Scans fresh ws₀ ws (Ok n) = Accepted fresh ws₀ ws n

-- the same of a table and cells that are lent
module _ (t : Table) (c : Cells) where
  abbrev pub PassesIn : Bool → List ℕ → List ℕ → ℕ → ℕ → ℕ → Type 0
  PassesIn mayEnd ws₀ ws from to r = Passes t.kinds.now t.ns.now t.limits.now c.times.now c.places.now c.marks.now mayEnd ws₀ ws from to r

  abbrev pub LentIn : ℕ → Type 0
  LentIn n = Lent t.kinds.now t.ns.now t.limits.now c.times.now c.places.now c.marks.now n

  abbrev pub ScansIn : Bool → List ℕ → List ℕ → Scanned → Type 0
  ScansIn fresh ws₀ ws r = Scans t.kinds.now t.ns.now t.limits.now c.times.now c.places.now c.marks.now fresh ws₀ ws r
