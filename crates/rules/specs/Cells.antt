-- The cells of a tree as runs in preorder, and which cell is bad: document 01, "The tree and its cells".
use Rattle.std.specs.Prelude.{ℕ, suc, ◌-◌, Bool, false, cond, not, ◌&&◌, ◌||◌, List, ◌==◌, nat_le, Float}
use Rattle.std.specs.Float.{nan, inf, fin}
use Rattle.rules.specs.declared.behavior.Kind.{Kind}
use Rattle.rules.specs.declared.behavior.Kind.TheVariants.{Wait, WaitForever, Action, Invert, AlwaysSucceed, Timeout, Select, If, Sequence}
use Rattle.rules.specs.declared.behavior.Kind.TheVariants.{MemorylessSequence, MemorylessSelector, While, WhileAll, WhenAll, WhenAny, After, Race}
use Rattle.rules.specs.Kinds.{timed, marks_children}
use Rattle.rules.specs.Tree.{Cell, Tree, node, Forest, [], ◌◂◌}
use Rattle.rules.specs.Table.{zero_bits}

-- a cell as it is lent; no tick goes on
abbrev pub cell_of : Float → ℕ → ℕ → Cell
cell_of x p m = record { time = x; place = p; mark = m; anew = false }

-- a run of cells, lent as three slices, is as long as the shortest
unfoldable pub cells : List Float → List ℕ → List ℕ → List Cell
cells List.[] ps ms = List.[]
cells (List.◌∷◌ x xs) List.[] ms = List.[]
cells (List.◌∷◌ x xs) (List.◌∷◌ p ps) List.[] = List.[]
cells (List.◌∷◌ x xs) (List.◌∷◌ p ps) (List.◌∷◌ m ms) = List.◌∷◌ (cell_of x p m) (cells xs ps ms)

-- the tree with the cells of a run, and the cells behind it; the board is cleared, as each tick clears it
unfoldable mutual
  pub with_cells : Tree → List Cell → Tree × List Cell
  with_cells (node k n l c b ts) List.[] = (node k n l c 0 ts, List.[])
  with_cells (node k n l c b ts) (List.◌∷◌ c' cs) = let r = with_cells_all ts cs in (node k n l c' 0 r.0, r.1)

  pub with_cells_all : Forest → List Cell → Forest × List Cell
  with_cells_all [] cs = ([], cs)
  with_cells_all (t ◂ ts) cs = let r = with_cells t cs in let rs = with_cells_all ts r.1 in (r.0 ◂ rs.0, rs.1)

-- a field of each node in preorder, before `behind`
module _ {A : Type 0} (field : Cell → ℕ → A) where
  unfoldable mutual
    pub column : Tree → List A → List A
    column (node k n l c b ts) behind = List.◌∷◌ (field c b) (columns ts behind)

    pub columns : Forest → List A → List A
    columns [] behind = behind
    columns (t ◂ ts) behind = column t (columns ts behind)

abbrev pub time_of : Cell → ℕ → Float
time_of c b = c.time

abbrev pub place_of : Cell → ℕ → ℕ
place_of c b = c.place

abbrev pub mark_of : Cell → ℕ → ℕ
mark_of c b = c.mark

abbrev pub anew_of : Cell → ℕ → Bool
anew_of c b = c.anew

abbrev pub board_of : Cell → ℕ → ℕ
board_of c b = b

-- elapsed: "no NaN, sign bit clear, +infinity allowed"
abbrev pub elapsed : Float → Bool
elapsed nan = false
elapsed (inf s) = not s
elapsed (fin s m e) = not s

-- the largest place that a kind's cell may have
abbrev pub last_place : Kind → ℕ → ℕ
last_place Wait n = 0
last_place WaitForever n = 0
last_place Action n = 0
last_place Invert n = 0
last_place AlwaysSucceed n = 0
last_place Timeout n = 0
last_place Select n = n
last_place If n = 2
last_place Sequence n = n
last_place MemorylessSequence n = 0
last_place MemorylessSelector n = 0
last_place While n = n - 2
last_place WhileAll n = n - 1
last_place WhenAll n = 0
last_place WhenAny n = 0
last_place After n = n
last_place Race n = 0

abbrev pub freshly : Cell → Bool
freshly c = zero_bits c.time && c.place == 0 && c.mark == 0

-- a cell in use: no mark, or the mark of a child that may have ended, whose time and place are zero
abbrev pub in_use : Bool → Kind → ℕ → Cell → Bool
in_use mayEnd k n c = cond (c.mark == 0)
    (cond (timed k) (elapsed c.time) (zero_bits c.time) && nat_le c.place (last_place k n))
    (c.mark == 1 && mayEnd && zero_bits c.time && c.place == 0)

-- below a child that has ended, all cells are fresh
unfoldable pub cell_allowed : Bool → Bool → Kind → ℕ → Cell → Bool
cell_allowed ended mayEnd k n c = cond ended (freshly c) (in_use mayEnd k n c)

abbrev pub ended_in : Cell → Bool
ended_in c = c.mark == 1

-- the smallest place of a bad cell, or none: then the place behind the tree
pub data Found : Type 0 where
  faulty : ℕ → Found
  none : ℕ → Found

unfoldable mutual
  unfolding cell_allowed

  pub bad_cell : Bool → Bool → ℕ → Tree → Found
  bad_cell ended mayEnd at (node k n l c b ts) = cond (cell_allowed ended mayEnd k n c)
      (bad_cells (ended || ended_in c) (marks_children k) (suc at) ts)
      (faulty at)

  pub bad_cells : Bool → Bool → ℕ → Forest → Found
  bad_cells ended mayEnd at [] = none at
  bad_cells ended mayEnd at (t ◂ ts) = elim (bad_cell ended mayEnd at t) [
    | faulty p ↦ faulty p
    | none at' ↦ bad_cells ended mayEnd at' ts
  ]
