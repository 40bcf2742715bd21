-- What the checks answer, in the rules' terms.
use Rattle.std.specs.Prelude.{◌≡◌, cond, List, ℕ, ◌≤◌, Float, length, get_or, Option, Some, None, Result, Ok, Err}
use Rattle.rules.specs.Kinds.{kind_of, children}
use Rattle.rules.specs.Tree.{Tree, size, depth}
use Rattle.rules.specs.Table.{cleaned, number, row_allowed, Table, good, bad, rows, table_within}
use Rattle.rules.specs.Cells.{Found, faulty, none}
use Rattle.rules.specs.Call.{bad_answer}
use Rattle.tables.specs.declared.table.BadTable.{BadTable}
use Rattle.tables.specs.At.{At}

-- the number to use
abbrev pub number_of : Float → Option Float
number_of x = cond (number (cleaned x)) (Some (cleaned x)) None

abbrev pub answered_of : Found → Option ℕ
answered_of (faulty i) = Some i
answered_of (none i) = None

unfoldable pub first_bad : List ℕ → List Float → Option ℕ
unfolding bad_answer
first_bad ss ls = answered_of (bad_answer 0 ss ls)

-- a node's children
abbrev pub row_of : ℕ → ℕ → Float → Option ℕ
row_of k n l = cond (row_allowed k n l) (Some (children (kind_of k) n)) None

abbrev pub checked_of : Table → Result ℕ BadTable
checked_of (good t) = Ok (size t)
checked_of (bad p) = Err (record { 0 = p })

-- a tree of at most so many levels that the slices hold, and nothing else; `ends` has each subtree's end
pub record Standing (deep : ℕ) (kinds ns : List ℕ) (limits : List Float) (ends : List ℕ) (t : Tree) : Type 0 where
  pub nodes : length (rows kinds ns limits) ≡ size t
  pub few : size t ≤ 256
  pub levels : depth t ≤ deep
  pub placed : At kinds ns limits ends 0 t

abbrev pub Laid : ℕ → List ℕ → List ℕ → List Float → List ℕ → Table → Type 0
Laid deep kinds ns limits ends (good t) = Standing deep kinds ns limits ends t
Laid deep kinds ns limits ends (bad p) = Unit {0}

abbrev pub up_to : Result ℕ BadTable → ℕ
up_to (Ok n) = n
up_to (Err e) = e.0

-- what the check of a table that may be so deep leaves in `ends`, which held ends₀
pub record Tabled (deep : ℕ) (kinds ns : List ℕ) (limits : List Float) (ends₀ ends : List ℕ) (r : Result ℕ BadTable) : Type 0 where
  pub said : r ≡ checked_of (table_within deep kinds ns limits)
  pub tree : Laid deep kinds ns limits ends (table_within deep kinds ns limits)
  pub long : length ends ≡ 256
  pub stays : (i : ℕ) → up_to r ≤ i → get_or ends i 0 ≡ get_or ends₀ i 0
