-- What the checks before a walk leave of a call: a refusal, or the walk. A restart is a call whose walk starts fresh.
use Rattle.std.specs.Prelude.{◌≡◌, Bool, true, false, cond, not, ◌||◌, List, ℕ, ◌≤◌, leb, Float, length, replicate, Option, Some, None, Result, Ok, Err}
use Rattle.std.specs.Float.{Format, binary64}
use Rattle.rules.specs.declared.answer.Answer.{Answer}
use Rattle.rules.specs.declared.answer.Answer.TheVariants.{BadTable, TooShort, BadCell, NoRoom}
use Rattle.rules.specs.declared.event.Event.{Event}
use Rattle.rules.specs.Tree.{Cell, fresh_cell, Tree, size, depth}
use Rattle.rules.specs.Outcome.{world, Out}
use Rattle.rules.specs.State.{tick}
use Rattle.rules.specs.Table.{most_deep, Table, good, bad, rows, table}
use Rattle.rules.specs.Cells.{cells, with_cells, none, bad_cell}
use Rattle.rules.specs.Call.{Run, Given, Left, run_length, answers, cleaned_event, time_allowed, refused, walked, tick_call, restart_call}
use Rattle.rules.specs.Levels.{Levels, FlatLeft, flat_left, entries, with_room}
use Rattle.laws.specs.Memory.{held}
use Rattle.laws.specs.Zeros.{with_event}
use Rattle.tables.specs.At.{At}
use Rattle.cells.specs.Long.{Long}
use Rattle.load.specs.Load.{load_words}
use Rattle.load.specs.Scans.{start_from}
use Rattle.load.specs.declared.found.Fault.{Fault}
use Rattle.load.specs.declared.found.Fault.TheVariants as fault

-- the calls of this build: their times are f64
unfoldable pub call_of : Bool → Given → Left
unfolding tick_call restart_call
call_of true g = restart_call binary64 g
call_of false g = tick_call binary64 g

-- a call with recursion leaves the room as it is
abbrev pub whole_call : Bool → Bool → Given → Levels → FlatLeft
whole_call flat fresh g r = cond flat (with_room (call_of fresh) g r) (flat_left (call_of fresh g) r)

-- the entries at hand: a walk with recursion needs no room, and finds enough
abbrev pub entries_of : Bool → Levels → ℕ
entries_of flat r = cond flat (entries r) most_deep

-- the cells that a walk starts from: n fresh ones, or those at entry; and the tree that it starts from
abbrev pub start_of : Bool → ℕ → Run → List Cell
start_of true n c = replicate n fresh_cell
start_of false n c = cells c.times c.places c.marks

abbrev pub begun : Bool → ℕ → Tree → Run → Tree
begun fresh n t c = (with_cells t (start_of fresh n c)).0

-- the walk that starts from the tree t, with the event as it is
abbrev pub walk_with : Format → Given → Tree → Out Tree
walk_with F g t = tick F most_deep t g.event (world g.fuel (answers g.statuses g.leftovers))

-- the tree of n nodes in the table, whose walk is all that is left of the call, and its words
pub record Due (fresh : Bool) (g : Given) (ws : List ℕ) (n : ℕ) : Type 0 where
  pub tree : Tree
  pub is : table g.kinds g.ns g.limits ≡ good tree
  pub sized : size tree ≡ n
  pub few : n ≤ 256
  pub levels : depth tree ≤ most_deep
  pub ends : List ℕ
  pub stands : At g.kinds g.ns g.limits ends 0 tree
  pub words : ws ≡ load_words fresh g.kinds ends (start_from fresh n g.cells'.places) (start_from fresh n g.cells'.marks) 0 n (replicate 260 0)
  pub behind : ℕ
  pub fine : bad_cell false false 0 (begun fresh n tree g.cells') ≡ none behind
  pub cells_long : Long n g.cells'
  pub spare_long : Long n g.spare
  pub board_long : n ≤ length g.board
  pub walks : call_of fresh g ≡ walked g (held tree g.cells') (walk_with binary64 g (begun fresh n tree g.cells'))

-- cells, spare or board have fewer than n entries
abbrev pub short_for : ℕ → Run → Run → List ℕ → Bool
short_for n c s b = not (leb n (run_length c)) || not (leb n (run_length s)) || not (leb n (length b))

-- 3 or 4, where the memory that is lent is shorter than the table
abbrev pub unmatched_as : Table → Answer
unmatched_as (bad p) = BadTable p
unmatched_as (good t) = TooShort

-- that answer; and a table's tree has a node in each row
pub record Unmatched (kinds ns : List ℕ) (limits : List Float) (a : Answer) : Type 0 where
  pub says : a ≡ unmatched_as (table kinds ns limits)
  pub sized : (t : Tree) → table kinds ns limits ≡ good t → size t ≡ length (rows kinds ns limits)

-- the event to use
abbrev pub timed_of : Event → Option Event
timed_of e = cond (time_allowed e) (Some (cleaned_event e)) None

-- what is refused of a table or a cell; a bad cell is told only of k entries or more than a walk needs
abbrev pub refused_as : Fault → ℕ → Answer
refused_as (fault.Table p) k = BadTable p
refused_as (fault.Cell p) k = cond (leb most_deep k) (BadCell p) NoRoom

-- a refusal leaves the room as it is, of so many entries at hand
abbrev pub Refuses : Bool → ℕ → Given → Answer → Type 0
Refuses fresh k g a = (flat : Bool) (r : Levels) → entries_of flat r ≡ k → whole_call flat fresh g r ≡ flat_left (refused g a) r

-- a refusal; or there is room, and the call is that with the event to use, of which the walk is left
abbrev pub Passed : Bool → ℕ → Given → List ℕ → Result (ℕ × Event) Answer → Type 0
Passed fresh k g ws (Err a) = Refuses fresh k g a
Passed fresh k g ws (Ok (n, e)) = (most_deep ≤ k) × (call_of fresh (with_event e g) ≡ call_of fresh g) × Due fresh (with_event e g) ws n
