-- The bench program as a function of its input. Document 01, "The bench program".
use Rattle.std.specs.Prelude.{ℕ, ◌+◌, ◌%◌, Bool, true, false, cond, List, [], ◌∷◌, ◌++◌, map, length, replicate, ◌==◌, from_bits, Float}
use Rattle.std.specs.Float.{binary64}
use Rattle.frames.specs.declared.Call.{Call}
use Rattle.frames.specs.declared.Call.TheVariants.{Tick, Restart}
use Rattle.frames.specs.declared.Event.{Event}
use Rattle.frames.specs.declared.Event.TheVariants.{Other, Update}
use Rattle.frames.specs.declared.Frame.{Frame}
use Rattle.frames.specs.declared.Frame.TheVariants.{Malformed}
use Rattle.frames.specs.declared.order.Input.{Input}
use Rattle.frames.specs.declared.order.Input.TheVariants as inputs
use Rattle.frames.specs.Line.{line}
use Rattle.frames.specs.Find.{found, statuses_in, leftovers_in}
use Rattle.frames.specs.Order.{admitted}
use Rattle.rules.specs.declared.answer.Record.{Record}
use Rattle.rules.specs.declared.event.Event as events
use Rattle.rules.specs.declared.event.Event.TheVariants as happened
use Rattle.rules.specs.Tree.{zero_time}
use Rattle.rules.specs.Call.{Run, run, Given, Left, given, tick_call, restart_call}
use Rattle.bench_line.specs.Said.{said_of}

-- its bytes, with the LF
abbrev pub Line : Type 0
Line = List ℕ

-- ---- what stands between two lines
-- the table so far: kind, n and limit of each node line
pub record Rows : Type 0 where
  pub kinds : List ℕ
  pub ns : List ℕ
  pub limits : List Float

abbrev pub rows : List ℕ → List ℕ → List Float → Rows
rows ks ns ls = record { kinds = ks; ns = ns; limits = ls }

-- with it the tree's cells and record, whether a tick or a restart came, how many lines came modulo 65536, and whether to go on
pub record State : Type 0 where
  pub table : Rows
  pub cells' : Run
  pub record' : Record
  pub begun : Bool
  pub lines : ℕ
  pub on : Bool

-- cells for every table, all fresh; a board beside them
unfoldable pub fresh_run : Run
fresh_run = run (replicate 257 zero_time) (replicate 257 0) (replicate 257 0) (replicate 257 0)

unfoldable pub fresh_board : List ℕ
fresh_board = replicate 257 0

unfoldable pub start : State
unfolding fresh_run
start = record {
  table = rows [] [] [];
  cells' = fresh_run;
  record' = record { finished = false; ticks = 0 };
  begun = false;
  lines = 0;
  on = true;
}

-- ---- what a line asks for
abbrev pub event_of : Event → events.Event
event_of (Other minus) = happened.Other
event_of (Update dt) = happened.Update (from_bits binary64 dt)

abbrev pub times : List ℕ → List Float
times bits = map (from_bits binary64) bits

abbrev pub call_of : Call → Given → Left
call_of Tick g = tick_call binary64 g
call_of Restart g = restart_call binary64 g

-- a tick or a restart of the tree; nothing is printed of its spare and board, so each call is lent new ones
unfoldable pub served : State → Call → Event → ℕ → List ℕ → List Float → Left
unfolding fresh_run fresh_board
served s c e fuel statuses leftovers =
    let t = s.table in
    call_of c (given s.record' t.kinds t.ns t.limits s.cells' fresh_run fresh_board (event_of e) fuel statuses leftovers)

-- ---- one line
-- "its line number from 1, modulo 65536", after so many lines
abbrev pub line_number : ℕ → ℕ
line_number lines = (lines + 1) % 65536

abbrev pub printed : Frame → Line
printed f = line f [] []

-- a node line is one row more
abbrev pub with_node : State → ℕ → ℕ → ℕ → State
with_node s kind n limit = record {
  table = rows (s.table.kinds ++ (kind ∷ [])) (s.table.ns ++ (n ∷ [])) (s.table.limits ++ (from_bits binary64 limit ∷ []));
  cells' = s.cells';
  record' = s.record';
  begun = s.begun;
  lines = line_number s.lines;
  on = true;
}

-- a tick or a restart leaves the tree as the call says; no node line may come from here on
abbrev pub with_tree : State → Record → Run → State
with_tree s r c = record {
  table = s.table;
  cells' = c;
  record' = r;
  begun = true;
  lines = line_number s.lines;
  on = true;
}

-- behind a malformed line "it stops"
abbrev pub stopped : State → State
stopped s = record {
  table = s.table;
  cells' = s.cells';
  record' = s.record';
  begun = s.begun;
  lines = line_number s.lines;
  on = false;
}

-- the state after an input, and what is printed for it
abbrev pub does : State → List ℕ → List ℕ → Input → State × Line
does s statuses leftovers (inputs.Node kind n limit) = (with_node s kind n limit, [])
does s statuses leftovers (inputs.Asked c e fuel count) =
    let left = served s c e fuel statuses (times leftovers) in
    (with_tree s left.record' left.cells', printed (said_of c left.answer))
does s statuses leftovers inputs.Malformed = (stopped s, printed (Malformed (line_number s.lines)))

-- a line is the one of a frame that may come now, or malformed
unfoldable pub step : State → Line → State × Line
unfolding found statuses_in leftovers_in served
step s l = does s (statuses_in l) (leftovers_in l) (admitted (length s.table.kinds) s.begun (found l))

-- ---- all lines, one after another, up to the end or the first malformed line
unfoldable pub after : State → List Line → List ℕ
unfolding step
after s [] = []
after s (l ∷ ls) = cond s.on (let r = step s l in r.1 ++ after r.0 ls) []

-- a line goes up to its LF, which is byte 10; what is left without one is a line too, and malformed
abbrev pub onto : ℕ → List Line → List Line
onto b [] = (b ∷ []) ∷ []
onto b (l ∷ ls) = (b ∷ l) ∷ ls

unfoldable pub cut : List ℕ → List Line
cut [] = []
cut (b ∷ bs) = cond (b == 10) ((b ∷ []) ∷ cut bs) (onto b (cut bs))

-- what is printed from a state on for the bytes that are still to be read, and for a whole input
unfoldable pub from : State → List ℕ → List ℕ
unfolding after cut
from s input = after s (cut input)

unfoldable pub bench : List ℕ → List ℕ
unfolding from start
bench input = from start input
