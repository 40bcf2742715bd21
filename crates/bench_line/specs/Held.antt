-- The state between two lines as the code holds it, and what its functions promise by it.
use Rattle.std.specs.Prelude.{◌≡◌, ℕ, Bool, true, false, List, [], ◌∷◌, ◌++◌, length, take, Float, from_bits}
use Rattle.std.specs.Float.{binary64}
use Rattle.frames.specs.declared.Call.{Call}
use Rattle.frames.specs.declared.Call.TheVariants.{Tick, Restart}
use Rattle.frames.specs.declared.Event.{Event}
use Rattle.frames.specs.Line.{laid}
use Rattle.rules.specs.declared.answer.Answer.{Answer}
use Rattle.rules.specs.Call.{Run}
use Rattle.bench_line.specs.declared.held.Held.{Held}
use Rattle.bench_line.specs.declared.held.Rows as held
use Rattle.bench_line.specs.declared.held.Answered.{Answered}
use Rattle.bench_line.specs.Bench.{Line, rows, State, fresh_run, start, served, step}

-- the table is the first nodes of its runs
abbrev pub state_with : Held → List ℕ → List ℕ → List Float → Run → State
state_with h kinds ns limits c = record {
  table = rows (take h.nodes kinds) (take h.nodes ns) (take h.nodes limits);
  cells' = c;
  record' = h.record;
  begun = h.begun;
  lines = h.lines;
  on = h.on;
}

abbrev pub state_of : Held → held.Rows → Run → State
state_of h t c = state_with h t.kinds.now t.ns.now t.limits.now c

-- nothing has come yet, whatever the runs hold
pub record Starts (h : Held) : Type 0 where
  pub none : h.nodes ≡ 0
  pub state : (kinds ns : List ℕ) (limits : List Float) → state_with h kinds ns limits fresh_run ≡ start

-- the slices that are lent stay the same ones
abbrev pub SameRows : held.Rows → held.Rows → Type 0
SameRows r s = (s.kinds.ghost_name ≡ r.kinds.ghost_name) × (s.ns.ghost_name ≡ r.ns.ghost_name) × (s.limits.ghost_name ≡ r.limits.ghost_name)

abbrev pub SameAnswered : Answered → Answered → Type 0
SameAnswered a b = (b.statuses.ghost_name ≡ a.statuses.ghost_name) × (b.patterns.ghost_name ≡ a.patterns.ghost_name)
    × (b.leftovers.ghost_name ≡ a.leftovers.ghost_name)

abbrev pub restarts_of : Call → Bool
restarts_of Tick = false
restarts_of Restart = true

-- one row more
abbrev pub with_row : State → ℕ → ℕ → ℕ → State
with_row s kind n limit = record {
  table = rows (s.table.kinds ++ (kind ∷ [])) (s.table.ns ++ (n ∷ [])) (s.table.limits ++ (from_bits binary64 limit ∷ []));
  cells' = s.cells';
  record' = s.record';
  begun = s.begun;
  lines = s.lines;
  on = s.on;
}

-- the tree as a call leaves it, and the call's answer
pub record Serves (s : State) (c : Call) (e : Event) (fuel : ℕ) (statuses : List ℕ) (leftovers : List Float) (answer : Answer) (s' : State) : Type 0 where
  pub answer_is : (served s c e fuel statuses leftovers).answer ≡ answer
  pub state : s' ≡ record {
    table = s.table;
    cells' = (served s c e fuel statuses leftovers).cells';
    record' = (served s c e fuel statuses leftovers).record';
    begun = true;
    lines = s.lines;
    on = s.on;
  }

-- a line in front of what a room held, and how long it is
pub record Prints (l : Line) (room : List ℕ) (n : ℕ) (room' : List ℕ) : Type 0 where
  pub count : n ≡ length l
  pub bytes : room' ≡ laid l room

-- the state after a line, and what it prints
pub record Steps (s : State) (l : Line) (room : List ℕ) (n : ℕ) (s' : State) (room' : List ℕ) : Type 0 where
  pub state : s' ≡ (step s l).0
  pub prints : Prints (step s l).1 room n room'
