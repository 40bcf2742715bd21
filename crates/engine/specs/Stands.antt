-- The nodes that are open around a visit, as the room holds them.
use Rattle.std.specs.Prelude.{ℕ, zero, suc, ◌+◌, ◌-◌, ◌*◌, ◌/◌, ◌%◌, ◌≤◌, ◌<◌, Float, get_or, set}
use Rattle.std.specs.Float.{Format}
use Rattle.rules.specs.Tree.{zero_time}
use Rattle.rules.specs.declared.behavior.Kind.{Kind}
use Rattle.rules.specs.Kinds.{code, kind_of}
use Rattle.rules.specs.Levels.{Levels, levels, entries}
use Rattle.work.specs.Flat.{Out, Lent, seen, visiting}
use Rattle.turns.specs.declared.level.Level.{Level}
use Rattle.turns.specs.Levels.{Sound, resumed_by}

-- kind, places and index in one number: eight bits for the kind, nine for each other, from the low end
abbrev pub packed_in : Level → ℕ
packed_in e = code e.kind + 256 * (e.node + 512 * (e.child + 512 * (e.next + 512 * (e.stop + 512 * e.index))))

abbrev pub kind_as : ℕ → Kind
kind_as x = kind_of (x % 256)

abbrev pub node_as : ℕ → ℕ
node_as x = x / 256 % 512

abbrev pub unpacked_from : ℕ → ℕ → Float → Float → Level
unpacked_from x c w r = record {
  kind = kind_as x;
  node = node_as x;
  child = x / 256 / 512 % 512;
  next = x / 256 / 512 / 512 % 512;
  stop = x / 256 / 512 / 512 / 512 % 512;
  index = x / 256 / 512 / 512 / 512 / 512;
  count = c;
  whole = w;
  rest = r;
}

-- the entry of a level, and a level put into its entry
unfoldable pub level_at : Levels → ℕ → Level
level_at r l = unpacked_from (get_or r.opens l 0) (get_or r.counts l 0) (get_or r.wholes l zero_time) (get_or r.rests l zero_time)

unfoldable pub put_at : Levels → ℕ → Level → Levels
put_at r l e = levels (set r.opens l (packed_in e)) (set r.counts l e.count) (set r.wholes l e.whole) (set r.rests l e.rest)

module _ (F : Format) (T : Lent) where
  -- the open node of number n, counted from the root, takes an outcome of its child and gives its own
  abbrev pub above : ℕ → Level → Out → Out
  above n e o = seen e.node (resumed_by F T (visiting F T (15 - n)) e o)

  -- up through the nodes in the first n entries
  unfoldable pub through : ℕ → Levels → Out → Out
  through zero r o = o
  through (suc n) r o = through n r (above n (level_at r n) o)

  -- so many nodes are open, and the innermost stands beside the room
  abbrev pub around : ℕ → Level → Levels → Out → Out
  around zero e r o = o
  around (suc n) e r o = through n r (above n e o)

-- a decorator that is open: its only child is due
abbrev pub decorator_level : Kind → ℕ → Float → Level
decorator_level k p dt = record { kind = k; node = p; child = p + 1; next = 0; stop = 0; index = 0; count = 0; whole = dt; rest = dt }

-- the nodes in the first n entries have a word
abbrev pub Placed : ℕ → Levels → Type 0
Placed n r = (j : ℕ) → j < n → node_as (get_or r.opens j 0) < 256

-- so many open nodes fit into the room
pub record Held (n : ℕ) (e : Level) (r : Levels) : Type 0 where
  pub few : n ≤ 16
  pub due_in : e.child < 256
  pub inner : 0 < n → Sound e
  pub outer : (j : ℕ) → j < n - 1 → Sound (level_at r j)
  pub room : 16 ≤ entries r
