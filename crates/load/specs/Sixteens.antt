-- Groups of sixteen nodes, from place 1 on, that are plain Waits without a mark.
use Rattle.std.specs.Prelude.{◌≡◌, Bool, true, false, List, ℕ, ◌+◌, ◌*◌, ◌≤◌, ◌<◌, Float, length, get_or}
use Rattle.std.specs.Float.{nan}
use Rattle.rules.specs.Table.{cleaned, number}
use Rattle.rules.specs.Cells.{elapsed}
use Rattle.lent.specs.declared.table.Table.{Table}
use Rattle.lent.specs.declared.cells.Cells.{Cells}

-- a Wait without place and mark, as far as it is not a matter of limit and time
pub record Bare (kinds ns places marks : List ℕ) (i : ℕ) : Type 0 where
  pub kind : get_or kinds i 0 ≡ 0
  pub leaf : get_or ns i 0 ≡ 0
  pub at_start : get_or places i 0 ≡ 0
  pub unmarked : get_or marks i 0 ≡ 0

-- a Wait's limit, and the time of one that has no mark
pub record Timed (limit time : Float) : Type 0 where
  pub limits : number (cleaned limit) ≡ true
  pub waited : elapsed time ≡ true

-- of each group that is said to be plain: its nodes are Waits without place and mark, and their limits and times are good
pub record Groups (kinds ns : List ℕ) (limits times : List Float) (places marks : List ℕ) (plain : List Bool) : Type 0 where
  pub long : length plain ≡ 16
  pub bare : (b : ℕ) → b < 16 → get_or plain b false ≡ true → (k : ℕ) → k < 16 → Bare kinds ns places marks (16 * b + 1 + k)
  pub timed : (b : ℕ) → b < 16 → get_or plain b false ≡ true → (k : ℕ) → k < 16 → Timed (get_or limits (16 * b + 1 + k) nan) (get_or times (16 * b + 1 + k) nan)

abbrev pub GroupsIn : Table → Cells → List Bool → Type 0
GroupsIn t c plain = Groups t.kinds.now t.ns.now t.limits.now c.times.now c.places.now c.marks.now plain

-- the n words from `at` on are 0; all others stay
pub record Cleared (ws₀ ws : List ℕ) (at n : ℕ) : Type 0 where
  pub long : length ws ≡ 260
  pub zeros : (k : ℕ) → k < n → get_or ws (at + k) 0 ≡ 0
  pub before : (i : ℕ) → i < at → get_or ws i 0 ≡ get_or ws₀ i 0
  pub behind : (i : ℕ) → at + n ≤ i → get_or ws i 0 ≡ get_or ws₀ i 0
