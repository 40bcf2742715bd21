-- A tick and a restart without recursion: document 02, request 5. They keep their open nodes in lent room, and are the calls with recursion in all else.
use Rattle.std.specs.Prelude.{ℕ, min, Bool, true, false, cond, not, ◌&&◌, List, ◌++◌, length, drop, replicate, nat_lt, Float}
use Rattle.std.specs.Float.{Format}
use Rattle.rules.specs.declared.answer.Answer.{Answer}
use Rattle.rules.specs.declared.answer.Answer.TheVariants.{Ticked, Asked, Finished, BadTable, TooShort, BadTime, BadAnswer, OutOfFuel, BadCell, NoRoom}
use Rattle.rules.specs.Tree.{zero_time, size}
use Rattle.rules.specs.Table.{most_deep, good, bad, table}
use Rattle.rules.specs.Call.{Given, Left, too_short, refused, tick_call, restart_call}

-- "lent room, one entry for each level": parallel slices
pub record Levels : Type 0 where
  pub opens : List ℕ
  pub counts : List ℕ
  pub wholes : List Float
  pub rests : List Float

abbrev pub levels : List ℕ → List ℕ → List Float → List Float → Levels
levels os cs ws rs = record { opens = os; counts = cs; wholes = ws; rests = rs }

-- how many entries it has: as many as the shortest
abbrev pub entries : Levels → ℕ
entries r = min (min (length r.opens) (length r.counts)) (min (length r.wholes) (length r.rests))

-- "all 16 entries are zero"; entries behind the 16th are never touched
abbrev pub cleared : Levels → Levels
cleared r = levels
    (replicate most_deep 0 ++ drop most_deep r.opens)
    (replicate most_deep 0 ++ drop most_deep r.counts)
    (replicate most_deep zero_time ++ drop most_deep r.wholes)
    (replicate most_deep zero_time ++ drop most_deep r.rests)

-- what is left: all that the call with recursion leaves, and the room
pub record FlatLeft : Type 0 where
  pub left' : Left
  pub levels' : Levels

abbrev pub flat_left : Left → Levels → FlatLeft
flat_left l r = record { left' = l; levels' = r }

-- the answers of a walk: 0, 1 and 7
abbrev pub of_walk : Answer → Bool
of_walk (Ticked s r v u) = true
of_walk (Asked n x) = true
of_walk OutOfFuel = true
of_walk Finished = false
of_walk (BadTable p) = false
of_walk TooShort = false
of_walk BadTime = false
of_walk (BadAnswer i) = false
of_walk (BadCell p) = false
of_walk NoRoom = false

-- "13 when the room has fewer than 16 entries, after 4 and before 9"
abbrev pub no_room : Given → Levels → Bool
no_room g r = elim (table g.kinds g.ns g.limits) [
  | bad p ↦ false
  | good t₀ ↦ not (too_short g (size t₀)) && nat_lt (entries r) most_deep
]

-- a call without recursion: all as the call with it, but for the room
abbrev pub with_room : (Given → Left) → Given → Levels → FlatLeft
with_room call g r = cond (no_room g r)
    (flat_left (refused g NoRoom) r)
    (let l = call g in flat_left l (cond (of_walk l.answer) (cleared r) r))

unfoldable pub tick_flat : Format → Given → Levels → FlatLeft
unfolding table tick_call
tick_flat F g r = with_room (tick_call F) g r

unfoldable pub restart_flat : Format → Given → Levels → FlatLeft
unfolding table restart_call
restart_flat F g r = with_room (restart_call F) g r
