-- The whole call: what a tick and a restart answer and what they leave, refusals in their order. Document 01, "What a call can say".
use Rattle.std.specs.Prelude.{ℕ, suc, ◌+◌, ◌-◌, ◌%◌, ◌^◌, min, Bool, true, false, cond, not, ◌||◌, List, ◌++◌, length, take, drop, nat_le, Float}
use Rattle.std.specs.Float.{Format}
use Rattle.rules.specs.declared.status.Status.{Status}
use Rattle.rules.specs.declared.status.Status.TheVariants.{Running, Success, Failure}
use Rattle.rules.specs.declared.event.Event.{Event}
use Rattle.rules.specs.declared.event.Event.TheVariants.{Update, Other}
use Rattle.rules.specs.declared.answer.Answer.{Answer}
use Rattle.rules.specs.declared.answer.Answer.TheVariants.{Ticked, Asked, Finished, BadTable, TooShort, BadTime, BadAnswer, OutOfFuel, BadCell, NoRoom}
use Rattle.rules.specs.declared.answer.Record.{Record}
use Rattle.rules.specs.declared.answer.Said.{Said}
use Rattle.rules.specs.Tree.{zero_time, Tree, fresh, size}
use Rattle.rules.specs.Outcome.{world, Out, done, asks, short, byte, status_of}
use Rattle.rules.specs.State.{tick}
use Rattle.rules.specs.Table.{most_deep, cleaned, number, good, bad, table}
use Rattle.rules.specs.Cells.{cells, with_cells, column, time_of, place_of, mark_of, anew_of, board_of, Found, faulty, none, bad_cell}
use Rattle.rules.specs.Board.{shown_as, shown}

-- a run of cells, as it is lent: times, places, marks, and for each cell the number of the tick that last made it fresh
pub record Run : Type 0 where
  pub times : List Float
  pub places : List ℕ
  pub marks : List ℕ
  pub sinces : List ℕ

abbrev pub run : List Float → List ℕ → List ℕ → List ℕ → Run
run ts ps ms ss = record { times = ts; places = ps; marks = ms; sinces = ss }

-- how many cells a run has: "as long as the shortest"
abbrev pub run_length : Run → ℕ
run_length r = min (length (cells r.times r.places r.marks)) (length r.sinces)

-- what a tick or a restart is given
pub record Given : Type 0 where
  pub kinds : List ℕ
  pub ns : List ℕ
  pub limits : List Float
  pub record' : Record
  pub cells' : Run
  pub spare : Run
  pub board : List ℕ
  pub event : Event
  pub fuel : ℕ
  pub statuses : List ℕ
  pub leftovers : List Float

abbrev pub given : Record → List ℕ → List ℕ → List Float → Run → Run → List ℕ → Event → ℕ → List ℕ → List Float → Given
given r ks ns ls c s b e f ss xs = record { kinds = ks; ns = ns; limits = ls; record' = r; cells' = c; spare = s; board = b; event = e; fuel = f; statuses = ss; leftovers = xs }

-- what it leaves
pub record Left : Type 0 where
  pub answer : Answer
  pub record' : Record
  pub cells' : Run
  pub spare : Run
  pub board : List ℕ

abbrev pub left : Answer → Record → Run → Run → List ℕ → Left
left a r c s b = record { answer = a; record' = r; cells' = c; spare = s; board = b }

-- ---- the answers that are lent
unfoldable pub answers : List ℕ → List Float → List (Status × Float)
answers List.[] ls = List.[]
answers (List.◌∷◌ s ss) List.[] = List.[]
answers (List.◌∷◌ s ss) (List.◌∷◌ l ls) = List.◌∷◌ (status_of s, cleaned l) (answers ss ls)

abbrev pub answer_allowed : ℕ → Float → Bool
answer_allowed s l = cond (nat_le 1 s) (cond (nat_le s 3) (number (cleaned l)) false) false

-- the first answer with a status other than 1 to 3, or a leftover that is no number; or none
unfoldable pub bad_answer : ℕ → List ℕ → List Float → Found
bad_answer i List.[] ls = none i
bad_answer i (List.◌∷◌ s ss) List.[] = none i
bad_answer i (List.◌∷◌ s ss) (List.◌∷◌ l ls) = cond (answer_allowed s l) (bad_answer (suc i) ss ls) (faulty i)

-- the event that a walk gets
abbrev pub cleaned_event : Event → Event
cleaned_event (Update x) = Update (cleaned x)
cleaned_event Other = Other

abbrev pub time_allowed : Event → Bool
time_allowed (Update x) = number (cleaned x)
time_allowed Other = true

-- ---- what is left
-- a tree's cells at the start of a run, with a number for each in `since`; memory past the table's length is untouched
unfoldable pub onto_run : List ℕ → Tree → Run → Run
onto_run since t r = run
    (column time_of t (drop (size t) r.times))
    (column place_of t (drop (size t) r.places))
    (column mark_of t (drop (size t) r.marks))
    (since ++ drop (size t) r.sinces)

-- the numbers of the cells after a tick of that number: it in each that the tick made fresh, in the others what they had
unfoldable pub stamped : ℕ → List Bool → List ℕ → List ℕ
stamped this List.[] since = List.[]
stamped this (List.◌∷◌ a anew) List.[] = List.[]
stamped this (List.◌∷◌ a anew) (List.◌∷◌ s since) = List.◌∷◌ (cond a this s) (stamped this anew since)

unfoldable pub onto_board : Tree → List ℕ → List ℕ
onto_board t b = column board_of t (drop (size t) b)

-- "At the end the tick count goes from its largest number to 0"; a status other than Running at the root sets finished
abbrev pub ended : Status → Bool
ended Running = false
ended Success = true
ended Failure = true

unfoldable pub counted : Status → Record → Record
counted s r = record { finished = ended s; ticks = (r.ticks + 1) % 2 ^ 64 }

-- "a tick's number is the count after it"
abbrev pub since_in : Given → Status → Tree → List ℕ
since_in g s t = stamped (counted s g.record').ticks (column anew_of t List.[]) g.cells'.sinces

-- "The age shown is the tick count less that number, with wrap"
abbrev pub age : ℕ → ℕ → ℕ
age ticks since = (ticks + (2 ^ 64 - since)) % 2 ^ 64

-- "the spare gets it with the cells": those at entry, which the tree t has
abbrev pub spared : Given → Tree → Run
spared g t = onto_run (take (size t) g.cells'.sinces) t g.spare

-- everything stays
abbrev pub refused : Given → Answer → Left
refused g a = left a g.record' g.cells' g.spare g.board

-- a walk, before which the tree t stood with the cells at entry
abbrev pub walked : Given → Tree → Out Tree → Left
walked g t (done s r t' (world f ans)) = left
    (Ticked s r (g.fuel - f) (length (answers g.statuses g.leftovers) - length ans))
    (counted s g.record') (onto_run (since_in g s t') t' g.cells') (spared g t) (onto_board (shown t') g.board)
walked g t (asks n x) = left (Asked n x) g.record' g.cells' (spared g t) g.board
walked g t short = left OutOfFuel g.record' g.cells' (spared g t) g.board

abbrev pub too_short : Given → ℕ → Bool
too_short g n = not (nat_le n (run_length g.cells')) || not (nat_le n (run_length g.spare)) || not (nat_le n (length g.board))

-- 3 and 4, of a tick and a restart alike; then what is due of the table's tree
abbrev pub on_table : Given → (Tree → Left) → Left
on_table g due = elim (table g.kinds g.ns g.limits) [
  | bad p ↦ refused g (BadTable p)
  | good t₀ ↦ cond (too_short g (size t₀)) (refused g TooShort) (due t₀)
]

-- 5 and 6, and then what is due
abbrev pub on_inputs : Given → Left → Left
on_inputs g due = cond (time_allowed g.event)
    (elim (bad_answer 0 g.statuses g.leftovers) [
      | faulty i ↦ refused g (BadAnswer i)
      | none _ ↦ due
    ])
    (refused g BadTime)

-- the table's tree with the cells at entry
abbrev pub at_entry : Given → Tree → Tree
at_entry g t₀ = (with_cells t₀ (cells g.cells'.times g.cells'.places g.cells'.marks)).0

-- the walk that starts from the tree t, with times of that format
abbrev pub walk_from : Format → Given → Tree → Out Tree
walk_from F g t = tick F most_deep t (cleaned_event g.event) (world g.fuel (answers g.statuses g.leftovers))

-- a tick: 3 and 4, 9, 5 and 6, 2; then the walk starts from the tree with the cells at entry
unfoldable pub tick_call : Format → Given → Left
unfolding tick table with_cells bad_cell cells answers bad_answer counted onto_run stamped onto_board shown_as
tick_call F g = on_table g λ t₀. let t = at_entry g t₀ in elim (bad_cell false false 0 t) [
  | faulty p ↦ refused g (BadCell p)
  | none _ ↦ on_inputs g (cond g.record'.finished (refused g Finished) (walked g t (walk_from F g t)))
]

-- a restart: 3 and 4, 5 and 6; then the walk starts from the table's tree made fresh. The cells at entry may hold anything, and go to the spare as they are
unfoldable pub restart_call : Format → Given → Left
unfolding tick table fresh with_cells cells answers bad_answer counted onto_run stamped onto_board shown_as
restart_call F g = on_table g λ t₀. on_inputs g (walked g (at_entry g t₀) (walk_from F g (fresh t₀)))

-- ---- document 01's numbers: "every field that a line doesn't name is 0"
abbrev pub numbers : ℕ → ℕ → ℕ → ℕ → ℕ → Float → Said
numbers n s v u x t = record { no = n; status = s; visits = v; used = u; extra = x; time = t }

abbrev pub said_of : Answer → Said
said_of (Ticked s r v u) = numbers 0 (byte s) v u 0 r
said_of (Asked n x) = numbers 1 0 0 0 n x
said_of Finished = numbers 2 0 0 0 0 zero_time
said_of (BadTable p) = numbers 3 0 0 0 p zero_time
said_of TooShort = numbers 4 0 0 0 0 zero_time
said_of BadTime = numbers 5 0 0 0 0 zero_time
said_of (BadAnswer i) = numbers 6 0 0 0 i zero_time
said_of OutOfFuel = numbers 7 0 0 0 0 zero_time
said_of (BadCell p) = numbers 9 0 0 0 p zero_time
said_of NoRoom = numbers 13 0 0 0 0 zero_time
