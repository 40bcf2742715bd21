-- Document 01, "Trees to try": what calls of fresh trees say. The marked cases, the errors to shut out, some finish bounds, some boards and some numbers of cells, as one list.
use Rattle.std.specs.Prelude.{◌≡◌, ℕ, true, false, List, map, pos, refl, Float}
use Rattle.std.specs.Float.{fin, binary64}
use Rattle.std.specs.Float.Ieee.{of_int, to_unsigned, whole}
use Rattle.rules.specs.declared.behavior.Kind.{Kind}
use Rattle.rules.specs.declared.behavior.Kind.TheVariants.{Wait, WaitForever, Action, Timeout, Select, Sequence, MemorylessSequence, While, WhileAll, WhenAll, WhenAny, After, Race}
use Rattle.rules.specs.declared.status.Status.{Status}
use Rattle.rules.specs.declared.status.Status.TheVariants.{Running, Success, Failure}
use Rattle.rules.specs.declared.event.Event.{Event}
use Rattle.rules.specs.declared.event.Event.TheVariants.{Update, Other}
use Rattle.rules.specs.declared.answer.Answer.{Answer}
use Rattle.rules.specs.declared.answer.Answer.TheVariants.{Ticked, Asked, Finished, OutOfFuel}
use Rattle.rules.specs.declared.answer.BoundAnswer.{BoundAnswer}
use Rattle.rules.specs.declared.answer.BoundAnswer.TheVariants.{Within, Never, NoBound}
use Rattle.rules.specs.Kinds.{code, kind_of}
use Rattle.rules.specs.Tree.{zero_time, new_cell, Tree, node, Forest, [], ◌◂◌, size, count}
use Rattle.rules.specs.Outcome.{byte, largest}
use Rattle.rules.specs.Cells.{column}
use Rattle.rules.specs.Call.{run, Given, Left, tick_call}
use Rattle.rules.specs.Bound.{bound_call}

-- ---- trees, and their tables
abbrev sec : ℕ → Float
sec n = of_int binary64 (pos n)

abbrev minus_zero : Float
minus_zero = fin true 0 (pos 0)

-- a fresh node with a limit
abbrev timed : Kind → ℕ → Forest → Tree
timed k l ts = node k (count ts) (sec l) new_cell 0 ts

abbrev of : Kind → Forest → Tree
of k ts = timed k 0 ts

abbrev wait : ℕ → Tree
wait l = timed Wait l []

abbrev forever : Tree
forever = of WaitForever []

abbrev act : ℕ → Tree
act n = node Action n zero_time new_cell 0 []

-- a field of each node in preorder, before `behind`
module _ {A : Type 0} (field : Kind → ℕ → Float → A) where
  unfoldable mutual
    pub fields : Tree → List A → List A
    fields (node k n l c b ts) behind = List.◌∷◌ (field k n l) (fields_all ts behind)

    pub fields_all : Forest → List A → List A
    fields_all [] behind = behind
    fields_all (t ◂ ts) behind = fields t (fields_all ts behind)

-- a run with a fresh cell for each node; a board
unfoldable pub zeros : {A : Type 0} → A → Tree → List A
unfolding fields
zeros a t = fields (λ k n l. a) t List.[]

-- ---- the calls
-- call EVENT FUEL ANSWERS
pub data Call : Type 0 where
  call : Event → ℕ → List (Status × Float) → Call

-- what the first call finds
unfoldable pub at_first : Tree → Left
unfolding zeros
at_first t =
    let cells = run (zeros zero_time t) (zeros 0 t) (zeros 0 t) (zeros 0 t) in
    record { answer = OutOfFuel; record' = record { finished = false; ticks = 0 }; cells' = cells; spare = cells; board = zeros 0 t }

-- each call takes up what the last one left
unfoldable pub given : Tree → Left → Call → Given
unfolding fields
given t now (call e fuel ans) = record {
  kinds = fields (λ k n l. code k) t List.[];
  ns = fields (λ k n l. n) t List.[];
  limits = fields (λ k n l. l) t List.[];
  record' = now.record';
  cells' = now.cells';
  spare = now.spare;
  board = now.board;
  event = e;
  fuel = fuel;
  statuses = map (λ a. byte a.0) ans;
  leftovers = map (λ a. a.1) ans;
}

unfoldable pub said : Tree → Left → List Call → List Answer
unfolding given tick_call
said t now List.[] = List.[]
said t now (List.◌∷◌ c cs) = let next = tick_call binary64 (given t now c) in List.◌∷◌ next.answer (said t next cs)

-- the board after each call
unfoldable pub seen : Tree → Left → List Call → List (List ℕ)
unfolding given tick_call
seen t now List.[] = List.[]
seen t now (List.◌∷◌ c cs) = let next = tick_call binary64 (given t now c) in List.◌∷◌ next.board (seen t next cs)

-- the numbers of the cells after each call
unfoldable pub numbered : Tree → Left → List Call → List (List ℕ)
unfolding given tick_call
numbered t now List.[] = List.[]
numbered t now (List.◌∷◌ c cs) = let next = tick_call binary64 (given t now c) in List.◌∷◌ next.cells'.sinces (numbered t next cs)

-- the finish bound of a step
unfoldable pub bounds : Tree → ℕ → BoundAnswer
unfolding fields bound_call
bounds t d = bound_call binary64 (fields (λ k n l. code k) t List.[]) (fields (λ k n l. n) t List.[]) (fields (λ k n l. l) t List.[]) (sec d)

-- ---- the list
-- ticks TREE CALLS ANSWERS; boards TREE CALLS BOARDS; sinces TREE CALLS NUMBERS; bound TREE STEP ANSWER
pub data Case : Type 0 where
  ticks : Tree → List Call → List Answer → Case
  boards : Tree → List Call → List (List ℕ) → Case
  sinces : Tree → List Call → List (List ℕ) → Case
  bound : Tree → ℕ → BoundAnswer → Case

pub data Shown : Type 0 where
  answers : List Answer → Shown
  bytes : List (List ℕ) → Shown
  within : BoundAnswer → Shown

unfoldable pub shown : Case → Shown
unfolding said seen numbered at_first bounds
shown (ticks t cs a) = answers (said t (at_first t) cs)
shown (boards t cs b) = bytes (seen t (at_first t) cs)
shown (sinces t cs b) = bytes (numbered t (at_first t) cs)
shown (bound t d a) = within (bounds t d)

abbrev pub expected : Case → Shown
expected (ticks t cs a) = answers a
expected (boards t cs b) = bytes b
expected (sinces t cs b) = bytes b
expected (bound t d a) = within a

infixr 40 ◌and◌
abbrev ◌and◌ : {A : Type 0} → A → List A → List A
a and l = List.◌∷◌ a l

abbrev nil : {A : Type 0} → List A
nil = List.[]

-- an update and an other event, with fuel for every tree here and no answers
abbrev update : ℕ → Call
update n = call (Update (sec n)) 256 nil

abbrev other : Call
other = call Other 256 nil

-- status, leftover, visits
abbrev says : Status → ℕ → ℕ → Answer
says s r v = Ticked s (sec r) v 0

-- the answers that a call lends
abbrev giving : Event → Status → ℕ → Call
giving e s r = call e 256 ((s, sec r) and nil)

abbrev one : Tree → Call → Answer → Case
one t c a = ticks t (c and nil) (a and nil)

-- wait for the lane and scan, give up after 2, and after 1 more send the set to rework by hand
abbrev give_up : Tree
give_up = of Select (timed Timeout 2 (of Sequence (act 1 ◂ act 2 ◂ []) ◂ []) ◂ timed Timeout 1 (act 3 ◂ []) ◂ [])

-- its condition is looked at when the body is through
abbrev loop : Tree
loop = of WhileAll (wait 2 ◂ wait 3 ◂ [])

-- it fails after 1
abbrev failing : Tree
failing = timed Timeout 1 (forever ◂ [])

pub cases : List Case
cases =
    one (wait 2) (update 1) (says Running 0 1)
    and one (wait 0) other (says Running 0 1)
    and one (of WhenAll []) (update 4) (says Success 4 1)
    and one (of WhenAny []) (update 4) (says Failure 4 1)
    and one (of After []) (update 4) (Ticked Success (largest binary64) 1 0)
    and one (of After (wait 1 ◂ wait 1 ◂ [])) (update 3) (says Failure 2 3)
    and one (of After (wait 1 ◂ wait 2 ◂ [])) (update 3) (says Success 1 3)
    and one (timed Timeout 3 (wait 5 ◂ [])) (update 4) (says Failure 1 2)
    and one (timed Timeout 3 (wait 4 ◂ [])) (update 4) (says Success 0 2)
    and one (of While (forever ◂ wait 1 ◂ [])) (call (Update (sec 3)) 6 nil) (says Running 0 6)
    and one (of While (forever ◂ wait 1 ◂ [])) (call (Update (sec 3)) 5 nil) OutOfFuel
    and one (of WhileAll (wait 2 ◂ wait 0 ◂ [])) (update 1) (says Success 0 4)
    and one (of Sequence (act 1 ◂ act 2 ◂ [])) (giving Other Success 0) (Ticked Running (sec 0) 2 1)
    -- a WhileAll condition gets the whole event, not the rest
    and one (of WhileAll (wait 2 ◂ wait 1 ◂ [])) (update 1) (says Success 0 4)
    -- a While does not move on after an other event
    and ticks (of While (forever ◂ act 1 ◂ act 2 ◂ [])) (giving Other Success 0 and other and nil) (Ticked Running (sec 0) 3 1 and Asked 1 (sec 0) and nil)
    -- an Action's answer is passed unchanged
    and one (act 1) (giving (Update (sec 1)) Running 7) (Ticked Running (sec 7) 1 1)
    -- minus zero is taken as plus zero: dt, limits and leftovers
    and one (act 1) (call (Update minus_zero) 256 nil) (Asked 1 (sec 0))
    and one (act 1) (call (Update (sec 1)) 256 ((Success, minus_zero) and nil)) (Ticked Success (sec 0) 1 1)
    and ticks (node After 2 minus_zero new_cell 0 (node Wait 0 minus_zero new_cell 0 [] ◂ wait 5 ◂ [])) (update 1 and update 1 and nil) (says Running 0 3 and says Running 0 2 and nil)
    and bound (node Wait 0 minus_zero new_cell 0 []) 1 (Within 1)
    -- finish bounds; the ticks that follow some of them need all of the bound
    and bound loop 1 (Within 6)
    and bound (of Sequence (wait 1 ◂ loop ◂ [])) 1 (Within 7)
    and ticks (of Sequence (wait 1 ◂ loop ◂ []))
    (update 1 and update 1 and update 1 and update 1 and update 1 and update 1 and update 1 and update 1 and nil)
    (says Running 0 5 and says Running 0 3 and says Running 0 3 and says Running 0 5 and says Running 0 3 and says Running 0 3 and says Success 0 4 and Finished and nil)
    and bound give_up 1 (Within 3)
    and ticks give_up
    (giving (Update (sec 1)) Running 0 and call (Update (sec 1)) 256 ((Running, sec 0) and (Running, sec 0) and nil) and giving (Update (sec 1)) Running 0 and update 1 and nil)
    (Ticked Running (sec 0) 4 1 and Ticked Running (sec 0) 6 2 and Ticked Failure (sec 0) 3 1 and Finished and nil)
    and bound (of Race (act 1 ◂ wait 4 ◂ [])) 2 (Within 2)
    and bound (timed Timeout 7 (forever ◂ [])) 2 (Within 4)
    and bound (of Select (timed Timeout 3 (forever ◂ []) ◂ timed Timeout 4 (act 1 ◂ []) ◂ [])) 1 (Within 7)
    and bound (of WhileAll (wait 2 ◂ of WhileAll (wait 3 ◂ wait 2 ◂ []) ◂ wait 1 ◂ [])) 1 (Within 14)
    and bound (of While (wait 5 ◂ act 1 ◂ [])) 2 (Within 3)
    and bound (of Race (act 1 ◂ forever ◂ [])) 1 Never
    and bound (of Sequence (wait 1 ◂ act 1 ◂ [])) 1 Never
    and bound (of MemorylessSequence (wait 1 ◂ [])) 1 Never
    and bound (of After []) 1 NoBound
    and bound (wait 1) 0 NoBound
    -- a child that has ended and is not visited any more; the nodes below it stay 0
    and boards (of WhenAll (wait 1 ◂ wait 3 ◂ []))
    (update 1 and update 1 and update 1 and nil)
    ((1 and 2 and 1 and nil) and (1 and 2 and 1 and nil) and (2 and 2 and 2 and nil) and nil)
    and boards (of WhenAny (failing ◂ forever ◂ [])) (update 1 and update 1 and nil) ((1 and 3 and 1 and 1 and nil) and (1 and 3 and 0 and 1 and nil) and nil)
    and boards (of Select (failing ◂ forever ◂ [])) (update 1 and update 1 and nil) ((1 and 3 and 1 and 1 and nil) and (1 and 3 and 0 and 1 and nil) and nil)
    and boards (of After (wait 1 ◂ wait 3 ◂ wait 4 ◂ [])) (update 1 and update 1 and nil) ((1 and 2 and 1 and 1 and nil) and (1 and 2 and 1 and 1 and nil) and nil)
    -- by the cells after the tick: a Sequence that has ended under WhenAll is fresh
    and boards (of WhenAll (of Sequence (wait 1 ◂ wait 1 ◂ []) ◂ wait 9 ◂ []))
    (update 1 and update 1 and nil)
    ((1 and 1 and 2 and 1 and 1 and nil) and (1 and 2 and 0 and 2 and 1 and nil) and nil)
    -- also where its parent is not visited
    and boards (of While (wait 2 ◂ of Sequence (wait 1 ◂ wait 9 ◂ []) ◂ []))
    (update 1 and update 1 and nil)
    ((1 and 1 and 1 and 2 and 1 and nil) and (2 and 2 and 0 and 2 and 0 and nil) and nil)
    -- since when: the child left behind and the next one are made fresh, and the last keeps its number
    and sinces (of Sequence (wait 1 ◂ wait 1 ◂ wait 1 ◂ []))
    (update 1 and other and update 1 and update 1 and nil)
    ((0 and 1 and 1 and 0 and nil) and (0 and 1 and 1 and 0 and nil) and (0 and 1 and 3 and 3 and nil) and (0 and 1 and 3 and 3 and nil) and nil)
    -- a child that is marked has the number of the tick that marked it, with all below it
    and sinces (of WhenAny (failing ◂ forever ◂ [])) (other and update 1 and update 1 and nil)
    ((0 and 0 and 0 and 0 and nil) and (0 and 2 and 2 and 0 and nil) and (0 and 2 and 2 and 0 and nil) and nil)
    -- memoryless children have it anew at each tick; a question leaves it
    and sinces (of MemorylessSequence (wait 1 ◂ act 1 ◂ [])) (other and update 1 and other and nil) ((0 and 1 and 1 and nil) and (0 and 1 and 1 and nil) and (0 and 2 and 2 and nil) and nil)
    and nil

pub trees_to_try : map shown cases ≡ map expected cases
unfolding shown cases of_int to_unsigned whole kind_of size column
trees_to_try = refl
