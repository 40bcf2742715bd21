-- Document 02, request 13: which nodes may be exchanged in small trees, and what some calls leave.
use Rattle.std.specs.Prelude.{◌≡◌, ℕ, zero, suc, Bool, true, false, List, map, pos, refl, Float}
use Rattle.std.specs.Float.{binary64}
use Rattle.std.specs.Float.Ieee.{of_int, to_unsigned, whole}
use Rattle.rules.specs.declared.behavior.Kind.{Kind}
use Rattle.rules.specs.declared.behavior.Kind.TheVariants.{Wait, Invert, Select, If, Sequence, MemorylessSequence, While, WhileAll, WhenAll, WhenAny, After, Race}
use Rattle.rules.specs.declared.answer.Record.{Record}
use Rattle.rules.specs.declared.exchanged.Exchanged.{Exchanged}
use Rattle.rules.specs.declared.exchanged.Exchanged.TheVariants.{Done, Finished, BadTable, BadBranch, TooShort, BadCell, NoNode, StateHeld, TooLarge, ShortRoom}
use Rattle.rules.specs.Kinds.{kind_of}
use Rattle.rules.specs.Tree.{zero_time, fresh_cell, with_time, with_place, with_mark, Tree, node, Forest, [], ◌◂◌, size, count}
use Rattle.rules.specs.Call.{run}
use Rattle.rules.specs.Exchange.{free, Room, room, GivenExchange, given_exchange, left_exchange, exchange_call, listed, code_in, number_in, limit_in, time_in, place_in, mark_in}

infixr 40 ◌and◌
abbrev ◌and◌ : {A : Type 0} → A → List A → List A
x and xs = List.◌∷◌ x xs

abbrev nil : {A : Type 0} → List A
nil = List.[]

-- ---- trees with their cells
abbrev sec : ℕ → Float
sec n = of_int binary64 (pos n)

abbrev wait : ℕ → Tree
wait l = node Wait 0 (sec l) fresh_cell 0 []

-- a Wait of 9 that has stood for so long
abbrev waited : ℕ → Tree
waited x = node Wait 0 (sec 9) (with_time (sec x) fresh_cell) 0 []

abbrev ended : Tree
ended = node Wait 0 (sec 9) (with_mark 1 fresh_cell) 0 []

-- a node at a place
abbrev stood : Kind → ℕ → Forest → Tree
stood k p ts = node k (count ts) zero_time (with_place p fresh_cell) 0 ts

abbrev three : Forest
three = wait 1 ◂ wait 2 ◂ wait 3 ◂ []

-- ---- whether each node may be exchanged, in preorder
abbrev places : ℕ → ℕ → List ℕ
places p zero = List.[]
places p (suc n) = List.◌∷◌ p (places (suc p) n)

abbrev bit : Bool → ℕ
bit true = 1
bit false = 0

unfoldable pub frees : Tree → List ℕ
unfolding size free
frees t = map (λ p. bit (free false t p)) (places 0 (size t))

abbrev cases : List (Tree × List ℕ)
cases =
    -- the child at the place is held; at place n the last one
    (stood Sequence 0 three, 0 and 0 and 1 and 1 and nil)
    and (stood Sequence 1 three, 0 and 1 and 0 and 1 and nil)
    and (stood Sequence 3 three, 0 and 1 and 1 and 0 and nil)
    and (stood Select 1 (wait 1 ◂ wait 2 ◂ []), 0 and 1 and 0 and nil)
    and (stood Select 2 (wait 1 ◂ wait 2 ◂ []), 0 and 1 and 0 and nil)
    -- an If decides, or has chosen a branch
    and (stood If 0 three, 0 and 0 and 1 and 1 and nil)
    and (stood If 1 three, 0 and 1 and 0 and 1 and nil)
    and (stood If 2 three, 0 and 1 and 1 and 0 and nil)
    -- a body child that is not in progress; place 0 of a WhileAll means the first
    and (stood While 0 three, 0 and 0 and 0 and 1 and nil)
    and (stood While 1 three, 0 and 0 and 1 and 0 and nil)
    and (stood WhileAll 0 three, 0 and 0 and 0 and 1 and nil)
    and (stood WhileAll 1 three, 0 and 0 and 0 and 1 and nil)
    and (stood WhileAll 2 three, 0 and 0 and 1 and 0 and nil)
    -- no spot in the others
    and (wait 1, 0 and nil)
    and (stood Invert 0 (wait 1 ◂ []), 0 and 0 and nil)
    and (stood MemorylessSequence 0 (wait 1 ◂ wait 2 ◂ []), 0 and 0 and 0 and nil)
    and (stood WhenAll 0 (wait 1 ◂ wait 2 ◂ []), 0 and 0 and 0 and nil)
    and (stood After 1 (wait 1 ◂ wait 2 ◂ []), 0 and 0 and 0 and nil)
    and (stood Race 0 (wait 1 ◂ wait 2 ◂ []), 0 and 0 and 0 and nil)
    -- anywhere below a spot, but in no marked child
    and (stood Sequence 1 (stood WhenAll 0 (ended ◂ wait 1 ◂ []) ◂ wait 2 ◂ []), 0 and 1 and 0 and 1 and 0 and nil)
    and (stood WhenAny 0 (ended ◂ stood Sequence 0 (wait 1 ◂ wait 2 ◂ []) ◂ []), 0 and 0 and 0 and 0 and 1 and nil)
    and (stood Sequence 0 (stood Sequence 0 (wait 1 ◂ wait 2 ◂ []) ◂ wait 3 ◂ []), 0 and 0 and 0 and 1 and 1 and nil)
    and nil

pub spots : map (λ c. frees c.0) cases ≡ map (λ c. c.1) cases
unfolding frees of_int to_unsigned whole
spots = refl

-- ---- calls: the tree's table and cells, with numbers of its own, and room for so many nodes
abbrev line : Tree
line = stood Sequence 1 (wait 1 ◂ waited 4 ◂ wait 3 ◂ wait 5 ◂ [])

abbrev lane : Tree
lane = stood Select 0 (wait 7 ◂ wait 8 ◂ [])

abbrev many : {A : Type 0} → ℕ → A → List A
many zero a = List.[]
many (suc n) a = List.◌∷◌ a (many n a)

abbrev room_for : ℕ → Room
room_for n = room (many n 99) (many n 99) (many n (sec 99)) (many n (sec 99)) (many n 99) (many n 99) (many n 99)

abbrev ticked : Bool → Record
ticked f = record { finished = f; ticks = 41 }

-- an exchange of the node at a place of t for u
unfoldable pub exchanging : Bool → Tree → ℕ → Tree → ℕ → GivenExchange
unfolding listed
exchanging f t p u n = given_exchange (ticked f) (listed code_in t nil) (listed number_in t nil) (listed limit_in t nil)
    (run (listed time_in t nil) (listed place_in t nil) (listed mark_in t nil) (11 and 12 and 13 and 14 and 15 and nil)) p
    (listed code_in u nil) (listed number_in u nil) (listed limit_in u nil) (room_for n)

-- the lane stands where the Wait of 3 stood; one element of the room is left as it was
pub lane_exchanged : exchange_call (exchanging false line 3 lane 8) ≡ left_exchange (Done 7) (room
    (8 and 0 and 0 and 6 and 0 and 0 and 0 and 99 and nil)
    (4 and 0 and 0 and 2 and 0 and 0 and 0 and 99 and nil)
    (sec 0 and sec 1 and sec 9 and sec 0 and sec 7 and sec 8 and sec 5 and sec 99 and nil)
    (sec 0 and sec 0 and sec 4 and sec 0 and sec 0 and sec 0 and sec 0 and sec 99 and nil)
    (1 and 0 and 0 and 0 and 0 and 0 and 0 and 99 and nil)
    (0 and 0 and 0 and 0 and 0 and 0 and 0 and 99 and nil)
    (11 and 12 and 13 and 41 and 41 and 41 and 15 and 99 and nil))
unfolding exchanging exchange_call of_int to_unsigned whole kind_of
lane_exchanged = refl

abbrev says : GivenExchange → Exchanged
says g = (exchange_call g).answer

abbrev inverts : ℕ → Tree
inverts zero = wait 1
inverts (suc n) = stood Invert 0 (inverts n ◂ [])

abbrev answers : List (Exchanged × Exchanged)
answers =
    (says (exchanging false line 3 lane 7), Done 7)
    and (says (exchanging true line 3 lane 7), Finished)
    and (says (exchanging false (stood Sequence 1 []) 3 lane 7), BadTable 0)
    and (says (exchanging false line 3 (stood Sequence 0 []) 7), BadBranch 0)
    and (says (exchanging false (stood Sequence 0 (wait 1 ◂ wait 1 ◂ wait 1 ◂ wait 1 ◂ wait 1 ◂ [])) 3 lane 9), TooShort)
    and (says (exchanging false (stood Sequence 1 (stood While 9 three ◂ [])) 9 lane 7), BadCell 1)
    and (says (exchanging false line 5 lane 7), NoNode)
    and (says (exchanging false line 2 lane 7), StateHeld)
    and (says (exchanging false line 0 lane 7), StateHeld)
    and (says (exchanging false line 3 (inverts 14) 19), Done 19)
    and (says (exchanging false line 3 (inverts 15) 20), TooLarge)
    and (says (exchanging false line 3 lane 6), ShortRoom)
    and nil

pub refusals : map (λ a. a.0) answers ≡ map (λ a. a.1) answers
unfolding exchanging exchange_call of_int to_unsigned whole kind_of
refusals = refl
