-- The exchange of a branch that has not been started: document 02, request 13. The tree with the branch replaced, and the whole call.
use Rattle.std.specs.Prelude.{ℕ, zero, suc, ◌+◌, ◌-◌, min, max, Bool, false, cond, not, ◌&&◌, ◌||◌, List, ◌++◌, length, take, drop, replicate, ◌==◌, nat_le, nat_lt, Float}
use Rattle.rules.specs.declared.behavior.Kind.{Kind}
use Rattle.rules.specs.declared.behavior.Kind.TheVariants.{Wait, WaitForever, Action, Invert, AlwaysSucceed, Timeout, Select, If, Sequence}
use Rattle.rules.specs.declared.behavior.Kind.TheVariants.{MemorylessSequence, MemorylessSelector, While, WhileAll, WhenAll, WhenAny, After, Race}
use Rattle.rules.specs.declared.answer.Record.{Record}
use Rattle.rules.specs.declared.exchanged.Exchanged.{Exchanged}
use Rattle.rules.specs.declared.exchanged.Exchanged.TheVariants.{Done, Finished, BadTable, BadBranch, TooShort, BadCell, NoNode, StateHeld, TooLarge, ShortRoom}
use Rattle.rules.specs.declared.exchanged.ExchangeSaid.{ExchangeSaid}
use Rattle.rules.specs.Kinds.{code}
use Rattle.rules.specs.Tree.{Cell, Tree, node, Forest, [], ◌◂◌, size, sizes, depth, marked}
use Rattle.rules.specs.Table.{most_nodes, most_deep, good, bad, table}
use Rattle.rules.specs.Cells.{cells, with_cells, faulty, none, bad_cell}
use Rattle.rules.specs.Call.{Run, run_length}

-- ---- where it is allowed
-- whether no state is held for child i, counted from 0, of a node with n children and that place in its cell
abbrev pub spot : Kind → ℕ → ℕ → ℕ → Bool
-- "a Select or Sequence child other than the one at the place (at place n the last child counts as that one)"
spot Select n place i = not (i == min place (n - 1))
spot Sequence n place i = not (i == min place (n - 1))
-- "a While or WhileAll body child not in progress (place 0 of WhileAll means the first is in progress)"; child 0 is the condition
spot While n place i = nat_lt 0 i && not (i == suc place)
spot WhileAll n place i = nat_lt 0 i && not (i == max 1 place)
-- "an If branch not chosen, or a decided If's condition": at place 0 it is deciding, at place 1 and 2 it has chosen that child
spot If n place i = not (i == place)
spot Wait n place i = false
spot WaitForever n place i = false
spot Action n place i = false
spot Invert n place i = false
spot AlwaysSucceed n place i = false
spot Timeout n place i = false
spot MemorylessSequence n place i = false
spot MemorylessSelector n place i = false
spot WhenAll n place i = false
spot WhenAny n place i = false
spot After n place i = false
spot Race n place i = false

-- whether the node p places behind the root of a tree lies in a spot, "and not in a marked child"; `in_spot`: the tree itself lies in one
unfoldable mutual
  unfolding size

  pub free : Bool → Tree → ℕ → Bool
  free in_spot (node k n l c b ts) zero = in_spot
  free in_spot (node k n l c b ts) (suc p) = free_in in_spot k n c.place 0 ts p

  -- of the trees that are the children from number i on
  pub free_in : Bool → Kind → ℕ → ℕ → ℕ → Forest → ℕ → Bool
  free_in in_spot k n place i [] p = false
  free_in in_spot k n place i (t ◂ ts) p = cond (nat_lt p (size t))
      (not (marked t) && free (in_spot || spot k n place i) t p)
      (free_in in_spot k n place (suc i) ts (p - size t))

-- ---- the tree with the branch replaced
-- the branch p places behind the root replaced by u
unfoldable mutual
  unfolding size

  pub replaced : Tree → ℕ → Tree → Tree
  replaced (node k n l c b ts) zero u = u
  replaced (node k n l c b ts) (suc p) u = node k n l c b (replaced_in ts p u)

  pub replaced_in : Forest → ℕ → Tree → Forest
  replaced_in [] p u = []
  replaced_in (t ◂ ts) p u = cond (nat_lt p (size t)) (replaced t p u ◂ ts) (t ◂ replaced_in ts (p - size t) u)

-- how many nodes that branch has
unfoldable mutual
  unfolding size

  pub size_at : Tree → ℕ → ℕ
  size_at (node k n l c b ts) zero = suc (sizes ts)
  size_at (node k n l c b ts) (suc p) = size_in ts p

  pub size_in : Forest → ℕ → ℕ
  size_in [] p = 0
  size_in (t ◂ ts) p = cond (nat_lt p (size t)) (size_at t p) (size_in ts (p - size t))

-- ---- the call
-- the room that is lent for a table and its cells
pub record Room : Type 0 where
  pub kinds : List ℕ
  pub ns : List ℕ
  pub limits : List Float
  pub times : List Float
  pub places : List ℕ
  pub marks : List ℕ
  pub sinces : List ℕ

abbrev pub room : List ℕ → List ℕ → List Float → List Float → List ℕ → List ℕ → List ℕ → Room
room ks ns ls ts ps ms ss = record { kinds = ks; ns = ns; limits = ls; times = ts; places = ps; marks = ms; sinces = ss }

-- what an exchange is given: a record, which is only read, a table with its cells, a place in it, a branch, and room
pub record GivenExchange : Type 0 where
  pub record' : Record
  pub kinds : List ℕ
  pub ns : List ℕ
  pub limits : List Float
  pub cells' : Run
  pub place : ℕ
  pub new_kinds : List ℕ
  pub new_ns : List ℕ
  pub new_limits : List Float
  pub room' : Room

abbrev pub given_exchange : Record → List ℕ → List ℕ → List Float → Run → ℕ → List ℕ → List ℕ → List Float → Room → GivenExchange
given_exchange r ks ns ls c p ks' ns' ls' to = record { record' = r; kinds = ks; ns = ns; limits = ls; cells' = c; place = p; new_kinds = ks'; new_ns = ns'; new_limits = ls'; room' = to }

-- what it leaves
pub record LeftExchange : Type 0 where
  pub answer : Exchanged
  pub room' : Room

abbrev pub left_exchange : Exchanged → Room → LeftExchange
left_exchange a to = record { answer = a; room' = to }

-- a field of each node in preorder, before `behind`
module _ {A : Type 0} (field : Kind → ℕ → Float → Cell → A) where
  unfoldable mutual
    pub listed : Tree → List A → List A
    listed (node k n l c b ts) behind = List.◌∷◌ (field k n l c) (listed_all ts behind)

    pub listed_all : Forest → List A → List A
    listed_all [] behind = behind
    listed_all (t ◂ ts) behind = listed t (listed_all ts behind)

abbrev pub code_in : Kind → ℕ → Float → Cell → ℕ
code_in k n l c = code k

abbrev pub number_in : Kind → ℕ → Float → Cell → ℕ
number_in k n l c = n

abbrev pub limit_in : Kind → ℕ → Float → Cell → Float
limit_in k n l c = l

abbrev pub time_in : Kind → ℕ → Float → Cell → Float
time_in k n l c = c.time

abbrev pub place_in : Kind → ℕ → Float → Cell → ℕ
place_in k n l c = c.place

abbrev pub mark_in : Kind → ℕ → Float → Cell → ℕ
mark_in k n l c = c.mark

-- since when each node has stood; "the number of 7) is the tick count of the moment in the new cells"
unfoldable pub new_sinces : Tree → ℕ → Tree → ℕ → List ℕ → List ℕ
unfolding size size_at
new_sinces t p u now ss = take p ss ++ (replicate (size u) now ++ drop (p + size_at t p) (take (size t) ss))

-- a tree and its numbers at the start of the room; what stands behind them stays
unfoldable pub onto_room : Tree → List ℕ → Room → Room
unfolding size listed
onto_room t ss to =
    room (listed code_in t (drop (size t) to.kinds)) (listed number_in t (drop (size t) to.ns)) (listed limit_in t (drop (size t) to.limits))
    (listed time_in t (drop (size t) to.times)) (listed place_in t (drop (size t) to.places)) (listed mark_in t (drop (size t) to.marks))
    (ss ++ drop (size t) to.sinces)

-- how many nodes the room takes: as many as the shortest slice
abbrev pub room_length : Room → ℕ
room_length to =
    min (length to.kinds) (min (length to.ns) (min (length to.limits) (min (length to.times) (min (length to.places) (min (length to.marks) (length to.sinces))))))

-- nothing is written
abbrev pub not_exchanged : GivenExchange → Exchanged → LeftExchange
not_exchanged g a = left_exchange a g.room'

-- 19 and 20, and then the tree r is written
abbrev pub written : GivenExchange → Tree → List ℕ → LeftExchange
written g r ss = cond (nat_le (size r) most_nodes && nat_le (depth r) most_deep)
    (cond (nat_le (size r) (room_length g.room')) (left_exchange (Done (size r)) (onto_room r ss g.room')) (not_exchanged g ShortRoom))
    (not_exchanged g TooLarge)

-- 17 and 18, of the tree t with its cells and the branch u
abbrev pub replacing : GivenExchange → Tree → Tree → LeftExchange
replacing g t u = cond (nat_lt g.place (size t))
    (cond (free false t g.place)
    (written g (replaced t g.place u) (new_sinces t g.place u g.record'.ticks g.cells'.sinces))
    (not_exchanged g StateHeld))
    (not_exchanged g NoNode)

-- 4, 9 and 2, of the trees of both tables
abbrev pub on_trees : GivenExchange → Tree → Tree → LeftExchange
on_trees g t₀ u = cond (nat_le (size t₀) (run_length g.cells'))
    (let t = (with_cells t₀ (cells g.cells'.times g.cells'.places g.cells'.marks)).0 in elim (bad_cell false false 0 t) [
      | faulty p ↦ not_exchanged g (BadCell p)
      | none _ ↦ cond g.record'.finished (not_exchanged g Finished) (replacing g t u)
    ])
    (not_exchanged g TooShort)

-- 3 for the branch
abbrev pub on_branch : GivenExchange → Tree → LeftExchange
on_branch g t₀ = elim (table g.new_kinds g.new_ns g.new_limits) [
  | bad p ↦ not_exchanged g (BadBranch p)
  | good u ↦ on_trees g t₀ u
]

-- 3 for the tree, and then the rest
unfoldable pub exchange_call : GivenExchange → LeftExchange
unfolding table with_cells bad_cell cells size depth free replaced new_sinces onto_room
exchange_call g = elim (table g.kinds g.ns g.limits) [
  | bad p ↦ not_exchanged g (BadTable p)
  | good t₀ ↦ on_branch g t₀
]

-- ---- document 02's numbers: "every field that a line doesn't name is 0"
abbrev pub exchange_numbers : ℕ → ℕ → ℕ → ℕ → ExchangeSaid
exchange_numbers n t p m = record { no = n; table = t; place = p; nodes = m }

abbrev pub exchange_said_of : Exchanged → ExchangeSaid
exchange_said_of (Done n) = exchange_numbers 0 0 0 n
exchange_said_of Finished = exchange_numbers 2 0 0 0
exchange_said_of (BadTable p) = exchange_numbers 3 0 p 0
exchange_said_of (BadBranch p) = exchange_numbers 3 1 p 0
exchange_said_of TooShort = exchange_numbers 4 0 0 0
exchange_said_of (BadCell p) = exchange_numbers 9 0 p 0
exchange_said_of NoNode = exchange_numbers 17 0 0 0
exchange_said_of StateHeld = exchange_numbers 18 0 0 0
exchange_said_of TooLarge = exchange_numbers 19 0 0 0
exchange_said_of ShortRoom = exchange_numbers 20 0 0 0
