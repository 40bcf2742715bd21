-- What an exchange answered 0 leaves: the room's table reads as the tree with the branch replaced, its cells are that tree's and are accepted, and so
-- a tick that takes them up is one of that tree.
use Rattle.std.specs.Prelude.{◌≡◌, Bool, true, cond, ◌&&◌, List, ◌++◌, ℕ, ◌≤◌, ◌<◌, T, leb, ltb, take, drop}
use Rattle.std.proofs.Math.Path.{refl, ap}
use Rattle.std.proofs.Common.{subst, ◌∙◌, leb-true, ltb-true}
use Rattle.std.proofs.Math.Bool.{false, and-eq-true_iff}
use Rattle.rules.specs.declared.exchanged.Exchanged.{Exchanged as Answer}
use Rattle.rules.specs.declared.exchanged.Exchanged.TheVariants.{Done, Finished, BadTable, BadBranch, TooShort, BadCell, NoNode, StateHeld, TooLarge, ShortRoom}
use Rattle.rules.specs.Tree.{Cell, Tree, node, Forest, [], ◌◂◌, size, depth}
use Rattle.rules.specs.Table.{Table, good, bad, table}
use Rattle.rules.specs.Cells.{Found, faulty, none, bad_cell, column, columns}
use Rattle.rules.specs.Call.{Run, run, run_length, onto_run, Given}
use Rattle.rules.specs.Exchange.{Room, GivenExchange, LeftExchange, left_exchange, not_exchanged, free, replaced, new_sinces, onto_room}
use Rattle.rules.specs.Exchange.{room_length, written, replacing, on_trees, on_branch, exchange_call}
use Rattle.rules.specs.Exchange.{listed, listed_all}
use Rattle.laws.specs.Memory.{held}
use Rattle.laws.specs.Tables.{tabled, renewed}
use Rattle.laws.specs.Fine.{fine_of, none_of}
use Rattle.laws.specs.ReadBack.{sound, read_back}
use Rattle.laws.specs.Replaced.{sound_replaced, sound_with, fine_replaced}

-- ---- the room's cells as a run
module _ {A : Type 0} (f : Cell → A) where
  mutual
    unfolding listed column

    listed_column : (t : Tree) (behind : List A) → listed (λ k n l c. f c) t behind ≡ column (λ c b. f c) t behind
    listed_column (node k n l c b ts) behind = ap (λ (z : List A). List.◌∷◌ (f c) z) (listeds_column ts behind)

    listeds_column : (ts : Forest) (behind : List A) → listed_all (λ k n l c. f c) ts behind ≡ columns (λ c b. f c) ts behind
    listeds_column [] behind = refl
    listeds_column (t ◂ ts) behind = listed_column t (listed_all (λ k n l c. f c) ts behind) ∙ ap (column (λ c b. f c) t) (listeds_column ts behind)

abbrev pub run_in : Room → Run
run_in to = run to.times to.places to.marks to.sinces

pub onto_run_lem : (t : Tree) (ss : List ℕ) (to : Room) → run_in (onto_room t ss to) ≡ onto_run ss t (run_in to)
unfolding onto_room onto_run
onto_run_lem t ss to =
    let n = size t in
    λ i. run
    (listed_column (λ c. c.time) t (drop n to.times) i)
    (listed_column (λ c. c.place) t (drop n to.places) i)
    (listed_column (λ c. c.mark) t (drop n to.marks) i)
    (ss ++ drop n to.sinces)

-- ---- what an exchange answered 0 has passed
abbrev is_done : Answer → Bool
is_done (Done n) = true
is_done Finished = false
is_done (BadTable p) = false
is_done (BadBranch p) = false
is_done TooShort = false
is_done (BadCell p) = false
is_done NoNode = false
is_done StateHeld = false
is_done TooLarge = false
is_done ShortRoom = false

abbrev Written : LeftExchange → Type 0
Written l = T (is_done l.answer)

abbrev pub Exchanges : GivenExchange → Type 0
Exchanges g = Written (exchange_call g)

goes_on : (x y : LeftExchange) → x ≡ y → Written x → Written y
goes_on x y e h = subst Written e h

passed : (b : Bool) (x y : LeftExchange) → is_done y.answer ≡ false → Written (cond b x y) → (b ≡ true) × Written x
passed true x y n h = (refl, h)
passed false x y n h = absurd (subst T n h)

passed_by : (b : Bool) (x y : LeftExchange) → is_done x.answer ≡ false → Written (cond b x y) → (b ≡ false) × Written y
passed_by true x y n h = absurd (subst T n h)
passed_by false x y n h = (refl, h)

-- the tree with the branch replaced
abbrev pub result_of : GivenExchange → Tree → Tree → Tree
result_of g t u = replaced (held t g.cells') g.place u

abbrev pub sinces_of : GivenExchange → Tree → Tree → List ℕ
sinces_of g t u = new_sinces (held t g.cells') g.place u g.record'.ticks g.cells'.sinces

-- the trees of both tables
pub record Passed (g : GivenExchange) : Type 0 where
  pub tree : Tree
  pub branch : Tree
  pub is : table g.kinds g.ns g.limits ≡ good tree
  pub new : table g.new_kinds g.new_ns g.new_limits ≡ good branch
  pub behind : ℕ
  pub fine : bad_cell false false 0 (held tree g.cells') ≡ none behind
  pub inside : g.place < size (held tree g.cells')
  pub spot : free false (held tree g.cells') g.place ≡ true
  pub few : size (result_of g tree branch) ≤ 256
  pub levels : depth (result_of g tree branch) ≤ 16
  pub left : exchange_call g ≡ left_exchange (Done (size (result_of g tree branch))) (onto_room (result_of g tree branch) (sinces_of g tree branch) g.room')

module _ (g : GivenExchange) (h : Exchanges g) where
  module _ (t u : Tree) (e : table g.kinds g.ns g.limits ≡ good t) (e' : table g.new_kinds g.new_ns g.new_limits ≡ good u) where
    abbrev r : Tree
    r = result_of g t u

    abbrev small : Bool
    small = leb (size r) 256 && leb (depth r) 16

    both : exchange_call g ≡ on_trees g t u
    unfolding exchange_call
    both = rw (exchange_call, e) (rw (on_branch, e'))

    abbrev due : Found → LeftExchange
    due o = elim o [ faulty p ↦ not_exchanged g (BadCell p) | none _ ↦ cond g.record'.finished (not_exchanged g Finished) (replacing g (held t g.cells') u) ]

    abbrev long : Bool
    long = leb (size t) (run_length g.cells')

    enough : (long ≡ true) × Written (due (bad_cell false false 0 (held t g.cells')))
    enough = passed long (due (bad_cell false false 0 (held t g.cells'))) (not_exchanged g TooShort) refl (goes_on (exchange_call g) (on_trees g t u) both h)

    on_cells : (o : Found) → bad_cell false false 0 (held t g.cells') ≡ o → Written (due o) → Passed g
    on_cells (faulty p) f w = absurd w
    on_cells (none q) f w =
        let a = passed_by g.record'.finished (not_exchanged g Finished) (replacing g (held t g.cells') u) refl w in
        let b = passed (ltb g.place (size (held t g.cells'))) _ (not_exchanged g NoNode) refl a.1 in
        let c = passed (free false (held t g.cells') g.place) (written g r (sinces_of g t u)) (not_exchanged g StateHeld) refl b.1 in
        let d = passed small _ (not_exchanged g TooLarge) refl c.1 in
        let i = passed (leb (size r) (room_length g.room')) (left_exchange (Done (size r)) (onto_room r (sinces_of g t u) g.room')) (not_exchanged g ShortRoom) refl d.1 in
        let two = (and-eq-true_iff (leb (size r) 256) (leb (depth r) 16)).0 d.0 in
        record {
          tree = t;
          branch = u;
          is = e;
          new = e';
          behind = q;
          fine = f;
          inside = ltb-true g.place (size (held t g.cells')) b.0;
          spot = c.0;
          few = leb-true (size r) 256 two.0;
          levels = leb-true (depth r) 16 two.1;
          left = both ∙ rw (on_trees, enough.0, f) (rw a.0 (rw (replacing, b.0, c.0) (rw (written, d.0) (rw i.0))));
        }

  on_branch_lem : (t : Tree) → table g.kinds g.ns g.limits ≡ good t → (o : Table) → table g.new_kinds g.new_ns g.new_limits ≡ o → Passed g
  unfolding exchange_call
  on_branch_lem t e (good u) e' = on_cells t u e e' (bad_cell false false 0 (held t g.cells')) refl (enough t u e e').1
  on_branch_lem t e (bad p) e' = absurd (goes_on (exchange_call g) (not_exchanged g (BadBranch p)) (rw (exchange_call, e) (rw (on_branch, e'))) h)

  on_tree : (o : Table) → table g.kinds g.ns g.limits ≡ o → Passed g
  unfolding exchange_call
  on_tree (good t) e = on_branch_lem t e (table g.new_kinds g.new_ns g.new_limits) refl
  on_tree (bad p) e = absurd (goes_on (exchange_call g) (not_exchanged g (BadTable p)) (rw (exchange_call, e)) h)

  pub went : Passed g
  went = on_tree (table g.kinds g.ns g.limits) refl

-- ---- what it leaves
module _ (g : GivenExchange) (w : Passed g) where
  abbrev pub result : Tree
  result = result_of g w.tree w.branch

  abbrev pub to : Room
  to = (exchange_call g).room'

  pub to_is : to ≡ onto_room result (sinces_of g w.tree w.branch) g.room'
  to_is = ap (λ (l : LeftExchange). l.room') w.left

  -- the room's table reads as the tree with the branch replaced
  pub reads : table (take (size result) to.kinds) (take (size result) to.ns) (take (size result) to.limits) ≡ good (renewed result)
  unfolding onto_room
  reads =
      let old = sound g.kinds g.ns g.limits w.tree w.is in
      let new = sound g.new_kinds g.new_ns g.new_limits w.branch w.new in
      let all = sound_replaced w.branch new (held w.tree g.cells') g.place (sound_with w.tree _ old) in
      ap (λ (x : Room). table (take (size result) x.kinds) (take (size result) x.ns) (take (size result) x.limits)) to_is
      ∙ read_back result _ _ _ all w.levels w.few

  -- and they are accepted
  pub accepted : (at : ℕ) × (bad_cell false false 0 result ≡ none at)
  accepted =
      let old = fine_of false false 0 w.behind (held w.tree g.cells') w.fine in
      let new = (tabled g.new_kinds g.new_ns g.new_limits w.branch w.new).0 in
      (_, none_of false false 0 result (fine_replaced w.branch new (held w.tree g.cells') g.place false false old))

  -- ---- the ticks that follow are those of that tree
  -- a tick that takes up what the exchange left
  pub record TakesUp (k : Given) : Type 0 where
    pub kinds : k.kinds ≡ take (size result) to.kinds
    pub ns : k.ns ≡ take (size result) to.ns
    pub limits : k.limits ≡ take (size result) to.limits
    pub cells' : k.cells' ≡ run_in to
