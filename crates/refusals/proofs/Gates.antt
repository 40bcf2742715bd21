-- Each way through the checks leaves of the call what the rules say.
use mathlib.Core.Path.{◌≡◌, refl, sym, ap, ◌∙◌}
use mathlib.Core.Bool.{Bool, true, false, cond, not, ◌&&◌, ◌||◌, false≢true}
use mathlib.Core.List.{List}
use Prim.Native.Nat.{ℕ, ◌≤◌, ◌<◌}
use native.Mathlib.Omega.{arith}
use Rattle.std.proofs.Common.{Option, Some, None, ok_or, Result, Ok, Err, IsErr, IsErrAnd}
use borrow.Author.Tests.{leb-true, leb-false, lt-ltb, le-ltb}
use lib.Dec.{leb}
use lib.Ieee.{Float, binary64}
use lib.ListN.{length, replicate}
use Rattle.rules.specs.declared.answer.Answer.{Answer}
use Rattle.rules.specs.declared.answer.Answer.TheVariants.{BadTable, TooShort, BadCell, BadTime, BadAnswer, Finished, NoRoom}
use Rattle.rules.specs.declared.event.Event.{Event}
use Rattle.rules.specs.Outcome.{Out, world, done, asks, short}
use Rattle.rules.specs.Table.{most_deep, Table, good, bad, rows, table}
use Rattle.rules.specs.Tree.{Tree, fresh, size}
use Rattle.rules.specs.Cells.{Found, faulty, none, bad_cell}
use Rattle.rules.specs.Call.{Run, Given, Left, run_length, bad_answer, cleaned_event, time_allowed, refused, walked, too_short, on_table, on_inputs, at_entry, walk_from, tick_call, restart_call}
use Rattle.rules.specs.Levels.{Levels, flat_left, entries, cleared, of_walk, no_room, with_room}
use Rattle.laws.specs.Tables.{tabled, fresh_fine}
use Rattle.laws.specs.Fresh.{made_fresh}
use Rattle.laws.specs.Memory.{held}
use Rattle.laws.specs.Zeros.{with_event, same_event, same_walk}
use Rattle.tables.specs.declared.table.BadTable.{BadTable as Misplaced}
use Rattle.tables.specs.Checks.{answered_of, first_bad, Standing, Tabled}
use Rattle.tables.proofs.Good.{found_good, found_bad}
use Rattle.cells.specs.Long.{Long, long}
use Rattle.load.specs.declared.found.Fault.{Fault}
use Rattle.load.specs.declared.found.Fault.TheVariants as fault
use Rattle.load.specs.Scans as S
use Rattle.load.specs.Scans.{Scanned, Lent, Accepted, Scans}
use Rattle.refusals.specs.Due.{call_of, whole_call, entries_of, begun, walk_with, Due, unmatched_as, Unmatched, timed_of, short_for, refused_as, Refuses, Passed}

-- ---- what the check of answers said
answered_bad : (o : Found) (r : Option ℕ) (i : ℕ) → r ≡ answered_of o → r ≡ Some i → o ≡ faulty i
answered_bad (faulty q) r i e h = cc
answered_bad (none q) r i e h = cc

answered_good : (o : Found) (r : Option ℕ) → r ≡ answered_of o → r ≡ None → (q : ℕ) × (o ≡ none q)
answered_good (faulty q) r e h = (0, cc)
answered_good (none q) r e h = (q, refl)

-- the event to use
used_test : (b : Bool) (e u : Event) → cond b (Some e) None ≡ Some u → (b ≡ true) × (u ≡ e)
used_test true e u h = (refl, cc)
used_test false e u h = (cc, cc)

unused_test : (b : Bool) (e : Event) → cond b (Some e) None ≡ None → b ≡ false
unused_test true e h = cc
unused_test false e h = refl

used_alike : (fresh : Bool) (g : Given) → call_of fresh (with_event (cleaned_event g.event) g) ≡ call_of fresh g
unfolding call_of
used_alike true g = same_event binary64 true g
used_alike false g = same_event binary64 false g

-- ---- a tick and a restart: what is due of a table's tree once its memory is found long enough, and what once its cells and its inputs pass
abbrev end_of : Bool → Given → Tree → Left
end_of true g t = walked g (at_entry g t) (walk_from binary64 g (fresh t))
end_of false g t = cond g.record'.finished (refused g Finished) (walked g (at_entry g t) (walk_from binary64 g (at_entry g t)))

abbrev due_of : Bool → Given → Tree → Left
due_of true g t = on_inputs g (end_of true g t)
due_of false g t = elim (bad_cell false false 0 (at_entry g t)) [ faulty p ↦ refused g (BadCell p) | none _ ↦ on_inputs g (end_of false g t) ]

call_is : (fresh : Bool) (g : Given) → call_of fresh g ≡ on_table g (due_of fresh g)
unfolding call_of tick_call restart_call
call_is true g = refl
call_is false g = refl

end_finished : (fresh : Bool) (g : Given) (t : Tree) → fresh ≡ false → g.record'.finished ≡ true → end_of fresh g t ≡ refused g Finished
end_finished fresh g t e f = rw (e, f)

-- the walk starts from the cells at entry, or from fresh ones
starts : (anew : Bool) (g : Given) (n : ℕ) (t : Tree) → begun true n t g.cells' ≡ fresh t → (anew ≡ false → g.record'.finished ≡ false)
    → end_of anew g t ≡ walked g (at_entry g t) (walk_from binary64 g (begun anew n t g.cells'))
starts true g n t z f = rw z
starts false g n t z f = rw (f refl)

-- ---- the room: a refusal that is not for it, and a walk
and_false : (b : Bool) → b && false ≡ false
and_false true = refl
and_false false = refl

module _ (fresh : Bool) (g : Given) where
  refuses : (k : ℕ) (a : Answer) → call_of fresh g ≡ refused g a → of_walk a ≡ false → ((r : Levels) → entries r ≡ k → no_room g r ≡ false) → Refuses fresh k g a
  refuses k a e w f true r q = rw (with_room, f r q, e, w)
  refuses k a e w f false r q = rw e

  enough : (t : Tree) (r : Levels) → table g.kinds g.ns g.limits ≡ good t → most_deep ≤ entries r → no_room g r ≡ false
  enough t r e h = rw (no_room, e, le-ltb (entries r) most_deep h) (and_false (not (too_short g (size t))))

of_walk_lem : (g : Given) (t : Tree) (o : Out Tree) → of_walk (walked g t o).answer ≡ true
of_walk_lem g t (done s x t' (world f ans)) = refl
of_walk_lem g t (asks n x) = refl
of_walk_lem g t short = refl

-- ---- 3
pub bad_table : (fresh : Bool) (k : ℕ) (g : Given) (p : ℕ) → table g.kinds g.ns g.limits ≡ bad p → Refuses fresh k g (BadTable p)
bad_table fresh k g p e = refuses fresh g k _ (call_is fresh g ∙ rw (on_table, e)) refl λ r q. rw (no_room, e)

-- ---- 4, of a table whose tree has n nodes
module _ (fresh : Bool) (k : ℕ) (g : Given) {t : Tree} {n : ℕ} (is : table g.kinds g.ns g.limits ≡ good t) (sized : size t ≡ n) where
  too_short_lem : too_short g n ≡ true → Refuses fresh k g TooShort
  too_short_lem e = refuses fresh g k _ (call_is fresh g ∙ rw (on_table, is, sized, e)) refl λ r q. rw (no_room, is, sized, e)

  module _ (long : too_short g n ≡ false) where
    room_found : call_of fresh g ≡ due_of fresh g t
    room_found = call_is fresh g ∙ rw (on_table, is, sized, long)

    -- ---- 13
    pub no_room_lem : k < most_deep → Refuses fresh k g NoRoom
    no_room_lem f = go
      where
        go : Refuses fresh k g NoRoom
        go true r q = rw (with_room, no_room, is, sized, long, lt-ltb (entries r) most_deep (rw q f))
        go false r q = absurd (omega (arith, q, f))

    module _ (room : most_deep ≤ k) where
      behind_room : (a : Answer) → call_of fresh g ≡ refused g a → of_walk a ≡ false → Refuses fresh k g a
      behind_room a e w = refuses fresh g k a e w λ r q. enough fresh g t r is (rw q room)

      -- ---- 9
      pub bad_cell_lem : fresh ≡ false → (p : ℕ) → bad_cell false false 0 (at_entry g t) ≡ faulty p → Refuses fresh k g (BadCell p)
      bad_cell_lem e p b = behind_room _ (room_found ∙ rw (e, due_of, b)) refl

-- which of the two, by the table's check alone
module _ (kinds ns : List ℕ) (limits : List Float) (ends₀ ends : List ℕ) (r : Result ℕ Misplaced) (k : Tabled most_deep kinds ns limits ends₀ ends r) where
  sized_rows : (t : Tree) → table kinds ns limits ≡ good t → size t ≡ length (rows kinds ns limits)
  unfolding table
  sized_rows t e = let s : Standing most_deep kinds ns limits ends t = rw e at k.tree in sym s.nodes

  pub unmatched_bad : (b : Misplaced) → r ≡ Err b → {a : Answer} → a ≡ BadTable b.0 → Unmatched kinds ns limits a
  unfolding table
  unmatched_bad b e h = record { says = rw (found_bad kinds ns limits ends₀ ends r k b e) h; sized = sized_rows }

  pub unmatched_good : (n : ℕ) → r ≡ Ok n → Unmatched kinds ns limits TooShort
  unfolding table
  unmatched_good n e = record { says = rw (found_good kinds ns limits ends₀ ends r k n e).is; sized = sized_rows }

-- memory that is too short for the rows is too short for the tree, which has a node in each
pub unmatched : (fresh : Bool) (k : ℕ) (g : Given) (n : ℕ) (a : Answer)
    → Unmatched g.kinds g.ns g.limits a
    → n ≡ length (rows g.kinds g.ns g.limits)
    → too_short g n ≡ true
    → Refuses fresh k g a
unmatched fresh k g n a u z e = go (table g.kinds g.ns g.limits) refl u.says
  where
    go : (x : Table) → table g.kinds g.ns g.limits ≡ x → a ≡ unmatched_as x → Refuses fresh k g a
    go (bad p) i s = rw s (bad_table fresh k g p i)
    go (good t) i s = rw s (too_short_lem fresh k g i (u.sized t i ∙ sym z) e)

-- ---- the pass over table and cells: what is asked, and what it found
long_all : (a b c : Bool) → not a || not b || not c ≡ false → (a ≡ true) × (b ≡ true) × (c ≡ true)
long_all true true true e = (refl, refl, refl)
long_all true true false e = (cc, cc, cc)
long_all true false c e = (cc, cc, cc)
long_all false b c e = (cc, cc, cc)

all_long : (g : Given) (n : ℕ) → too_short g n ≡ false → Long n g.cells' × Long n g.spare × (n ≤ length g.board)
all_long g n e =
    let l = long_all (leb n (run_length g.cells')) (leb n (run_length g.spare)) (leb n (length g.board)) e in
    (long n g.cells' l.0, long n g.spare l.1, leb-true n (length g.board) l.2)

pub lent : (g : Given) (n : ℕ) → n ≡ length (rows g.kinds g.ns g.limits) → too_short g n ≡ false
    → Lent g.kinds g.ns g.limits g.cells'.times g.cells'.places g.cells'.marks n
lent g n z e = let l = (all_long g n e).0 in record { nodes = z; times_long = l.times; places_long = l.places; marks_long = l.marks }

-- the pass over the cells as they were lent
abbrev pub Passing : Given → Bool → List ℕ → List ℕ → Scanned → Type 0
Passing g fresh ws₀ ws r = Scans g.kinds g.ns g.limits g.cells'.times g.cells'.places g.cells'.marks fresh ws₀ ws r

-- the table's tree and its words were found, it has its memory, and there is room
pub record Fit (fresh : Bool) (k : ℕ) (g : Given) (ws : List ℕ) (n : ℕ) : Type 0 where
  pub accepted : Accepted g.kinds g.ns g.limits g.cells'.times g.cells'.places g.cells'.marks fresh (replicate 260 0) ws n
  pub long : too_short g n ≡ false
  pub entries : most_deep ≤ k

module _ (fresh : Bool) (k : ℕ) (g : Given) (ws : List ℕ) (n : ℕ) where
  -- the cells that its walk starts from are fine; the walk is left, or 5, 6 or 2
  pub record Held : Type 0 where
    pub fit : Fit fresh k g ws n
    pub behind : ℕ
    pub fine : bad_cell false false 0 (begun fresh n fit.accepted.tree g.cells') ≡ none behind
    pub is : call_of fresh g ≡ on_inputs g (end_of fresh g fit.accepted.tree)

  -- u is the event to use
  pub record Timed (u : Event) : Type 0 where
    pub held : Held
    pub time : time_allowed g.event ≡ true
    pub clean : u ≡ cleaned_event g.event

  pub record Answerable (u : Event) : Type 0 where
    pub timed : Timed u
    pub count : ℕ
    pub fine : bad_answer 0 g.statuses g.leftovers ≡ none count

module _ {k : ℕ} {g : Given} {ws : List ℕ} {n : ℕ} where
  behind_fit : {fresh : Bool} → Fit fresh k g ws n → (a : Answer) → call_of fresh g ≡ refused g a → of_walk a ≡ false → Refuses fresh k g a
  behind_fit {fresh} t a e w = behind_room fresh k g t.accepted.is t.accepted.sized t.long t.entries a e w

  starts_fresh : {anew : Bool} (t : Fit anew k g ws n) → begun true n t.accepted.tree g.cells' ≡ fresh t.accepted.tree
  starts_fresh t = rw t.accepted.sized at (made_fresh t.accepted.tree (tabled g.kinds g.ns g.limits t.accepted.tree t.accepted.is).0)

  -- a tick's cells were looked at, a restart's were not
  pub held_cells : (anew : Bool) → Fit anew k g ws n → Held anew k g ws n
  held_cells true t =
      let f = fresh_fine t.accepted.tree false 0 in
      record { fit = t; behind = f.0; fine = rw (starts_fresh t) f.1; is = room_found true k g t.accepted.is t.accepted.sized t.long }
  held_cells false t =
      let f = t.accepted.fine refl in
      record { fit = t; behind = t.accepted.behind; fine = f; is = room_found false k g t.accepted.is t.accepted.sized t.long ∙ rw (due_of, f) }

-- the cells are looked at through runs that are the same
module _ (g : Given) {cs : Run} (c : cs ≡ g.cells') where
  pub as_lent : (fresh : Bool) (ws₀ ws : List ℕ) (r : Scanned) → Scans g.kinds g.ns g.limits cs.times cs.places cs.marks fresh ws₀ ws r → Passing g fresh ws₀ ws r
  as_lent fresh ws₀ ws r s = rw c at s

  pub as_held : (n : ℕ) → Lent g.kinds g.ns g.limits g.cells'.times g.cells'.places g.cells'.marks n → Lent g.kinds g.ns g.limits cs.times cs.places cs.marks n
  as_held n l = rw c l

  pub as_short : {ss : Run} → ss ≡ g.spare → (n : ℕ) {r : Bool} → r ≡ short_for n cs ss g.board → r ≡ too_short g n
  as_short s n e = rw (c, s) at e

-- what the pass refused, and what it found, of a call whose memory is as long as its rows
module _ (fresh : Bool) (k : ℕ) (g : Given) (m : ℕ) (is : m ≡ length (rows g.kinds g.ns g.limits)) (long : too_short g m ≡ false) where
  pub refused_lem : (ws₀ ws : List ℕ) {r : Scanned} → Passing g fresh ws₀ ws r → (f : Fault) → r ≡ Err f → {a : Answer} → a ≡ refused_as f k → Refuses fresh k g a
  refused_lem ws₀ ws s (fault.Table p) e h = rw h (bad_table fresh k g p (rw e at s))
  refused_lem ws₀ ws s (fault.Cell p) e h =
      let f : (fresh ≡ false) × S.Faulty g.kinds g.ns g.limits g.cells'.times g.cells'.places g.cells'.marks p = rw e at s in
      go (leb most_deep k) refl h f
    where
      go : (b : Bool) → leb most_deep k ≡ b → {a : Answer} → a ≡ cond b (BadCell p) NoRoom
          → (fresh ≡ false) × S.Faulty g.kinds g.ns g.limits g.cells'.times g.cells'.places g.cells'.marks p → Refuses fresh k g a
      go true t h f = rw h (bad_cell_lem fresh k g f.1.is (f.1.sized ∙ sym is) long (leb-true most_deep k t) f.0 p f.1.bad_at)
      go false t h f = rw h (no_room_lem fresh k g f.1.is (f.1.sized ∙ sym is) long (leb-false most_deep k t))

  pub no_room_found : (ws₀ ws : List ℕ) {r : Scanned} {n : ℕ} → Passing g fresh ws₀ ws r → r ≡ Ok n → k < most_deep → Refuses fresh k g NoRoom
  no_room_found ws₀ ws s e h =
      let a = rw e at s in
      no_room_lem fresh k g a.is (a.sized ∙ a.nodes ∙ sym is) long h

  pub found : (ws₀ ws : List ℕ) {r : Scanned} {n : ℕ} → Passing g fresh ws₀ ws r → r ≡ Ok n → ws₀ ≡ replicate 260 0 → most_deep ≤ k → Held fresh k g ws n
  found ws₀ ws s e z room =
      let a = rw (e, z) at s in
      held_cells fresh (record { accepted = a; long = ap (λ (n : ℕ). too_short g n) (a.nodes ∙ sym is) ∙ long; entries = room })

module _ {fresh : Bool} {k : ℕ} {g : Given} {ws : List ℕ} {n : ℕ} where
  -- ---- 5
  module _ (t : Held fresh k g ws n) {r : Option Event} (c : r ≡ timed_of g.event) where
    pub bad_time : r ≡ None → Refuses fresh k g BadTime
    bad_time h = behind_fit t.fit _ (rw (t.is, unused_test (time_allowed g.event) (cleaned_event g.event) (sym c ∙ h))) refl

    pub fine_time : (u : Event) → r ≡ Some u → Timed fresh k g ws n u
    fine_time u h = let b = used_test (time_allowed g.event) (cleaned_event g.event) u (sym c ∙ h) in record { held = t; time = b.0; clean = b.1 }

  -- ---- 6
  module _ {u : Event} (t : Timed fresh k g ws n u) {r : Option ℕ} (c : r ≡ first_bad g.statuses g.leftovers) where
    pub bad_answer_lem : (i : ℕ) → r ≡ Some i → Refuses fresh k g (BadAnswer i)
    unfolding first_bad
    bad_answer_lem i h = behind_fit t.held.fit _ (rw (t.held.is, t.time, answered_bad (bad_answer 0 g.statuses g.leftovers) r i c h)) refl

    pub fine_answers : r ≡ None → Answerable fresh k g ws n u
    unfolding first_bad
    fine_answers h = let a = answered_good (bad_answer 0 g.statuses g.leftovers) r c h in record { timed = t; count = a.0; fine = a.1 }

  -- ---- 2, and the walk
  module _ {u : Event} (t : Answerable fresh k g ws n u) where
    abbrev the_tree : Tree
    the_tree = t.timed.held.fit.accepted.tree

    passes : call_of fresh g ≡ end_of fresh g the_tree
    passes = rw (t.timed.held.is, t.timed.time, t.fine)

    pub finished : fresh ≡ false → g.record'.finished ≡ true → Refuses fresh k g Finished
    finished e f = behind_fit t.timed.held.fit _ (passes ∙ end_finished fresh g the_tree e f) refl

    abbrev clean : Given
    clean = with_event (cleaned_event g.event) g

    walks : (fresh ≡ false → g.record'.finished ≡ false)
        → call_of fresh clean ≡ walked clean (at_entry g the_tree) (walk_with binary64 clean (begun fresh n the_tree g.cells'))
    walks f =
        used_alike fresh g ∙ passes ∙ starts fresh g n the_tree (starts_fresh t.timed.held.fit) f
        ∙ sym (same_walk g (cleaned_event g.event) (at_entry g the_tree) (walk_from binary64 g (begun fresh n the_tree g.cells')))

    due_clean : (fresh ≡ false → g.record'.finished ≡ false) → Due fresh clean ws n
    due_clean f =
        let fit = t.timed.held.fit in
        let l = all_long g n fit.long in
        record {
          tree = fit.accepted.tree;
          is = fit.accepted.is;
          sized = fit.accepted.sized;
          few = fit.accepted.few;
          levels = fit.accepted.levels;
          ends = fit.accepted.ends;
          stands = fit.accepted.stands;
          words = fit.accepted.words;
          behind = t.timed.held.behind;
          fine = t.timed.held.fine;
          cells_long = l.0;
          spare_long = l.1;
          board_long = l.2;
          walks = walks f;
        }

    pub due : (fresh ≡ false → g.record'.finished ≡ false) → Passed fresh k g ws (Ok (n, u))
    due f = rw t.timed.clean (t.timed.held.fit.entries, used_alike fresh g, due_clean f)

-- what `?` hands on
pub handed : (fresh : Bool) (k : ℕ) (g : Given) (ws : List ℕ) (r : Result (ℕ × Event) Answer) (a : Answer)
    → IsErr r × IsErrAnd r (λ (b : Answer). b ≡ a) → Refuses fresh k g a → Passed fresh k g ws r
handed fresh k g ws (Ok p) a h f = absurd (false≢true h.0)
handed fresh k g ws (Err b) a h f = rw h.1 f

pub no_time : (o : Option Event) (a : Answer) → ok_or o BadTime ≡ Err a → (o ≡ None) × (a ≡ BadTime)
no_time None a e = (refl, cc)
no_time (Some u) a e = (cc, cc)

pub a_time : (o : Option Event) (u : Event) → ok_or o BadTime ≡ Ok u → o ≡ Some u
a_time None u e = cc
a_time (Some v) u e = cc

-- ---- what the checks leave, told by their answer
module _ (fresh : Bool) (k : ℕ) (g : Given) (ws : List ℕ) (o : Result (ℕ × Event) Answer) (p : Passed fresh k g ws o) where
  pub passed_refused : (a : Answer) → o ≡ Err a → Refuses fresh k g a
  passed_refused a e = rw e at p

  pub passed_open : (n : ℕ) (u : Event) → o ≡ Ok (n, u) → Passed fresh k g ws (Ok (n, u))
  passed_open n u e = rw e at p

  -- a walk leaves the entries zero
  pub passed_on : (n : ℕ) (u : Event) (l : Left) → o ≡ Ok (n, u) → call_of fresh (with_event u g) ≡ l → (flat : Bool) (r r' : Levels) → entries_of flat r ≡ k → r' ≡ cond flat (cleared r) r
      → whole_call flat fresh g r ≡ flat_left l r'
  passed_on n u l e h true r r' q z =
      let passed = passed_open n u e in
      let due = passed.2 in
      let walk : of_walk (call_of fresh g).answer ≡ true = rw (← passed.1, due.walks) (of_walk_lem (with_event u g) (held due.tree g.cells')
      (walk_with binary64 (with_event u g) (begun fresh n due.tree g.cells'))) in
      rw (with_room, enough fresh g due.tree r due.is (rw q passed.0), walk, ← passed.1, h, z)
  passed_on n u l e h false r r' q z = rw (← (passed_open n u e).1, h, z)
