-- The walk over the working array is the walk of the tree: what each way of it leaves is what the rules say.
use mathlib.Core.Path.{◌≡◌, refl, sym, ap, ◌∙◌}
use mathlib.Core.Bool.{Bool, true, false, cond}
use mathlib.Core.List.{List, ◌++◌, append-nil}
use Prim.Native.Nat.{ℕ, zero, suc, ◌-◌, ◌^◌, ◌≤◌, ◌<◌, min}
use native.Mathlib.Numerals.{sub-one}
use native.Mathlib.Omega.{arith}
use borrow.Author.Tests.{eq-eqb, ne_eqb}
use lib.Dec.{eqb}
use lib.Ieee.{Float, binary64}
use lib.ListN.{length, get_or, set, take, drop, replicate, take-append-drop, length-drop, length-replicate}
use lib.Seq.{length-take-le, take-append-le, take_at, drop_at}
use Rattle.rules.specs.declared.status.Status.{Status}
use Rattle.rules.specs.declared.status.Status.TheVariants as status
use Rattle.rules.specs.declared.event.Event.{Event}
use Rattle.rules.specs.declared.event.Event.TheVariants.{Update, Other}
use Rattle.rules.specs.declared.answer.Answer.{Answer}
use Rattle.rules.specs.declared.answer.Answer.TheVariants.{Ticked, Asked, OutOfFuel}
use Rattle.rules.specs.declared.answer.Record.{Record}
use Rattle.rules.specs.Tree.{Cell, zero_time, fresh_cell, Tree, size, depth}
use Rattle.rules.specs.Outcome.{event_of, dt, world, Out, done, asks, short}
use Rattle.rules.specs.Table.{most_deep}
use Rattle.rules.specs.Cells.{cells, with_cells, column, time_of, place_of, mark_of}
use Rattle.rules.specs.Board.{shown}
use Rattle.rules.specs.Call.{Given, Run, run, Left, left, answers, counted, onto_run, onto_board, since_in, spared, walked}
use Rattle.laws.specs.Shape.{size_shape, depth_shape}
use Rattle.laws.specs.Memory.{held, with_shape}
use Rattle.cells.specs.Long.{Long}
use Rattle.work.specs.declared.result.Visit.{Visit}
use Rattle.work.specs.declared.result.Seen.{Seen}
use Rattle.work.specs.declared.result.Seen.TheVariants.{Stopped, Running, Success, Failure}
use Rattle.work.specs.Word as word
use Rattle.work.specs.Array.{asked_of}
use Rattle.work.specs.Flat.{out, seen_as, lent}
use Rattle.work.specs.Flat as flat
use Rattle.refine.specs.Words.{bit, working, Fits}
use Rattle.refine.specs.Start.{fuel_left, used_up}
use Rattle.refine.specs.Whole.{Ended, Gives, whole}
use Rattle.settle.specs.Back.{over, stamped_over}
use Rattle.load.specs.Scans.{start_from}
use Rattle.load.specs.Trees.{Loads, lent_loads, fresh_loads, loaded, holds, fits}
use Rattle.settle.specs.Put.{put_places, put_marks, put_sinces, put_board}
use Rattle.shown.specs.Show.{ended_words}
use Rattle.shown.specs.Shown.{shown_words, size_shown, fits_shown, places_shown, marks_shown, sinces_shown}
use Rattle.cells.specs.Onto.{onto, onto_cells}
use Rattle.refusals.specs.Due.{call_of, start_of, begun, walk_with, Due}
use Rattle.refusals.specs.Enter.{updates}
use Rattle.told.specs.Told.{status_in, told_stopped, told_done}
use Rattle.settle.specs.Settled.{Settled, has_stopped, settled_as}
use Rattle.call.proofs.Columns.{read, with_column, cells_run, column_behind, time_column, place_column, mark_column}

-- ---- lists
onto_same : {A : Type 0} (n : ℕ) (l m : List A) → drop n l ≡ drop n m → onto n l m ≡ l
onto_same n l m e = rw (← e) (take-append-drop n l)

-- copied onto the spare and put back
onto_back : {A : Type 0} (n : ℕ) (l spare m : List A) → n ≤ length l → drop n m ≡ drop n l → onto n (onto n l spare) m ≡ l
onto_back n l spare m h e = rw (take_at (take n l) (drop n spare) n (length-take-le n l h), e) (take-append-drop n l)

-- ---- statuses
status_back : (s : Status) → status_in (seen_as s) ≡ s
status_back status.Running = refl
status_back status.Success = refl
status_back status.Failure = refl

-- a walk that has not stopped
abbrev pub Goes : Seen → Type 0
Goes s = (t : Status) × (s ≡ seen_as t)

no_goes : Goes Stopped → ⊥
no_goes (status.Running, e) = let z : ◌≡◌ {A = ℕ} 0 1 = cc in omega arith
no_goes (status.Success, e) = let z : ◌≡◌ {A = ℕ} 0 1 = cc in omega arith
no_goes (status.Failure, e) = let z : ◌≡◌ {A = ℕ} 0 1 = cc in omega arith

goes_not : {s : Seen} {l l₁ : Float} {ws ws₁ : List ℕ} {ts ts₁ : List Float} → out s l ws ts ≡ out Stopped l₁ ws₁ ts₁ → Goes s → ⊥
goes_not {s} e g = let f : s ≡ Stopped = cc in no_goes (rw f at g)

stops_not : {s : Seen} {l l₁ : Float} {ws ws₁ : List ℕ} {ts ts₁ : List Float} (t : Status) → out s l ws ts ≡ out (seen_as t) l₁ ws₁ ts₁ → s ≡ Stopped → ⊥
stops_not t e f = no_goes (t, cc)

-- an event in two parts, whether it is an update and the dt that it carries, is that event
parted : (e : Event) → event_of (updates e) (dt e) ≡ e
parted (Update x) = refl
parted Other = refl

asked_number : (a : ℕ) (ns : List ℕ) (p m : ℕ) (x : Float) → a ≡ suc p → get_or ns p 0 ≡ m → cond (eqb a 0) OutOfFuel (Asked (get_or ns (a - 1) 0) x) ≡ Asked m x
asked_number a ns p m x e f = rw (ne_eqb a 0 (λ z. omega arith), e, sub-one (suc p), f)

-- ---- what a walk is begun with: the places and marks that its words are made of are those of the cells that it starts from, whose times stand before those that stay
pub record Begun (fresh : Bool) (c : Run) (n : ℕ) (ts : List Float) : Type 0 where
  pub long : n ≤ length (start_of fresh n c)
  pub loads : Loads fresh (start_from fresh n c.places) (start_from fresh n c.marks) (start_of fresh n c)
  pub times : take n ts ≡ take n (read time_of (start_of fresh n c))
  pub behind : drop n ts ≡ drop n c.times

read_fresh : (n : ℕ) → read time_of (replicate n fresh_cell) ≡ replicate n zero_time
read_fresh zero = refl
read_fresh (suc n) = ap (λ (l : List Float). List.◌∷◌ zero_time l) (read_fresh n)

module _ (fresh : Bool) (c : Run) (n : ℕ) (ts : List Float) where
  pub begun_fresh : fresh ≡ true → ts ≡ replicate n zero_time ++ drop n c.times → Begun fresh c n ts
  begun_fresh e t =
      let zeros : List Float = replicate n zero_time in
      let zeros-long = length-replicate n zero_time in
      rw e (record {
        long = omega (arith, length-replicate n fresh_cell);
        loads = fresh_loads n;
        times = rw (t, read_fresh n, take-append-le n zeros (drop n c.times) (omega arith));
        behind = rw (t, drop_at zeros (drop n c.times) n zeros-long);
      })

  pub begun_held : fresh ≡ false → Long n c → ts ≡ c.times → Begun fresh c n ts
  begun_held e l t =
      let cut = cells_run n c.times c.places c.marks l.times l.places l.marks in
      rw (e, t) (record {
        long = cut.enough;
        loads = lent_loads c.times c.places c.marks;
        times = sym cut.times;
        behind = refl;
      })

-- ---- columns
column_front : {A : Type 0} (f : Cell → ℕ → A) (t : Tree) (n : ℕ) (front m : List A) → size t ≡ n → column f t List.[] ≡ front → column f t (drop (size t) m) ≡ front ++ drop n m
column_front f t n front m s e = rw (s, column_behind f t (drop n m), e)

module _ {fresh : Bool} {g : Given} {ws₀ : List ℕ} {n : ℕ} (due : Due fresh g ws₀ n) where
  abbrev given_answers : List (Status × Float)
  given_answers = answers g.statuses g.leftovers

  -- the tree that the cells at entry hold, and the one that the walk starts from
  abbrev before : Tree
  before = held due.tree g.cells'

  abbrev start : List Cell
  start = start_of fresh n g.cells'

  abbrev tree : Tree
  tree = begun fresh n due.tree g.cells'

  abbrev outcome : Out Tree
  outcome = walk_with binary64 g tree

  sized : (cs : List Cell) → size (with_cells due.tree cs).0 ≡ n
  sized cs = size_shape (with_cells due.tree cs).0 due.tree (with_shape due.tree cs) ∙ due.sized

  tree_deep : depth tree ≤ most_deep
  tree_deep = rw (depth_shape tree due.tree (with_shape due.tree start)) due.levels

  -- a run of n cells or more is long enough for the tree, and the tree that it holds has its columns
  module _ (r : Run) (l : Long n r) where
    long_times : size due.tree ≤ length r.times
    long_times = rw due.sized l.times

    long_places : size due.tree ≤ length r.places
    long_places = rw due.sized l.places

    long_marks : size due.tree ≤ length r.marks
    long_marks = rw due.sized l.marks

    times_of : (behind : List Float) → column time_of (held due.tree r) behind ≡ take n r.times ++ behind
    times_of behind = rw due.sized at (time_column due.tree r.times r.places r.marks long_times long_places long_marks behind)

    places_of : (behind : List ℕ) → column place_of (held due.tree r) behind ≡ take n r.places ++ behind
    places_of behind = rw due.sized at (place_column due.tree r.times r.places r.marks long_times long_places long_marks behind)

    marks_of : (behind : List ℕ) → column mark_of (held due.tree r) behind ≡ take n r.marks ++ behind
    marks_of behind = rw due.sized at (mark_column due.tree r.times r.places r.marks long_times long_places long_marks behind)

  -- the spare has the cells at entry
  spares : spared g before ≡ onto_cells n g.cells' g.spare
  unfolding onto_run
  spares =
      let c = g.cells' in
      let l = due.cells_long in
      rw (sized (cells c.times c.places c.marks)) λ i. run
      (times_of c l (drop n g.spare.times) i)
      (places_of c l (drop n g.spare.places) i)
      (marks_of c l (drop n g.spare.marks) i)
      (onto n c.sinces g.spare.sinces)

  module _ (r : Visit) (ws : List ℕ) (ts₀ ts : List Float)
      (starts : Begun fresh g.cells' n ts₀)
      (walk : flat.tick binary64 (lent g.limits g.statuses g.leftovers) most_deep 0 (dt g.event)
      (set (set ws₀ 256 g.fuel) 259 (bit (updates g.event))) (take n ts₀)
      ≡ out r.seen r.left ws (take n ts))
      (stays : drop n ts ≡ drop n ts₀)
      (small : g.fuel < 2 ^ 32)
      (spare : Run) (copied : spare ≡ onto_cells n g.cells' g.spare) where
    behind : drop n ts ≡ drop n g.cells'.times
    behind = stays ∙ starts.behind

    abbrev Given-out : Out Tree → Type 0
    Given-out o = Gives g.ns g.statuses g.leftovers g.fuel (updates g.event) List.[] n o (out r.seen r.left ws (take n ts))

    words_loaded : set (set ws₀ 256 g.fuel) 259 (bit (updates g.event)) ≡ working tree g.fuel 0 (updates g.event)
    words_loaded =
        let few : size due.tree ≤ 256 = rw due.sized due.few in
        let long : size due.tree ≤ length start = rw due.sized starts.long in
        rw due.words (rw due.sized at (loaded fresh g.kinds g.ns g.limits due.ends (start_from fresh n g.cells'.places) (start_from fresh n g.cells'.marks) start
        due.tree g.fuel (updates g.event) starts.loads due.stands few long))

    times_at_start : column time_of tree List.[] ≡ take n ts₀
    times_at_start =
        let long : size due.tree ≤ length start = rw due.sized starts.long in
        rw starts.times (rw (append-nil, due.sized) at (with_column time_of due.tree start List.[] long))

    given_out : Given-out outcome
    given_out =
        let h = holds g.kinds g.ns g.limits due.ends due.tree start due.stands in
        let f = fits g.kinds g.ns g.limits due.ends due.tree start due.behind due.stands due.fine in
        let w = whole binary64 g.ns g.limits g.statuses g.leftovers tree (updates g.event) (dt g.event) g.fuel List.[] h f tree_deep (rw (sized start) due.few) small in
        rw (parted g.event, ← words_loaded, times_at_start, walk, sized start) at w

    spare_left : spared g before ≡ spare
    spare_left = spares ∙ sym copied

    -- ---- a walk to its end
    module _ (goes : Goes r.seen) (ws' : List ℕ) (shows : ws' ≡ ended_words 0 n ws)
        (a : Answer) (lent : ℕ) (all : lent ≡ length given_answers) (says : a ≡ told_done ws' r g.fuel lent)
        (rec : Record) (counts : rec ≡ counted (status_in r.seen) g.record')
        (ps ms ss bs : List ℕ) (puts : ps ≡ over word.place_of n ws' g.cells'.places) (putm : ms ≡ over word.mark_of n ws' g.cells'.marks)
        (stamps : ss ≡ stamped_over rec.ticks n ws' g.cells'.sinces) (putb : bs ≡ over word.seen_of n ws' g.board) where
      module _ (s : Status) (x : Float) (t : Tree) (f : ℕ) (ans : List (Status × Float))
          (e : Ended g.statuses g.leftovers g.fuel (updates g.event) List.[] n s x t f ans (out r.seen r.left ws (take n ts))) where
        seen_is : r.seen ≡ seen_as s
        seen_is = let f = e.is in cc

        left_is : r.left ≡ x
        left_is = let f = e.is in cc

        words_are : ws ≡ working t f e.used (updates g.event)
        words_are = let f = e.is in cc

        times_are : column time_of t List.[] ≡ take n ts
        times_are = let f = e.is in cc

        few : size t ≤ 256
        few = omega (arith, e.sized, due.few)

        -- the tree that is shown
        words_shown : ws' ≡ working (shown t) f e.used (updates g.event)
        words_shown = rw (shows, words_are, ← e.sized) (shown_words t f e.used (updates g.event) e.fits few)

        few_shown : size (shown t) ≤ 256
        few_shown = rw (size_shown 0 t) few

        sized_shown : size (shown t) ≡ n
        sized_shown = size_shown 0 t ∙ e.sized

        fits_then : Fits (shown t)
        fits_then = fits_shown 0 t e.fits

        used : length given_answers - length ans ≡ min e.used lent
        used = rw (e.left, length-drop e.used given_answers, all) (omega arith)

        says_ticked : Ticked s x (g.fuel - f) (length given_answers - length ans) ≡ a
        says_ticked = rw (
          says,
          seen_is,
          status_back s,
          left_is,
          words_shown,
          fuel_left (shown t) f e.used (updates g.event) few_shown,
          used_up (shown t) f e.used (updates g.event) few_shown,
          used,
        )

        places_left : column place_of t (drop (size t) g.cells'.places) ≡ ps
        places_left = rw (puts, words_shown, ← sized_shown, ← places_shown t, ← size_shown 0 t) (sym (put_places (shown t) f e.used (updates g.event) g.cells'.places fits_then few_shown))

        marks_left : column mark_of t (drop (size t) g.cells'.marks) ≡ ms
        marks_left = rw (putm, words_shown, ← sized_shown, ← marks_shown t, ← size_shown 0 t) (sym (put_marks (shown t) f e.used (updates g.event) g.cells'.marks fits_then few_shown))

        counts_left : counted s g.record' ≡ rec
        counts_left = rw (counts, seen_is, status_back s)

        sinces_left : since_in g s t ++ drop (size t) g.cells'.sinces ≡ ss
        sinces_left = rw (stamps, words_shown, ← sized_shown, ← sinces_shown t, ← size_shown 0 t, counts_left)
            (sym (put_sinces rec.ticks (shown t) f e.used (updates g.event) g.cells'.sinces fits_then few_shown))

        board_left : onto_board (shown t) g.board ≡ bs
        unfolding onto_board
        board_left = rw (putb, words_shown, ← sized_shown) (sym (put_board (shown t) f e.used (updates g.event) g.board fits_then few_shown))

        cells_left : onto_run (since_in g s t) t g.cells' ≡ run ts ps ms ss
        unfolding onto_run
        cells_left = λ i. run
            ((column_front time_of t n (take n ts) g.cells'.times e.sized times_are ∙ onto_same n ts g.cells'.times behind) i)
            (places_left i)
            (marks_left i)
            (sinces_left i)

        ends_so : walked g before (done s x t (world f ans)) ≡ left a rec (run ts ps ms ss) spare bs
        ends_so = λ i. left (says_ticked i) (counts_left i) (cells_left i) (spare_left i) (board_left i)

      goes_so : (o : Out Tree) → Given-out o → walked g before o ≡ left a rec (run ts ps ms ss) spare bs
      goes_so (done s x t (world f ans)) e = ends_so s x t f ans e
      goes_so (asks m x) e = absurd (goes_not e.is goes)
      goes_so short e = absurd (goes_not e.is goes)

      carried : call_of fresh g ≡ left a rec (run ts ps ms ss) spare bs
      carried = due.walks ∙ goes_so outcome given_out

    -- ---- a question, or too little fuel: the times are put back
    module _ (stopped : r.seen ≡ Stopped) (a : Answer) (says : a ≡ told_stopped ws g.ns r) (back : List Float) (puts : back ≡ onto n spare.times ts) where
      times_back : g.cells'.times ≡ back
      times_back = rw (puts, copied) (sym (onto_back n g.cells'.times g.spare.times ts due.cells_long.times behind))

      cells_back : g.cells' ≡ run back g.cells'.places g.cells'.marks g.cells'.sinces
      cells_back = λ i. run (times_back i) g.cells'.places g.cells'.marks g.cells'.sinces

      stops : (o : Out Tree) → Given-out o → walked g before o ≡ left a g.record' (run back g.cells'.places g.cells'.marks g.cells'.sinces) spare g.board
      stops (done s x t (world f ans)) e = absurd (stops_not s e.is stopped)
      stops (asks m x) e =
          let asking : a ≡ Asked m x =
          let w : ws ≡ e.words = (let i = e.is in cc) in
          let l : r.left ≡ x = (let i = e.is in cc) in
          rw (says, l) (asked_number (asked_of ws) g.ns e.place m x (rw w e.asked) e.number) in
          λ i. left (sym asking i) g.record' (cells_back i) (spare_left i) g.board
      stops short e =
          let w : ws ≡ e.words = (let i = e.is in cc) in
          let out-of-fuel : a ≡ OutOfFuel = rw (says, eq-eqb (asked_of ws) 0 (rw w e.asked)) in
          λ i. left (sym out-of-fuel i) g.record' (cells_back i) (spare_left i) g.board

      put_back : call_of fresh g ≡ left a g.record' (run back g.cells'.places g.cells'.marks g.cells'.sinces) spare g.board
      put_back = due.walks ∙ stops outcome given_out

    -- ---- either way, what is settled behind the walk is what the call leaves
    module _ (lent : ℕ) (all : lent ≡ length given_answers) where
      abbrev settling : Settled
      settling = settled_as r g.ns n g.fuel lent g.record' (run ts g.cells'.places g.cells'.marks g.cells'.sinces) spare.times g.board ws

      abbrev leaving : Settled → Left
      leaving x = left x.answer x.record' x.cells' spare x.board

      going : has_stopped r.seen ≡ false → Goes r.seen → call_of fresh g ≡ leaving settling
      going e goes = rw e (carried goes _ refl _ lent all refl _ refl _ _ _ _ refl refl refl refl)

      settling_so : (s : Seen) → r.seen ≡ s → call_of fresh g ≡ leaving settling
      settling_so Stopped e = rw e (put_back e _ refl _ refl)
      settling_so Running e = going (rw e) (status.Running, e)
      settling_so Success e = going (rw e) (status.Success, e)
      settling_so Failure e = going (rw e) (status.Failure, e)

      pub settles : (x : Settled) → settling ≡ x → call_of fresh g ≡ leaving x
      settles x e = settling_so r.seen refl ∙ ap leaving e
