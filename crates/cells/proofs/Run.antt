-- The cell check's loop: the open nodes as frames, each with the trees that are still to be checked in it.
use mathlib.Core.Path.{◌≡◌, refl, sym, ap, subst, ◌∙◌}
use mathlib.Core.Bool.{Bool, true, false, cond, ◌&&◌, ◌||◌}
use mathlib.Core.List.{List}
use Rattle.std.proofs.Common.{Ok, Err}
use Prim.Native.Nat.{ℕ, zero, suc, ◌+◌, ◌-◌, ◌≤◌, ◌<◌}
use native.Mathlib.Numerals.{add-one}
use native.Mathlib.Omega.{arith}
use borrow.Author.Tests.{lt-ltb, le-ltb, eqb-true}
use lib.Dec.{ltb, eqb}
use lib.Ieee.{Float}
use lib.ListN.{length, get_or, set}
use lib.Seq.{get_or-set_same, get_or-set_other}
use Rattle.rules.specs.declared.behavior.Kind.{Kind}
use Rattle.rules.specs.Kinds.{kind_of, marks_children}
use Rattle.rules.specs.Tree.{Cell, Tree, node, Forest, [], ◌◂◌}
use Rattle.rules.specs.Table.{zero_bits}
use Rattle.rules.specs.Cells.{cell_allowed, ended_in, Found, faulty, none, bad_cell, bad_cells}
use Rattle.tables.proofs.Placed.{Alike}
use Rattle.cells.specs.Check.{bad_at, said, open_of}
use Rattle.cells.proofs.Still.{one, top_stays, top_drops}
use Rattle.cells.proofs.Held.{cell_at, Node, Held, Helds, held_lt, helds_le}

-- ---- what follows a part without a bad cell
after : Found → (ℕ → Found) → Found
after (faulty p) f = faulty p
after (none at) f = f at

after_after : (x : Found) (f g : ℕ → Found) → after (after x f) g ≡ after x (λ at. after (f at) g)
unfolding after
after_after (faulty p) f g = refl
after_after (none at) f g = refl

-- ended, may-end, the trees, and where they end
data Frame : Type 0 where
  frame : Bool → Bool → Forest → ℕ → Frame

unfoldable run : List Frame → ℕ → Found
run List.[] at = none at
run (List.◌∷◌ (frame e m ts stop) σ) at = after (bad_cells e m at ts) (run σ)

split : (x : Found) (f : ℕ → Found) → elim x [ faulty p ↦ faulty p | none at ↦ f at ] ≡ after x f
unfolding after
split (faulty p) f = refl
split (none at) f = refl

run_none : (e m : Bool) (stop : ℕ) (σ : List Frame) (at : ℕ) → run (List.◌∷◌ (frame e m [] stop) σ) at ≡ run σ at
unfolding run bad_cell after
run_none e m stop σ at = refl

bad_cons :
    (e m : Bool) (at : ℕ) (t : Tree) (us : Forest) →
    bad_cells e m at (t ◂ us) ≡ after (bad_cell e m at t) (λ a. bad_cells e m a us)
unfolding bad_cell
bad_cons e m at t us = split (bad_cell e m at t) (λ a. bad_cells e m a us)

module _ (e m : Bool) (k : Kind) (n : ℕ) (l : Float) (c : Cell) (b : ℕ) (ts us : Forest) (stop : ℕ) (σ : List Frame) (at : ℕ) where
  inner : Found
  inner = bad_cells (e || ended_in c) (marks_children k) (suc at) ts

  bad_node : bad_cell e m at (node k n l c b ts) ≡ cond (cell_allowed e m k n c) inner (faulty at)
  unfolding bad_cell inner
  bad_node = refl

  abbrev frames : List Frame
  frames = List.◌∷◌ (frame e m (node k n l c b ts ◂ us) stop) σ

  at_node :
      (x : Bool) → cell_allowed e m k n c ≡ x →
      run frames at ≡ after (after (cond x inner (faulty at)) (λ a. bad_cells e m a us)) (run σ)
  unfolding run
  at_node x h =
      let first = bad_node ∙ ap (λ (z : Bool). cond z inner (faulty at)) h in
      let all = bad_cons e m at (node k n l c b ts) us ∙ ap (λ (y : Found). after y (λ a. bad_cells e m a us)) first in
      ap (λ (y : Found). after y (run σ)) all

  run_bad : cell_allowed e m k n c ≡ false → run frames at ≡ faulty at
  unfolding after
  run_bad h = at_node false h

  run_good :
      (stop' : ℕ) → cell_allowed e m k n c ≡ true →
      run frames at ≡
      run (List.◌∷◌ (frame (e || ended_in c) (marks_children k) ts stop') (List.◌∷◌ (frame e m us stop) σ)) (suc at)
  unfolding run inner
  run_good stop' h = at_node true h ∙ after_after inner (λ a. bad_cells e m a us) (run σ)

-- ---- the frames in the code's arrays
-- all that is left below an ended child ends by `until`; otherwise nothing is left before it
abbrev Flag : Bool → ℕ → ℕ → ℕ → Type 0
Flag true until at stop = stop ≤ until
Flag false until at stop = until ≤ at

module _ (kinds ns ends : List ℕ) (times : List Float) (places marks : List ℕ) (n : ℕ) where
  abbrev Zip : List ℕ → List Bool → ℕ → List Frame → ℕ → ℕ → Type 0
  Zip stops may until List.[] d at = at ≡ n
  Zip stops may until (List.◌∷◌ (frame e m ts stop) σ) d at =
      Helds kinds ns ends times places marks ts d at stop × ((get_or stops (length σ) 0 ≡ stop) ×
      ((get_or may (length σ) false ≡ m) × (Flag e until at stop × Zip stops may until σ (suc d) stop)))

  -- in front of the cell at `at`
  pub record Scanned (stops : List ℕ) (may : List Bool) (open' until at : ℕ) (answer : Found) : Type 0 where
    deep : ℕ
    frames : List Frame
    level : open' ≡ length frames
    levels : deep + length frames ≡ 17
    zip : Zip stops may until frames deep at
    runs : run frames at ≡ answer

  -- ... which is there, in the last open node
  pub record Ready (stops : List ℕ) (may : List Bool) (open' until at : ℕ) (answer : Found) : Type 0 where
    deep : ℕ
    e : Bool
    m : Bool
    k : Kind
    n' : ℕ
    l : Float
    c : Cell
    b : ℕ
    kids : Forest
    us : Forest
    stop : ℕ
    frames : List Frame
    level : open' ≡ suc (length frames)
    levels : deep + open' ≡ 16
    here : Node kinds ns ends times places marks at k n' c
    below : Helds kinds ns ends times places marks kids deep (suc at) (get_or ends at 0)
    beside : Helds kinds ns ends times places marks us (suc deep) (get_or ends at 0) stop
    stops_is : get_or stops (length frames) 0 ≡ stop
    may_is : get_or may (length frames) false ≡ m
    flag : Flag e until at stop
    zip : Zip stops may until frames (suc (suc deep)) stop
    runs : run (List.◌∷◌ (frame e m (node k n' l c b kids ◂ us) stop) frames) at ≡ answer

  zip_le : (stops : List ℕ) (may : List Bool) (until : ℕ) (σ : List Frame) (d at : ℕ) → Zip stops may until σ d at → at ≤ n
  zip_le stops may until List.[] d at z = omega arith
  zip_le stops may until (List.◌∷◌ (frame e m ts stop) σ) d at (h, (s, (y, (f, z)))) =
      omega (arith, helds_le kinds ns ends times places marks ts d at stop h, zip_le stops may until σ (suc d) stop z)

  -- behind the last cell nothing is left
  ends_all :
      (stops : List ℕ) (may : List Bool) (until : ℕ) (σ : List Frame) (d at : ℕ) →
      Zip stops may until σ d at → n ≤ at → run σ at ≡ none at
  unfolding run
  ends_all stops may until List.[] d at z h = refl
  ends_all stops may until (List.◌∷◌ (frame e m [] stop) σ) d at (w, (s, (y, (f, z)))) h =
      run_none e m stop σ at ∙ ends_all stops may until σ (suc d) at (rw (← w) at z) h
  ends_all stops may until (List.◌∷◌ (frame e m (t ◂ ts) stop) σ) d at (w, (s, (y, (f, z)))) h =
      let first = held_lt kinds ns ends times places marks t d at w.0 in
      let rest = helds_le kinds ns ends times places marks ts d (get_or ends at 0) stop w.1 in
      absurd (omega (arith, zip_le stops may until σ (suc d) stop z))

  pub finished :
      (stops : List ℕ) (may : List Bool) (open' until at : ℕ) (answer : Found) →
      Scanned stops may open' until at answer → n ≤ at → Ok tt ≡ said answer
  finished stops may open' until at answer s h =
      ap said (sym (ends_all stops may until s.frames s.deep at s.zip h) ∙ s.runs)

  root : (x : Found) → after (after x (λ a. none a)) (λ a. none a) ≡ x
  unfolding after
  root (faulty p) = refl
  root (none at) = refl

  pub start :
      (stops : List ℕ) (may : List Bool) (t : Tree) → Held kinds ns ends times places marks t 16 0 →
      get_or ends 0 0 ≡ n → get_or stops 0 0 ≡ n → get_or may 0 false ≡ false →
      Scanned stops may 1 0 0 (bad_cell false false 0 t)
  unfolding run bad_cell
  start stops may t h e s y = record {
    deep = 16;
    frames = List.◌∷◌ (frame false false (t ◂ []) n) List.[];
    level = refl;
    levels = refl;
    zip = ((h, e), (s, (y, (omega arith, refl))));
    runs = ap (λ (x : Found). after x (run List.[])) (bad_cons false false 0 t []) ∙ root (bad_cell false false 0 t);
  }

  -- ---- the node whose cell is next
  module _ (stops : List ℕ) (may : List Bool) (until at : ℕ) (answer : Found) where
    build :
        (e m : Bool) (t : Tree) (us : Forest) (stop : ℕ) (σ : List Frame) (d : ℕ) → d + suc (length σ) ≡ 17 →
        Zip stops may until (List.◌∷◌ (frame e m (t ◂ us) stop) σ) d at →
        run (List.◌∷◌ (frame e m (t ◂ us) stop) σ) at ≡ answer →
        Ready stops may (suc (length σ)) until at answer
    build e m (node k n' l c b kids) us stop σ zero ups (w, (s, (y, (f, z)))) r = absurd w.0
    build e m (node k n' l c b kids) us stop σ (suc d) ups (w, (s, (y, (f, z)))) r = record {
      deep = d;
      e = e;
      m = m;
      k = k;
      n' = n';
      l = l;
      c = c;
      b = b;
      kids = kids;
      us = us;
      stop = stop;
      frames = σ;
      level = refl;
      levels = omega arith;
      here = w.0.0;
      below = w.0.1;
      beside = w.1;
      stops_is = s;
      may_is = y;
      flag = f;
      zip = z;
      runs = r;
    }

    opened : {o o' : ℕ} → o ≡ o' → Ready stops may o' until at answer → Ready stops may o until at answer
    opened e r = subst (λ (o : ℕ). Ready stops may o until at answer) (sym e) r

    ready_at :
        (σ : List Frame) (d : ℕ) → d + length σ ≡ 17 → Zip stops may until σ d at → run σ at ≡ answer → at < n →
        Ready stops may (open_of stops at (length σ)) until at answer
    ready_at List.[] d ups z r h = absurd (omega arith)
    ready_at (List.◌∷◌ (frame e m [] stop) List.[]) d ups (w, (s, (y, (f, z)))) r h = absurd (omega arith)
    ready_at (List.◌∷◌ (frame e m (t ◂ us) stop) List.[]) d ups z r h =
        opened (one stops at) (build e m t us stop List.[] d ups z r)
    ready_at (List.◌∷◌ (frame e m [] stop) (List.◌∷◌ g σ)) d ups (w, (s, (y, (f, z)))) r h =
        let zip = subst (λ (x : ℕ). Zip stops may until (List.◌∷◌ g σ) (suc d) x) (sym w) z in
        let runs = sym (run_none e m stop (List.◌∷◌ g σ) at) ∙ r in
        opened (top_drops stops at (length σ) (omega arith)) (ready_at (List.◌∷◌ g σ) (suc d) (omega arith) zip runs h)
    ready_at (List.◌∷◌ (frame e m (t ◂ us) stop) (List.◌∷◌ g σ)) d ups (w, (s, (y, (f, z)))) r h =
        let first = held_lt kinds ns ends times places marks t d at w.0 in
        let rest = helds_le kinds ns ends times places marks us d (get_or ends at 0) stop w.1 in
        opened (top_stays stops at (length σ) (omega arith)) (build e m t us stop (List.◌∷◌ g σ) d ups (w, (s, (y, (f, z)))) r)

    pub ready :
        (open' : ℕ) → Scanned stops may open' until at answer → at < n →
        Ready stops may (open_of stops at open') until at answer
    ready open' s h = rw s.level (ready_at s.frames s.deep s.levels s.zip s.runs h)

  -- ---- lower frames keep what is known of them
  zip_keeps :
      (stops stops' : List ℕ) (may may' : List Bool) (until : ℕ) (σ : List Frame) (d at : ℕ) →
      Zip stops may until σ d at → Alike 0 stops stops' (length σ) → Alike false may may' (length σ) →
      Zip stops' may' until σ d at
  zip_keeps stops stops' may may' until List.[] d at z ss sm = z
  zip_keeps stops stops' may may' until (List.◌∷◌ (frame e m ts stop) σ) d at (w, (s, (y, (f, z)))) ss sm =
      let rest = zip_keeps stops stops' may may' until σ (suc d) stop z (λ i h. ss i (omega arith)) (λ i h. sm i (omega arith)) in
      (w, (ss (length σ) (omega arith) ∙ s, (sm (length σ) (omega arith) ∙ y, (f, rest))))

  flag_later : (e : Bool) (until until' at stop : ℕ) → until ≤ until' → until' ≤ at → Flag e until at stop → Flag e until' at stop
  flag_later true until until' at stop a b f = omega arith
  flag_later false until until' at stop a b f = b

  flag_on : (e : Bool) (until at at' stop : ℕ) → at < at' → Flag e until at stop → Flag e until at' stop
  flag_on true until at at' stop h f = f
  flag_on false until at at' stop h f = omega arith

  zip_later :
      (stops : List ℕ) (may : List Bool) (until until' : ℕ) (σ : List Frame) (d at : ℕ) →
      until ≤ until' → until' ≤ at → Zip stops may until σ d at → Zip stops may until' σ d at
  zip_later stops may until until' List.[] d at a b z = z
  zip_later stops may until until' (List.◌∷◌ (frame e m ts stop) σ) d at a b (w, (s, (y, (f, z)))) =
      let le = helds_le kinds ns ends times places marks ts d at stop w in
      let rest = zip_later stops may until until' σ (suc d) stop a (omega arith) z in
      (w, (s, (y, (flag_later e until until' at stop a b f, rest))))

  clash : ◌≡◌ {A = Bool} true false → ⊥
  clash h = let y : ◌≡◌ {A = ℕ} 0 1 = cc in omega arith

  -- ---- a mark moves `until`: below the node, beside it and around it
  flag_below :
      (e x : Bool) (until at end stop : ℕ) →
      (e ≡ true → x ≡ false) → at < end → end ≤ stop → Flag e until at stop →
      Flag (e || x) (cond x end until) (suc at) end
  flag_below true true until at end stop h a b f = absurd (clash (h refl))
  flag_below true false until at end stop h a b f = omega arith
  flag_below false true until at end stop h a b f = omega arith
  flag_below false false until at end stop h a b f = omega arith

  flag_beside :
      (e x : Bool) (until at end stop : ℕ) →
      (e ≡ true → x ≡ false) → at < end → end ≤ stop → Flag e until at stop →
      Flag e (cond x end until) end stop
  flag_beside true true until at end stop h a b f = absurd (clash (h refl))
  flag_beside true false until at end stop h a b f = f
  flag_beside false true until at end stop h a b f = omega arith
  flag_beside false false until at end stop h a b f = omega arith

  zip_around :
      (stops : List ℕ) (may : List Bool) (σ : List Frame) (d : ℕ) (e x : Bool) (until at end stop : ℕ) →
      (e ≡ true → x ≡ false) → at < end → end ≤ stop → Flag e until at stop → Zip stops may until σ d stop →
      Zip stops may (cond x end until) σ d stop
  zip_around stops may σ d true true until at end stop h a b f z = absurd (clash (h refl))
  zip_around stops may σ d false true until at end stop h a b f z = zip_later stops may until end σ d stop (omega arith) b z
  zip_around stops may σ d true false until at end stop h a b f z = z
  zip_around stops may σ d false false until at end stop h a b f z = z

  both_true : (p q : Bool) → p && q ≡ true → q ≡ true
  both_true true q h = h
  both_true false q h = absurd (clash (sym h))

  -- below an ended child no cell has a mark
  unmarked : (e m : Bool) (k : Kind) (n' : ℕ) (c : Cell) → cell_allowed e m k n' c ≡ true → e ≡ true → ended_in c ≡ false
  unfolding cell_allowed
  unmarked true m k n' c h t = rw (eqb-true c.mark 0 (both_true (zero_bits c.time && eqb c.place 0) (eqb c.mark 0) h))
  unmarked false m k n' c h t = absurd (clash (sym t))

  -- ---- a turn
  module _ (stops : List ℕ) (may : List Bool) (open' until at : ℕ) (answer : Found) (r : Ready stops may open' until at answer) where
    abbrev end : ℕ
    end = get_or ends at 0

    past : at < end
    past = helds_le kinds ns ends times places marks r.kids r.deep (suc at) end r.below

    inside : end ≤ r.stop
    inside = helds_le kinds ns ends times places marks r.us (suc r.deep) end r.stop r.beside

    pub within : end ≤ n
    within = omega (arith, inside, zip_le stops may until r.frames (suc (suc r.deep)) r.stop r.zip)

    flag_is : (e : Bool) (stop : ℕ) → at < stop → Flag e until at stop → ltb at until ≡ e
    flag_is true stop h f = lt-ltb at until (omega arith)
    flag_is false stop h f = le-ltb at until f

    top : open' - 1 ≡ length r.frames
    top = omega (arith, r.level)

    -- the code's own test is the rules'
    module _
        (k : Kind) (kind : k ≡ kind_of (get_or kinds at 0))
        (a : Bool) (is : a ≡ cell_allowed (ltb at until) (get_or may (open' - 1) false) k (get_or ns at 0) (cell_at times places marks at)) where
      k_is : k ≡ r.k
      k_is = kind ∙ r.here.kind

      same : a ≡ cell_allowed r.e r.m r.k r.n' r.c
      same =
          let f = flag_is r.e r.stop (omega (arith, past, inside)) r.flag in
          let y : get_or may (open' - 1) false ≡ r.m = rw top r.may_is in
          let z = r.here.number in
          let w = r.here.held in
          is ∙ cc

      pub refuses : a ≡ false → Err (bad_at at) ≡ said answer
      refuses h =
          let bad = run_bad r.e r.m r.k r.n' r.l r.c r.b r.kids r.us r.stop r.frames at (sym same ∙ h) in
          ap said (sym bad ∙ r.runs)

      module _ (taken : a ≡ true) where
        ok : cell_allowed r.e r.m r.k r.n' r.c ≡ true
        ok = sym same ∙ taken

        abbrev x : Bool
        x = eqb (get_or marks at 0) 1

        mark_is : ended_in r.c ≡ x
        mark_is = ap ended_in r.here.held

        plain : r.e ≡ true → x ≡ false
        plain h = sym mark_is ∙ unmarked r.e r.m r.k r.n' r.c ok h

        abbrev until' : ℕ
        until' = cond x end until

        -- what is left beside the node, and with it what is left in the node
        abbrev rest : List Frame
        rest = List.◌∷◌ (frame r.e r.m r.us r.stop) r.frames

        abbrev within_node : Forest → List Frame
        within_node ts = List.◌∷◌ (frame (r.e || x) (marks_children r.k) ts end) rest

        goes_on : run (within_node r.kids) (at + 1) ≡ answer
        goes_on =
            let good = run_good r.e r.m r.k r.n' r.l r.c r.b r.kids r.us r.stop r.frames at end ok in
            rw (add-one at, ← mark_is) (sym good ∙ r.runs)

        around : Zip stops may until' rest (suc r.deep) end
        around =
            let flag = flag_beside r.e x until at end r.stop plain past inside r.flag in
            let zip = zip_around stops may r.frames (suc (suc r.deep)) r.e x until at end r.stop plain past inside r.flag r.zip in
            (r.beside, (r.stops_is, (r.may_is, (flag, zip))))

        -- a node with children opens
        pub opens :
            (m : Bool) → m ≡ marks_children k → at + 1 < end → open' < 16 → length stops ≡ 16 → length may ≡ 16 →
            Scanned (set stops open' end) (set may open' m) (open' + 1) until' (at + 1) answer
        opens m ms h room ls lm =
            let lev = r.level in
            let m-is : m ≡ marks_children r.k = ms ∙ ap marks_children k_is in
            let stops' = set stops open' end in
            let may' = set may open' m in
            let below = subst (λ (i : ℕ). Helds kinds ns ends times places marks r.kids r.deep i end) (sym (add-one at)) r.below in
            let stop_is = subst (λ (i : ℕ). get_or stops' i 0 ≡ end) lev (get_or-set_same stops open' end 0 (omega arith)) in
            let may_is = subst (λ (i : ℕ). get_or may' i false ≡ marks_children r.k) lev (get_or-set_same may open' m false (omega arith) ∙ m-is) in
            let flag = flag_below r.e x until at end r.stop plain past inside r.flag in
            let flag' = subst (λ (i : ℕ). Flag (r.e || x) until' i end) (sym (add-one at)) flag in
            let stops-keep : Alike 0 stops stops' (length rest) = λ i z. get_or-set_other stops open' i end 0 (omega arith) in
            let may-keeps : Alike false may may' (length rest) = λ i z. get_or-set_other may open' i m false (omega arith) in
            let outer = zip_keeps stops stops' may may' until' rest (suc r.deep) end around stops-keep may-keeps in
            record {
              deep = r.deep;
              frames = within_node r.kids;
              level = omega arith;
              levels = omega (arith, r.levels);
              zip = (below, (stop_is, (may_is, (flag', outer))));
              runs = goes_on;
            }

        no_kids :
            (kids : Forest) (d : ℕ) → Helds kinds ns ends times places marks kids d (suc at) end → end ≤ at + 1 →
            kids ≡ []
        no_kids [] d h le = refl
        no_kids (t ◂ ts) d h le =
            let first = held_lt kinds ns ends times places marks t d (suc at) h.0 in
            let others = helds_le kinds ns ends times places marks ts d (get_or ends (suc at) 0) end h.1 in
            absurd (omega arith)

        -- a leaf leaves the open nodes as they are
        pub passes : end ≤ at + 1 → Scanned stops may open' until (at + 1) answer
        passes le =
            let none' = no_kids r.kids r.deep r.below le in
            let e : end ≡ at + 1 = omega (arith, past) in
            let flag = flag_on r.e until at end r.stop past r.flag in
            let none = run_none (r.e || x) (marks_children r.k) end rest (at + 1) in
            record {
              deep = suc r.deep;
              frames = rest;
              level = r.level;
              levels = omega (arith, r.levels, r.level);
              zip = subst (λ (i : ℕ). Zip stops may until rest (suc r.deep) i) e (r.beside, (r.stops_is, (r.may_is, (flag, r.zip))));
              runs = sym none ∙ subst (λ (ts : Forest). run (within_node ts) (at + 1) ≡ answer) none' goes_on;
            }

        no_level : (kids : Forest) → Helds kinds ns ends times places marks kids 0 (suc at) end → at + 1 < end → ⊥
        no_level [] h lt = omega arith
        no_level (node k n l c b ts ◂ us) h lt = h.0

        -- there are no more levels
        pub never : at + 1 < end → 16 ≤ open' → ⊥
        never lt h =
            let z : r.deep ≡ 0 = omega (arith, r.levels) in
            no_level r.kids (subst (λ (d : ℕ). Helds kinds ns ends times places marks r.kids d (suc at) end) z r.below) lt
