-- The first bad cell, node by node from left to right, beside the frames of a table that is read.
use mathlib.Core.Path.{◌≡◌, refl, sym, ap, subst, ◌∙◌}
use mathlib.Core.Bool.{Bool, true, false, cond, ◌||◌}
use mathlib.Core.List.{List}
use Prim.Native.Nat.{ℕ, suc, ◌+◌, ◌-◌, ◌≤◌, ◌<◌}
use native.Mathlib.Nat.{add-zero}
use native.Mathlib.Omega.{arith}
use Rattle.std.proofs.Common.{Option, Some, None}
use lib.Ieee.{Float}
use lib.ListN.{length, get_or, set, drop}
use lib.Seq.{get_or-set_same, get_or-set_other, drop-drop}
use Rattle.rules.specs.declared.behavior.Kind.{Kind}
use Rattle.rules.specs.Kinds.{marks_children}
use Rattle.rules.specs.Tree.{Cell, Tree, node, Forest, [], ◌◂◌, size, sizes}
use Rattle.rules.specs.Cells.{cells, with_cells, with_cells_all, cell_allowed, ended_in, Found, faulty, none, bad_cell, bad_cells}
use Rattle.tables.proofs.Scan.{Frame, frame, onto, made}
use Rattle.cells.proofs.Held.{cell_at, drop_cells}
use Rattle.load.specs.Scans.{first_of}
use Rattle.load.specs.Trees.{drop_with}

-- a bad cell stays the first
first_stays : (p : ℕ) (fine : Bool) (q : ℕ) → first_of (Some p) fine q ≡ Some p
first_stays p true q = refl
first_stays p false q = refl

-- s is the place of the first bad cell before `stop`
abbrev pub Agrees : Option ℕ → Found → ℕ → Type 0
Agrees s (faulty p) stop = s ≡ Some p
Agrees s (none at) stop = (s ≡ None) × (at ≡ stop)

pub found_none : (f : Found) (s : Option ℕ) (stop : ℕ) → Agrees s f stop → s ≡ None → f ≡ none stop
found_none (faulty p) s stop e z = cc
found_none (none at) s stop (e, i) z = ap none i

pub found_at : (f : Found) (s : Option ℕ) (stop : ℕ) → Agrees s f stop → (p : ℕ) → s ≡ Some p → f ≡ faulty p
found_at (faulty q) s stop e p z = cc
found_at (none at) s stop (e, i) p z = cc

module _ (times : List Float) (places marks : List ℕ) where
  abbrev cell : ℕ → Cell
  cell q = cell_at times places marks q

  abbrev pub run : List Cell
  run = cells times places marks

  -- the first bad cell once a tree is passed that begins at q, from what was the first before it
  unfoldable mutual
    pub pass : Bool → Bool → ℕ → Tree → Option ℕ → Option ℕ
    pass e m q (node k n l c b ts) s = pass_all (e || ended_in (cell q)) (marks_children k) (suc q) ts (first_of s (cell_allowed e m k n (cell q)) q)

    pub pass_all : Bool → Bool → ℕ → Forest → Option ℕ → Option ℕ
    pass_all e m q [] s = s
    pass_all e m q (t ◂ ts) s = pass_all e m (q + size t) ts (pass e m q t s)

  mutual
    unfolding pass

    pass_stays : (t : Tree) (e m : Bool) (q p : ℕ) → pass e m q t (Some p) ≡ Some p
    pass_stays (node k n l c b ts) e m q p =
        ap (pass_all (e || ended_in (cell q)) (marks_children k) (suc q) ts) (first_stays p (cell_allowed e m k n (cell q)) q)
        ∙ all_stay ts (e || ended_in (cell q)) (marks_children k) (suc q) p

    all_stay : (ts : Forest) (e m : Bool) (q p : ℕ) → pass_all e m q ts (Some p) ≡ Some p
    all_stay [] e m q p = refl
    all_stay (t ◂ ts) e m q p = ap (pass_all e m (q + size t) ts) (pass_stays t e m q p) ∙ all_stay ts e m (q + size t) p

  -- ---- it is the rules' smallest bad cell
  join : (f : Found) (rest : ℕ → Found) (then : Option ℕ → Option ℕ) (s : Option ℕ) (stop end : ℕ)
      → Agrees s f stop
      → ((p : ℕ) → then (Some p) ≡ Some p)
      → Agrees (then None) (rest stop) end
      → Agrees (then s) (elim f [ faulty p ↦ faulty p | none at ↦ rest at ]) end
  join (faulty p) rest then s stop end e stays more = ap then e ∙ stays p
  join (none at) rest then s stop end (e, i) stays more = rw (e, i) more

  at_node : (b : Bool) (f : Found) (then : Option ℕ → Option ℕ) (q end : ℕ)
      → ((p : ℕ) → then (Some p) ≡ Some p)
      → Agrees (then None) f end
      → Agrees (then (first_of None b q)) (cond b f (faulty q)) end
  at_node true f then q end stays more = more
  at_node false f then q end stays more = stays q

  mutual
    unfolding pass bad_cell with_cells size

    pass_is : (t : Tree) (e m : Bool) (q : ℕ) → q + size t ≤ length run
        → Agrees (pass e m q t None) (bad_cell e m q (with_cells t (drop q run)).0) (q + size t)
    pass_is (node k n l c b ts) e m q long =
        let inner = all_is ts (e || ended_in (cell q)) (marks_children k) (suc q) (omega arith) in
        let end : suc q + sizes ts ≡ q + suc (sizes ts) = omega arith in
        rw (drop_cells times places marks q (omega arith)) (at_node (cell_allowed e m k n (cell q))
        (bad_cells (e || ended_in (cell q)) (marks_children k) (suc q) (with_cells_all ts (drop (suc q) run)).0)
        (pass_all (e || ended_in (cell q)) (marks_children k) (suc q) ts) q (q + suc (sizes ts))
        (λ p. all_stay ts (e || ended_in (cell q)) (marks_children k) (suc q) p) (rw end at inner))

    all_is : (ts : Forest) (e m : Bool) (q : ℕ) → q + sizes ts ≤ length run
        → Agrees (pass_all e m q ts None) (bad_cells e m q (with_cells_all ts (drop q run)).0) (q + sizes ts)
    all_is [] e m q long = (refl, sym (add-zero q))
    all_is (t ◂ ts) e m q long =
        let first = pass_is t e m q (omega arith) in
        let rest = all_is ts e m (q + size t) (omega arith) in
        let cut : (with_cells t (drop q run)).1 ≡ drop (q + size t) run = drop_with t (drop q run) ∙ drop-drop (size t) q run in
        let end : q + size t + sizes ts ≡ q + (size t + sizes ts) = omega arith in
        let more = subst (λ (cs : List Cell). Agrees (pass_all e m (q + size t) ts None) (bad_cells e m (q + size t) (with_cells_all ts cs).0) (q + (size t + sizes ts)))
        (sym cut) (rw end at rest) in
        join (bad_cell e m q (with_cells t (drop q run)).0) (λ at. bad_cells e m at (with_cells_all ts (with_cells t (drop q run)).1).0)
        (pass_all e m (q + size t) ts) (pass e m q t None) (q + size t) (q + (size t + sizes ts)) first
        (λ p. all_stay ts e m (q + size t) p) more

  -- what is found of the whole tree
  pub finds : (t : Tree) (s : Option ℕ) → size t ≤ length run → s ≡ pass false false 0 t None
      → Agrees s (bad_cell false false 0 (with_cells t run).0) (size t)
  finds t s long e =
      let zero : 0 + size t ≡ size t = omega arith in
      rw e (rw zero at (pass_is t false false 0 (omega arith)))

  -- ---- children that are read, the last first
  sizes_onto : (kids ts : Forest) → sizes (onto kids ts) ≡ sizes (onto kids []) + sizes ts
  unfolding size
  sizes_onto [] ts = omega arith
  sizes_onto (t ◂ kids) ts = omega (arith, sizes_onto kids (t ◂ ts), sizes_onto kids (t ◂ []))

  pass_onto : (kids ts : Forest) (e m : Bool) (q : ℕ) (s : Option ℕ)
      → pass_all e m q (onto kids ts) s ≡ pass_all e m (q + sizes (onto kids [])) ts (pass_all e m q (onto kids []) s)
  unfolding pass size
  pass_onto [] ts e m q s = rw (add-zero q)
  pass_onto (t ◂ kids) ts e m q s =
      let all = pass_onto kids (t ◂ ts) e m q s in
      let one = pass_onto kids (t ◂ []) e m q s in
      let place : q + sizes (onto kids []) + size t ≡ q + sizes (onto kids (t ◂ [])) = omega (arith, sizes_onto kids (t ◂ [])) in
      all ∙ rw (one, place)

  -- ---- what the frames say of the next child's cell: whether it is below an ended child, and whether it may be marked
  abbrev pub ended_of : List Frame → Bool
  ended_of List.[] = false
  ended_of (List.◌∷◌ (frame p k n l kids m) σ) = ended_of σ || ended_in (cell p)

  abbrev pub may_of : List Frame → Bool
  may_of List.[] = false
  may_of (List.◌∷◌ (frame p k n l kids m) σ) = marks_children k

  -- s is the first bad cell before `at`
  abbrev Celled : List Frame → Option ℕ → ℕ → Type 0
  Celled List.[] s at = s ≡ None
  Celled (List.◌∷◌ (frame p k n l kids m) σ) s at =
      (s₀ : Option ℕ) × (Celled σ s₀ p × ((suc p + sizes (onto kids []) ≡ at) ×
      (s ≡ pass_all (ended_of σ || ended_in (cell p)) (marks_children k) (suc p) (onto kids []) (first_of s₀ (cell_allowed (ended_of σ) (may_of σ) k n (cell p)) p))))

  -- the code's arrays have for each open node what is said around it
  abbrev Flags : List Bool → List Bool → List Frame → Type 0
  Flags under may List.[] = Unit {0}
  Flags under may (List.◌∷◌ f σ) = (get_or under (length σ) false ≡ ended_of σ) × ((get_or may (length σ) false ≡ may_of σ) × Flags under may σ)

  -- what is known where a tree is next, and where one is read
  pub record Known (under may : List Bool) (ended mayEnd : Bool) (s : Option ℕ) (at : ℕ) (σ : List Frame) : Type 0 where
    cells_are : Celled σ s at
    flags : Flags under may σ
    pub is_ended : ended ≡ ended_of σ
    pub is_may : mayEnd ≡ may_of σ

  pub record Done (under may : List Bool) (ended mayEnd : Bool) (s : Option ℕ) (t : Tree) (q : ℕ) (σ : List Frame) : Type 0 where
    before : Option ℕ
    cells_are : Celled σ before q
    passes : s ≡ pass (ended_of σ) (may_of σ) q t before
    flags : Flags under may σ
    is_ended : ended ≡ ended_of σ
    is_may : mayEnd ≡ may_of σ

  pub first_known : (under may : List Bool) → Known under may false false None 0 List.[]
  first_known under may = record { cells_are = refl; flags = tt; is_ended = refl; is_may = refl }

  flags_keep : (under may : List Bool) (i : ℕ) (a b : Bool) (σ : List Frame) → length σ ≤ i → Flags under may σ → Flags (set under i a) (set may i b) σ
  flags_keep under may i a b List.[] h f = tt
  flags_keep under may i a b (List.◌∷◌ g σ) h (u, (y, f)) = (
    get_or-set_other under i (length σ) a false (omega arith) ∙ u,
    (get_or-set_other may i (length σ) b false (omega arith) ∙ y, flags_keep under may i a b σ (omega arith) f),
  )

  module _ {under may : List Bool} {ended mayEnd : Bool} {s : Option ℕ} {at : ℕ} where
    -- the cell at `at` is looked at
    module _ (k : Kind) (n : ℕ) (l : Float) (fine : Bool) (is : fine ≡ cell_allowed ended mayEnd k n (cell at)) where
      looked : (σ : List Frame) → Known under may ended mayEnd s at σ → fine ≡ cell_allowed (ended_of σ) (may_of σ) k n (cell at)
      looked σ h = is ∙ (let a = h.is_ended in let b = h.is_may in cc)

      pub leaf_done : (σ : List Frame) → Known under may ended mayEnd s at σ → Done under may ended mayEnd (first_of s fine at) (made k n l []) at σ
      unfolding pass
      leaf_done σ h = record {
        before = s;
        cells_are = h.cells_are;
        passes = ap (λ (b : Bool). first_of s b at) (looked σ h);
        flags = h.flags;
        is_ended = h.is_ended;
        is_may = h.is_may;
      }

      pub opened : (open' m : ℕ) (σ : List Frame) → open' ≡ length σ → open' < length under → open' < length may
          → Known under may ended mayEnd s at σ
          → Known (set under open' ended) (set may open' mayEnd) (ended || ended_in (cell at)) (marks_children k) (first_of s fine at) (at + 1)
          (List.◌∷◌ (frame at k n l [] m) σ)
      unfolding pass size
      opened open' m σ lev a b h = record {
        cells_are = (s, (h.cells_are, (omega arith, ap (λ (b : Bool). first_of s b at) (looked σ h))));
        flags = (
          subst (λ (i : ℕ). get_or (set under open' ended) i false ≡ ended_of σ) lev (get_or-set_same under open' ended false a ∙ h.is_ended),
          (
            subst (λ (i : ℕ). get_or (set may open' mayEnd) i false ≡ may_of σ) lev (get_or-set_same may open' mayEnd false b ∙ h.is_may),
            flags_keep under may open' ended mayEnd σ (omega arith) h.flags,
          ),
        );
        is_ended = ap (λ (b : Bool). b || ended_in (cell at)) h.is_ended;
        is_may = refl;
      }

  module _ {under may : List Bool} {ended mayEnd : Bool} {s : Option ℕ} where
    module _ (p : ℕ) (k : Kind) (n : ℕ) (l : Float) (kids : Forest) (m : ℕ) (σ : List Frame) (t : Tree) (q : ℕ)
        (h : Done under may ended mayEnd s t q (List.◌∷◌ (frame p k n l kids m) σ)) where
      -- the children up to t
      upto : s ≡ pass_all (ended_of σ || ended_in (cell p)) (marks_children k) (suc p) (onto kids (t ◂ []))
          (first_of h.cells_are.0 (cell_allowed (ended_of σ) (may_of σ) k n (cell p)) p)
      unfolding pass
      upto =
          let c = h.cells_are in
          let first = first_of c.0 (cell_allowed (ended_of σ) (may_of σ) k n (cell p)) p in
          let all = pass_onto kids (t ◂ []) (ended_of σ || ended_in (cell p)) (marks_children k) (suc p) first in
          h.passes ∙ rw (c.1.1.1, ← c.1.1.0) (sym all)

      pub next_known : (at m' : ℕ) → at ≡ q + size t → Known under may ended mayEnd s at (List.◌∷◌ (frame p k n l (t ◂ kids) m') σ)
      unfolding size
      next_known at m' e =
          let c = h.cells_are in
          let place : suc p + sizes (onto kids (t ◂ [])) ≡ at = omega (arith, e, c.1.1.0, sizes_onto kids (t ◂ [])) in
          record { cells_are = (c.0, (c.1.0, (place, upto))); flags = h.flags; is_ended = h.is_ended; is_may = h.is_may }

      pub close_done : (open' : ℕ) → open' - 1 ≡ length σ
          → Done under may (get_or under (open' - 1) false) (get_or may (open' - 1) false) s (made k n l (onto kids (t ◂ []))) p σ
      unfolding pass
      close_done open' top =
          let c = h.cells_are in
          let f = h.flags in
          rw top (record { before = c.0; cells_are = c.1.0; passes = upto; flags = f.1.1; is_ended = f.0; is_may = f.1.0 })

  pub root_passes : {under may : List Bool} {ended mayEnd : Bool} {s : Option ℕ} (t : Tree) → Done under may ended mayEnd s t 0 List.[] → s ≡ pass false false 0 t None
  root_passes {s} t h = rw (← h.cells_are) h.passes
