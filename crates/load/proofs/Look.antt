-- The invariant of the two loops of the pass, and what each way through a turn makes of it.
use mathlib.Core.Path.{◌≡◌, refl, sym, ap, subst, ◌∙◌}
use mathlib.Core.Bool.{Bool, true, false, ◌||◌, false≢true}
use mathlib.Core.List.{List}
use Prim.Native.Nat.{ℕ, zero, suc, ◌+◌, ◌-◌, ◌≤◌, ◌<◌, min}
use native.Mathlib.Omega.{arith}
use borrow.Author.Tests.{eqb-true, eqb-false, ltb-true, ltb-false}
use lib.Dec.{eqb, ltb}
use lib.Ieee.{Float, nan}
use lib.ListN.{length, get_or, set, length-set, drop_of_length-le}
use lib.Seq.{drop-cons, get_or-set_other, set-get_or}
use Rattle.rules.specs.Kinds.{kind_of, children, marks_children}
use Rattle.rules.specs.Tree.{zero_time, size}
use Rattle.rules.specs.Table as T
use Rattle.rules.specs.Table.{most_deep, cleaned, rows, row_allowed, got, fault, read_tree, table, good, bad}
use Rattle.rules.specs.Cells.{cells, with_cells, cell_allowed, ended_in, bad_cell}
use Rattle.std.proofs.Common.{Option, Some, None, Ok, Err, IsErr, IsErrAnd}
use Rattle.lent.specs.Lengths.{rows_length, cells_length}
use Rattle.tables.specs.Checks.{row_of}
use Rattle.tables.proofs.Rows.{row_bad, row_allowed_lem, row_children, any_default}
use Rattle.tables.proofs.Depth.{read_depth}
use Rattle.tables.proofs.Scan.{Reading, Closing, start, past, too_deep, refuses, ends_alike, descends, leaves, nexts, begins_before, closes, Whole, whole}
use Rattle.cells.proofs.Held.{cell_at}
use Rattle.work.specs.Word.{below_of}
use Rattle.refine.specs.Words.{pack}
use Rattle.load.specs.declared.found.Fault.TheVariants as F
use Rattle.load.specs.declared.found.Fault.{Fault}
use Rattle.load.specs.Scans.{Scanned, first_of, with_below, Passes, Lent, Scans}
use Rattle.load.proofs.Faults.{Agrees, Known, Done, first_known, leaf_done, opened, next_known, close_done, root_passes, finds, found_none, found_at}
use Rattle.load.proofs.Ends.{ends_of, ends_long, end_at, set_end, below_none, below_with, Packed, packed_new, packed_with, packed_other, packed_loads}

-- the arrays are long enough for the open nodes, and `at` is a place of the table
pub record Fits
    (kinds ns : List ℕ) (limits : List Float) (begins owed : List ℕ) (under may : List Bool) (ws : List ℕ) (open' at : ℕ) : Type 0 where
  pub begins_long : length begins ≡ most_deep
  pub owed_long : length owed ≡ most_deep
  pub under_long : length under ≡ most_deep
  pub may_long : length may ≡ most_deep
  pub long : length ws ≡ 260
  pub low : at ≤ 256
  pub inside : at ≤ length (rows kinds ns limits)
  pub room : open' < most_deep

-- the words before `at` are those of their nodes, the others are as they were
pub record Kept
    (kinds ns : List ℕ) (limits : List Float) (places marks : List ℕ) (State : Type 0)
    (ws₀ begins owed : List ℕ) (under may : List Bool) (ws : List ℕ) (open' at : ℕ) : Type 0 where
  pub state : State
  pub fits : Fits kinds ns limits begins owed under may ws open' at
  pub words : (i : ℕ) → i < at → Packed kinds places marks ws i
  pub stays : (i : ℕ) → at ≤ i → get_or ws i 0 ≡ get_or ws₀ i 0

-- a place of the table is one of every slice that is lent
pub record In (kinds ns : List ℕ) (limits times : List Float) (places marks : List ℕ) (at : ℕ) : Type 0 where
  pub in_table : at < min (length (rows kinds ns limits)) 256
  pub in_kinds : at < length kinds
  pub in_ns : at < length ns
  pub in_limits : at < length limits
  pub in_times : at < length times
  pub in_places : at < length places
  pub in_marks : at < length marks

pub all_in : {kinds ns : List ℕ} {limits times : List Float} {places marks : List ℕ} {n at : ℕ}
    → Lent kinds ns limits times places marks n → at < min (length (rows kinds ns limits)) 256 → In kinds ns limits times places marks at
all_in {kinds = kinds} {ns = ns} {limits = limits} lent h =
    let long = rows_length kinds ns limits in
    record { in_table = h; in_kinds = omega arith; in_ns = omega arith; in_limits = omega arith; in_times = omega arith; in_places = omega arith; in_marks = omega arith }

-- the node at `at`: how many children its row tells, its word, and whether its cell is one that it allows; the code reads the limit with a default of its own
pub record Node
    (kinds ns : List ℕ) (limits times : List Float) (places marks : List ℕ) (ended mayEnd : Bool) (at c w : ℕ) (fine : Bool) : Type 0 where
  pub told : row_of (get_or kinds at 0) (get_or ns at 0) (cleaned (get_or limits at nan)) ≡ Some c
  pub packed : w ≡ pack 0 (get_or kinds at 0) (get_or places at 0) (get_or marks at 0) false 0
  pub looks : fine ≡ cell_allowed ended mayEnd (kind_of (get_or kinds at 0)) (get_or ns at 0) (cell_at times places marks at)

-- words are written, and the place and the level move
moved : {kinds ns : List ℕ} {limits : List Float} {begins owed : List ℕ} {under may : List Bool} {ws ws' : List ℕ} {open' open'' at at' : ℕ}
    → Fits kinds ns limits begins owed under may ws open' at
    → length ws' ≡ 260 → at' ≤ 256 → at' ≤ length (rows kinds ns limits) → open'' < most_deep
    → Fits kinds ns limits begins owed under may ws' open'' at'
moved f long low inside room = record {
  begins_long = f.begins_long;
  owed_long = f.owed_long;
  under_long = f.under_long;
  may_long = f.may_long;
  long = long;
  low = low;
  inside = inside;
  room = room;
}

module _ (kinds ns : List ℕ) (limits times : List Float) (places marks : List ℕ) where
  -- a tree is next, or one has ended; s is the first bad cell so far
  abbrev pub Nodes : List ℕ → List ℕ → List ℕ → List Bool → List Bool → List ℕ → ℕ → ℕ → Bool → Bool → Option ℕ → ℕ → Type 0
  Nodes ws₀ begins owed under may ws open' left ended mayEnd s at = Kept kinds ns limits places marks
      (Reading kinds ns limits most_deep (Known times places marks under may ended mayEnd s at) begins owed (ends_of ws) open' left at) ws₀ begins owed under may ws open' at

  abbrev pub Ended : List ℕ → List ℕ → List ℕ → List Bool → List Bool → List ℕ → ℕ → ℕ → Bool → Bool → Option ℕ → ℕ → Type 0
  Ended ws₀ begins owed under may ws open' left ended mayEnd s at = Kept kinds ns limits places marks
      (Closing kinds ns limits most_deep (Done times places marks under may ended mayEnd s) begins owed (ends_of ws) open' left at) ws₀ begins owed under may ws open' at

-- seen from before the outer loop
pub since : {kinds ns : List ℕ} {limits : List Float} {places marks : List ℕ} {State : Type 0} {first middle begins owed : List ℕ} {under may : List Bool} {ws : List ℕ} {open' at : ℕ}
    → ((i : ℕ) → at ≤ i → get_or middle i 0 ≡ get_or first i 0)
    → Kept kinds ns limits places marks State middle begins owed under may ws open' at
    → Kept kinds ns limits places marks State first begins owed under may ws open' at
since m v = record {
  state = v.state;
  fits = v.fits;
  words = v.words;
  stays = λ i h. v.stays i h ∙ m i h;
}

refused : (kinds ns : List ℕ) (limits : List Float) (at : ℕ) → read_tree most_deep 0 (rows kinds ns limits) ≡ fault at → table kinds ns limits ≡ bad at
unfolding table
refused kinds ns limits at e = rw e

-- what is made of the table's fault
pub bad_table : (kinds ns : List ℕ) (limits times : List Float) (places marks : List ℕ) (fresh : Bool) (ws₀ ws : List ℕ) (r : Scanned) (p : ℕ)
    → IsErr r × IsErrAnd r (λ (f : Fault). f ≡ F.Table p) → table kinds ns limits ≡ bad p → Scans kinds ns limits times places marks fresh ws₀ ws r
bad_table kinds ns limits times places marks fresh ws₀ ws (Ok n) p h e = absurd (false≢true h.0)
bad_table kinds ns limits times places marks fresh ws₀ ws (Err f) p h e = rw h.1 e

-- ---- Waits that are plainly good, of which the innermost node has one more
pub record Leaf
    (kinds ns : List ℕ) (limits times : List Float) (places marks : List ℕ) (ended mayEnd : Bool) (ends : List ℕ) (i : ℕ) : Type 0 where
  allowed : row_allowed (get_or kinds i 0) (get_or ns i 0) (cleaned (get_or limits i zero_time)) ≡ true
  alone : 0 ≡ children (kind_of (get_or kinds i 0)) (get_or ns i 0)
  fine : true ≡ cell_allowed ended mayEnd (kind_of (get_or kinds i 0)) (get_or ns i 0) (cell_at times places marks i)
  ends_here : get_or ends i 0 ≡ i + 1

module _ (kinds ns : List ℕ) (limits times : List Float) (places marks : List ℕ) (under may : List Bool) (ended mayEnd : Bool)
    (begins owed ends : List ℕ) (open' : ℕ) (s : Option ℕ) (room : open' < most_deep) where
  abbrev At : ℕ → ℕ → Type 0
  At left at = Reading kinds ns limits most_deep (Known times places marks under may ended mayEnd s at) begins owed ends open' left at

  leaf_passed : (left at : ℕ) → At left at → 1 < left → at < 256 → at < length (rows kinds ns limits) → at < length ends
      → Leaf kinds ns limits times places marks ended mayEnd ends at
      → At (left - 1) (at + 1)
  leaf_passed left at r more low inside long h =
      let closed = leaves kinds ns limits begins owed ends open' left at r low inside room h.allowed 0 h.alone (omega arith) long
      (λ σ k. leaf_done times places marks (kind_of (get_or kinds at 0)) (get_or ns at 0) (cleaned (get_or limits at zero_time)) true h.fine σ k) in
      let same : set ends at (at + 1) ≡ ends = rw (← h.ends_here) (set-get_or ends at 0) in
      let closed' = subst (λ (x : List ℕ). Closing kinds ns limits most_deep (Done times places marks under may ended mayEnd s) begins owed x open' (left - 1) (at + 1)) same closed in
      nexts kinds ns limits begins owed ends open' (left - 1) (at + 1) (omega arith) closed'
      (λ p k n l kids m m' σ t q e h. next_known times places marks p k n l kids m σ t q h (at + 1) m' e) (omega arith)

  leaves_passed : (k left at : ℕ) → At left at → k < left → at + k ≤ 256 → at + k ≤ length (rows kinds ns limits) → at + k ≤ length ends
      → ((i : ℕ) → at ≤ i → i < at + k → Leaf kinds ns limits times places marks ended mayEnd ends i)
      → At (left - k) (at + k)
  leaves_passed zero left at r more low inside long h = let a : at + 0 ≡ at = omega arith in let b : left - 0 ≡ left = omega arith in rw (a, b) r
  leaves_passed (suc k) left at r more low inside long h =
      let one = leaf_passed left at r (omega arith) (omega arith) (omega arith) (omega arith) (h at (omega arith) (omega arith)) in
      let rest = leaves_passed k (left - 1) (at + 1) one (omega arith) (omega arith) (omega arith) (omega arith) (λ i a b. h i (omega (arith, a)) (omega (arith, b))) in
      let a : at + 1 + k ≡ at + suc k = omega arith in
      let b : left - 1 - k ≡ left - suc k = omega arith in
      rw (a, b) at rest

module _ {kinds ns : List ℕ} {limits times : List Float} {places marks : List ℕ} where
  pub first : {begins owed : List ℕ} {under may : List Bool} {ws : List ℕ}
      → length begins ≡ most_deep → length owed ≡ most_deep → length under ≡ most_deep → length may ≡ most_deep → length ws ≡ 260
      → Nodes kinds ns limits times places marks ws begins owed under may ws 0 1 false false None 0
  first {begins} {owed} {under} {may} {ws} lb lo lu lm lw = record {
    state = start kinds ns limits begins owed (ends_of ws) (first_known times places marks under may);
    fits = record { begins_long = lb; owed_long = lo; under_long = lu; may_long = lm; long = lw; low = omega arith; inside = omega arith; room = omega arith };
    words = λ i h. absurd (omega (arith, h));
    stays = λ i h. refl;
  }

  module _ {ws₀ begins owed : List ℕ} {under may : List Bool} {ws : List ℕ} {open' left at : ℕ} {s : Option ℕ} {ended mayEnd : Bool} where
    -- ---- the answers
    pub at_end : Nodes kinds ns limits times places marks ws₀ begins owed under may ws open' left ended mayEnd s at → min (length (rows kinds ns limits)) 256 ≤ at → table kinds ns limits ≡ bad at
    at_end v h = refused kinds ns limits at (past kinds ns limits begins owed (ends_of ws) open' left at v.state h)

    module _ (v : Ended kinds ns limits times places marks ws₀ begins owed under may ws open' left ended mayEnd s at) (none : open' ≡ 0) where
      abbrev w : Whole kinds ns limits most_deep (Done times places marks under may ended mayEnd s) (ends_of ws) at
      w = whole kinds ns limits begins owed (ends_of ws) open' left at v.state none

      pub too_long : at < length (rows kinds ns limits) → table kinds ns limits ≡ bad at
      unfolding table
      too_long h =
          let e = w.reads ∙ ap (got w.tree at) (drop-cons (rows kinds ns limits) at (T.row 0 0 zero_time) h) in
          rw e

      module _ (n : ℕ) (lent : Lent kinds ns limits times places marks n) (h : n ≤ at) (long₀ : length ws₀ ≡ 260) where
        is_good : table kinds ns limits ≡ good w.tree
        unfolding table
        is_good =
            let all : length (rows kinds ns limits) ≤ at = omega (arith, lent.nodes) in
            let e = w.reads ∙ ap (got w.tree at) (drop_of_length-le (rows kinds ns limits) all) in
            rw e

        all_rows : at ≡ length (rows kinds ns limits)
        all_rows = omega (arith, v.fits.inside, lent.nodes)

        found : Agrees s (bad_cell false false 0 (with_cells w.tree (cells times places marks)).0) (size w.tree)
        found = finds times places marks w.tree s
            (omega (arith, w.sized, all_rows, cells_length times places marks, lent.nodes, lent.times_long, lent.places_long, lent.marks_long))
            (root_passes times places marks w.tree w.known)

        pub accepted : s ≡ None → Scans kinds ns limits times places marks false ws₀ ws (Ok at)
        accepted z = record {
          tree = w.tree;
          is = is_good;
          nodes = all_rows;
          sized = sym w.sized;
          few = v.fits.low;
          levels = read_depth most_deep 0 (rows kinds ns limits) w.reads;
          ends = ends_of ws;
          stands = w.placed;
          behind = size w.tree;
          fine = λ e. found_none _ s (size w.tree) found z;
          words = packed_loads kinds places marks at ws₀ ws (omega (arith, v.fits.low, v.fits.long)) (v.fits.long ∙ sym long₀) v.words v.stays;
        }

        pub faulted : {p : ℕ} → s ≡ Some p → Scans kinds ns limits times places marks false ws₀ ws (Err (F.Cell p))
        faulted {p} z =
            (refl, record { tree = w.tree; is = is_good; sized = omega (arith, w.sized, all_rows); bad_at = found_at _ s (size w.tree) found p z })

    -- ---- a run of plain Waits
    module _ {ws' : List ℕ} {to next : ℕ} (v : Nodes kinds ns limits times places marks ws₀ begins owed under may ws open' left ended mayEnd s at)
        (run : Passes kinds ns limits times places marks mayEnd ws ws' at to next)
        (few : to < at + left) (low : to < 256) (inside : to < length (rows kinds ns limits)) (none : ended ≡ true → to ≡ at) where
      leaf_at : (i : ℕ) → at ≤ i → i < next → Leaf kinds ns limits times places marks ended mayEnd (ends_of ws') i
      leaf_at i a b = go ended refl none
        where
          go : (e : Bool) → ended ≡ e → (ended ≡ true → to ≡ at) → Leaf kinds ns limits times places marks ended mayEnd (ends_of ws') i
          go true e none = absurd (omega (arith, a, b, run.upper, none e))
          go false e none =
              let p = run.plain i a b in
              let in_limits : i < length limits = omega (arith, b, run.upper, inside, rows_length kinds ns limits) in
              let limit = any_default limits i nan zero_time in_limits in
              let is = rw limit at p.row in
              let below : below_of (get_or ws' i 0) ≡ 0 = ap below_of (run.word i a b) ∙ below_none (get_or kinds i 0) (get_or places i 0) (get_or marks i 0) in
              record {
                allowed = row_allowed_lem _ _ _ 0 is;
                alone = row_children _ _ _ 0 is;
                fine = rw e (sym p.cell);
                ends_here = omega (arith, end_at ws' i (omega (arith, b, run.upper, low, run.long)), below);
              }

      alike : (i : ℕ) → i < at → get_or (ends_of ws') i 0 ≡ get_or (ends_of ws) i 0
      alike i h =
          end_at ws' i (omega (arith, h, v.fits.low, run.long)) ∙ ap (λ (x : ℕ). i + 1 + below_of x) (run.before i h) ∙ sym (end_at ws i (omega (arith, h, v.fits.low, v.fits.long)))

      pub passed : Nodes kinds ns limits times places marks ws₀ begins owed under may ws' open' (left - (next - at)) ended mayEnd s next
      passed =
          let as-run = ends_alike kinds ns limits begins owed (ends_of ws) open' left at v.state (ends_of ws') alike (λ σ k. k) in
          let sum : at + (next - at) ≡ next = omega (arith, run.lower) in
          let all = leaves_passed kinds ns limits times places marks under may ended mayEnd begins owed (ends_of ws') open' s v.fits.room (next - at) left at as-run
          (omega (arith, run.lower, run.upper, few)) (omega (arith, run.lower, run.upper, low)) (omega (arith, run.lower, run.upper, inside))
          (omega (arith, run.lower, run.upper, low, ends_long ws', run.long)) (λ i a b. leaf_at i a (omega (arith, b, run.lower))) in
          record {
            state = rw sum at all;
            fits = moved v.fits run.long (omega (arith, run.upper, low)) (omega (arith, run.upper, inside)) v.fits.room;
            words = words_run;
            stays = λ i h. run.behind i h ∙ v.stays i (omega (arith, h, run.lower));
          }
        where
          words_run : (i : ℕ) → i < next → Packed kinds places marks ws' i
          words_run i h = go (ltb i at) refl
            where
              go : (b : Bool) → ltb i at ≡ b → Packed kinds places marks ws' i
              go true e = let z = ltb-true i at e in rw (run.before i z) (v.words i z)
              go false e =
                  let z = ltb-false i at e in
                  rw (run.word i z h, below_none (get_or kinds i 0) (get_or places i 0) (get_or marks i 0))

    -- ---- the turns
    module _ (v : Nodes kinds ns limits times places marks ws₀ begins owed under may ws open' left ended mayEnd s at) (inside : at < min (length (rows kinds ns limits)) 256) where
      low : at < 256
      low = omega arith

      in_rows : at < length (rows kinds ns limits)
      in_rows = omega arith

      long_at : at < length ws
      long_at = omega (arith, v.fits.long, low)

      pub owes : 0 < left
      owes = v.state.owes

      -- the code reads the limit with a default of its own
      abbrev told : Option ℕ
      told = row_of (get_or kinds at 0) (get_or ns at 0) (cleaned (get_or limits at nan))

      same : row_of (get_or kinds at 0) (get_or ns at 0) (cleaned (get_or limits at zero_time)) ≡ told
      same =
          ap (λ (l : Float). row_of (get_or kinds at 0) (get_or ns at 0) (cleaned l))
          (any_default limits at zero_time nan (omega (arith, in_rows, rows_length kinds ns limits)))

      pub row_refused : told ≡ None → table kinds ns limits ≡ bad at
      row_refused h =
          refused kinds ns limits at (refuses kinds ns limits begins owed (ends_of ws) open' left at v.state low in_rows v.fits.room (row_bad _ _ _ (same ∙ h)))

      module _ {c w : ℕ} {fine : Bool} (node : Node kinds ns limits times places marks ended mayEnd at c w fine) where
        ok : row_allowed (get_or kinds at 0) (get_or ns at 0) (cleaned (get_or limits at zero_time)) ≡ true
        ok = row_allowed_lem _ _ _ c (same ∙ node.told)

        kids : c ≡ children (kind_of (get_or kinds at 0)) (get_or ns at 0)
        kids = row_children _ _ _ c (same ∙ node.told)

        below_zero : below_of w ≡ 0
        below_zero = ap below_of node.packed ∙ below_none (get_or kinds at 0) (get_or places at 0) (get_or marks at 0)

        ends_then : ends_of (set ws at w) ≡ set (ends_of ws) at (at + 1)
        ends_then = set_end ws at w (at + 1) (omega (arith, below_zero))

        words_then : (i : ℕ) → i < at + 1 → Packed kinds places marks (set ws at w) i
        words_then i h = go (eqb i at) refl
          where
            go : (b : Bool) → eqb i at ≡ b → Packed kinds places marks (set ws at w) i
            go true e = let z : i ≡ at = eqb-true i at e in rw z (packed_new kinds places marks ws at w long_at node.packed)
            go false e =
                let z = eqb-false i at e in
                packed_other kinds places marks ws at i w z (v.words i (omega (arith, z)))

        pub stays_on : (i : ℕ) → at + 1 ≤ i → get_or (set ws at w) i 0 ≡ get_or ws₀ i 0
        stays_on i h = get_or-set_other ws at i w 0 (omega (arith, h)) ∙ v.stays i (omega (arith, h))

        module _ (pos : 0 < c) where
          -- ends from `at` on do not matter, so the word of the node can stand there
          before_open : Reading kinds ns limits most_deep (Known times places marks under may ended mayEnd s at) begins owed (ends_of (set ws at w)) open' left at
          before_open =
              ends_alike kinds ns limits begins owed (ends_of ws) open' left at v.state (ends_of (set ws at w))
              (λ i h. rw ends_then (get_or-set_other (ends_of ws) at i (at + 1) 0 (omega (arith, h)))) (λ σ k. k)

          below : Reading kinds ns limits most_deep
              (Known times places marks (set under open' ended) (set may open' mayEnd) (ended || ended_in (cell_at times places marks at))
              (marks_children (kind_of (get_or kinds at 0))) (first_of s fine at) (at + 1))
              (set begins open' at) (set owed open' (left - 1)) (ends_of (set ws at w)) (open' + 1) c (at + 1)
          below =
              descends kinds ns limits begins owed (ends_of (set ws at w)) open' left at before_open low in_rows v.fits.room ok c kids pos
              (omega (arith, v.fits.begins_long)) (omega (arith, v.fits.owed_long))
              (λ σ m lev k. opened times places marks (kind_of (get_or kinds at 0)) (get_or ns at 0) (cleaned (get_or limits at zero_time)) fine node.looks open' m σ lev
              (omega (arith, v.fits.room, v.fits.under_long)) (omega (arith, v.fits.room, v.fits.may_long)) k)

          pub too_deep_at : most_deep ≤ open' + 1 → table kinds ns limits ≡ bad (at + 1)
          unfolding table
          too_deep_at h =
              let f = too_deep kinds ns limits (set begins open' at) (set owed open' (left - 1)) (ends_of (set ws at w)) (open' + 1) c (at + 1) below h in
              rw f

          pub opens : open' + 1 < most_deep
              → Nodes kinds ns limits times places marks ws₀ (set begins open' at) (set owed open' (left - 1)) (set under open' ended) (set may open' mayEnd) (set ws at w) (open' + 1) c
              (ended || ended_in (cell_at times places marks at)) (marks_children (kind_of (get_or kinds at 0))) (first_of s fine at) (at + 1)
          opens room = record {
            state = below;
            fits = record {
              begins_long = length-set begins open' at ∙ v.fits.begins_long;
              owed_long = length-set owed open' (left - 1) ∙ v.fits.owed_long;
              under_long = length-set under open' ended ∙ v.fits.under_long;
              may_long = length-set may open' mayEnd ∙ v.fits.may_long;
              long = length-set ws at w ∙ v.fits.long;
              low = omega arith;
              inside = omega arith;
              room = room;
            };
            words = words_then;
            stays = stays_on;
          }

        pub ends_leaf : c ≤ 0 → Ended kinds ns limits times places marks (set ws at w) begins owed under may (set ws at w) open' (left - 1) ended mayEnd (first_of s fine at) (at + 1)
        ends_leaf none = record {
          state = rw ends_then (leaves kinds ns limits begins owed (ends_of ws) open' left at v.state low in_rows v.fits.room ok c kids none (rw (ends_long ws) long_at)
              (λ σ k. leaf_done times places marks (kind_of (get_or kinds at 0)) (get_or ns at 0) (cleaned (get_or limits at zero_time)) fine node.looks σ k));
          fits = moved v.fits (length-set ws at w ∙ v.fits.long) (omega arith) (omega arith) v.fits.room;
          words = words_then;
          stays = λ i h. refl;
        }

    module _ (v : Ended kinds ns limits times places marks ws₀ begins owed under may ws open' left ended mayEnd s at) where
      at_low : at ≤ length (ends_of ws)
      at_low = omega (arith, ends_long ws, v.fits.long, v.fits.low)

      pub goes_on : 0 < left → Nodes kinds ns limits times places marks ws₀ begins owed under may ws open' left ended mayEnd s at
      goes_on more = record {
        state = nexts kinds ns limits begins owed (ends_of ws) open' left at at_low v.state
            (λ p k n l kids m m' σ t q e h. next_known times places marks p k n l kids m σ t q h at m' e) more;
        fits = v.fits;
        words = v.words;
        stays = v.stays;
      }

      module _ (pos : 0 < open') where
        pub begin_low : get_or begins (open' - 1) 0 < at
        begin_low = begins_before kinds ns limits begins owed (ends_of ws) open' left at at_low v.state pos

        abbrev done : ℕ
        done = get_or begins (open' - 1) 0

        module _ (w : ℕ) (is : w ≡ with_below (get_or ws done 0) (at - done - 1)) where
          few : at - done - 1 < 256
          few = omega (arith, v.fits.low, begin_low)

          ends_closed : ends_of (set ws done w) ≡ set (ends_of ws) done at
          ends_closed = set_end ws done w at (omega (arith, ap below_of is ∙ below_with (get_or ws done 0) (at - done - 1) few, begin_low))

          words_closed : (i : ℕ) → i < at → Packed kinds places marks (set ws done w) i
          words_closed i h = go (eqb i done) refl
            where
              go : (b : Bool) → eqb i done ≡ b → Packed kinds places marks (set ws done w) i
              go true e =
                  let z : i ≡ done = eqb-true i done e in
                  rw z (packed_with kinds places marks ws done w (at - done - 1) (omega (arith, v.fits.long, v.fits.low, begin_low)) few (v.words done begin_low) is)
              go false e = packed_other kinds places marks ws done i w (eqb-false i done e) (v.words i h)

          pub closes_one : left ≡ 0
              → Ended kinds ns limits times places marks ws₀ begins owed under may (set ws done w) (open' - 1) (get_or owed (open' - 1) 0) (get_or under (open' - 1) false)
              (get_or may (open' - 1) false) s at
          closes_one none = record {
            state = rw ends_closed (closes kinds ns limits begins owed (ends_of ws) open' left at at_low v.state
                (λ p k n l kids m σ t q top h. close_done times places marks p k n l kids m σ t q h open' top) pos none);
            fits = moved v.fits (length-set ws done w ∙ v.fits.long) v.fits.low v.fits.inside (omega (arith, v.fits.room));
            words = words_closed;
            stays = λ i h. get_or-set_other ws done i w 0 (omega (arith, h, begin_low)) ∙ v.stays i h;
          }
