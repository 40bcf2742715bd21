-- The invariant of the table check's two loops, and what each way through a turn makes of it.
use mathlib.Core.Path.{◌≡◌, refl, ap, ◌∙◌}
use mathlib.Core.Bool.{true}
use mathlib.Core.List.{List, map}
use Prim.Native.Nat.{ℕ, ◌+◌, ◌-◌, ◌≤◌, ◌<◌, min}
use native.Mathlib.Omega.{arith}
use lib.Ieee.{Float}
use lib.ListN.{length, get_or, get_or-map, set, length-set, drop_of_length-le}
use lib.Seq.{drop-cons, get_or-set_other}
use Rattle.std.proofs.lemmas.List.{map-set}
use Rattle.rules.specs.Kinds.{kind_of, children}
use Rattle.rules.specs.Tree.{zero_time}
use Rattle.rules.specs.Table as T
use Rattle.rules.specs.Table.{cleaned, rows, row_allowed, got, fault, read_tree}
use Rattle.std.specs.Prelude.{Option, Some, None, Result, Ok, Err}
use Rattle.tables.specs.declared.table.BadTable.{BadTable}
use Rattle.tables.specs.declared.table.Open.{Open}
use Rattle.tables.specs.Checks.{row_of, Tabled}
use Rattle.tables.proofs.Rows.{row_bad, row_allowed_lem, row_children, any_default}
use Rattle.lent.specs.Lengths.{rows_length}
use Rattle.tables.proofs.Depth.{read_depth}
use Rattle.tables.proofs.Scan.{Reading, Closing, start, past, too_deep, refuses, descends, leaves, nexts, begins_before, closes, Whole, whole}

-- the columns of the open nodes, and the innermost
abbrev pub begins_of : List Open → List ℕ
begins_of os = map (λ (o : Open). o.begin) os

abbrev pub owed_of : List Open → List ℕ
owed_of os = map (λ (o : Open). o.owed) os

abbrev pub top_of : List Open → ℕ → Open
top_of os open' = get_or os (open' - 1) (record { begin = 0; owed = 0 })

abbrev bad : ℕ → Result ℕ BadTable
bad p = Err (record { 0 = p })

-- what is said of begins, owed, ends, open', left and at
abbrev pub Stand : Type 1
Stand = List ℕ → List ℕ → List ℕ → ℕ → ℕ → ℕ → Type 0

-- the arrays are long enough for a table of so many levels, and `at` is a place of it
pub record Fits (most : ℕ) (kinds ns : List ℕ) (limits : List Float) (begins owed ends : List ℕ) (open' at : ℕ) : Type 0 where
  pub begins_long : most ≤ length begins
  pub owed_long : most ≤ length owed
  pub ends_long : length ends ≡ 256
  pub low : at ≤ 256
  pub inside : at ≤ length (rows kinds ns limits)
  pub room : open' < most

-- with ends₀ before the loop
pub record Kept (most : ℕ) (kinds ns : List ℕ) (limits : List Float) (State : Stand) (ends₀ begins owed ends : List ℕ) (open' left at : ℕ) : Type 0 where
  pub state : State begins owed ends open' left at
  pub fits : Fits most kinds ns limits begins owed ends open' at
  pub stays : (i : ℕ) → at ≤ i → get_or ends i 0 ≡ get_or ends₀ i 0

-- an end is written at q
marked :
    {most : ℕ} {kinds ns : List ℕ} {limits : List Float} {begins owed ends : List ℕ} {open' open'' at : ℕ} →
    Fits most kinds ns limits begins owed ends open' at → (q at' : ℕ) → at' ≤ 256 → at' ≤ length (rows kinds ns limits) → open'' < most →
    Fits most kinds ns limits begins owed (set ends q at') open'' at'
marked {ends = ends} f q at' low inside room = record {
  begins_long = f.begins_long;
  owed_long = f.owed_long;
  ends_long = length-set ends q at' ∙ f.ends_long;
  low = low;
  inside = inside;
  room = room;
}

-- nothing else is known of the frames
abbrev pub Nodes : ℕ → List ℕ → List ℕ → List Float → List ℕ → Stand
Nodes most kinds ns limits = Kept most kinds ns limits (Reading kinds ns limits most λ σ. Unit {0})

abbrev pub Ended : ℕ → List ℕ → List ℕ → List Float → List ℕ → Stand
Ended most kinds ns limits = Kept most kinds ns limits (Closing kinds ns limits most λ t q σ. Unit {0})

pub first :
    {most : ℕ} {kinds ns : List ℕ} {limits : List Float} {begins owed ends : List ℕ} →
    0 < most → most ≤ length begins → most ≤ length owed → length ends ≡ 256 → Nodes most kinds ns limits ends begins owed ends 0 1 0
first {kinds = kinds} {ns = ns} {limits = limits} {begins = begins} {owed = owed} {ends = ends} some lb lo le = record {
  state = start kinds ns limits begins owed ends tt;
  fits = record { begins_long = lb; owed_long = lo; ends_long = le; low = omega arith; inside = omega arith; room = some };
  stays = λ i h. refl;
}

-- seen from before the outer loop
pub since :
    {most : ℕ} {kinds ns : List ℕ} {limits : List Float} {State : Stand}
    {first begins owed begins' owed' ends ends' : List ℕ} {open' open'' left left' at : ℕ} →
    Nodes most kinds ns limits first begins owed ends open' left at →
    Kept most kinds ns limits State (set ends at (at + 1)) begins' owed' ends' open'' left' (at + 1) →
    Kept most kinds ns limits State first begins' owed' ends' open'' left' (at + 1)
since {ends = ends} {at = at} w v = record {
  state = v.state;
  fits = v.fits;
  stays = λ i h. v.stays i h ∙ get_or-set_other ends at i (at + 1) 0 (omega arith) ∙ w.stays i (omega arith);
}

module _ {most : ℕ} {kinds ns : List ℕ} {limits : List Float} {ends₀ begins owed ends : List ℕ} {open' left at : ℕ} where
  -- ---- the answers
  refused :
      {State : Stand} → Kept most kinds ns limits State ends₀ begins owed ends open' left at →
      read_tree most 0 (rows kinds ns limits) ≡ fault at → Tabled most kinds ns limits ends₀ ends (bad at)
  refused v e = record { said = rw e; tree = rw e tt; long = v.fits.ends_long; stays = v.stays }

  pub at_end :
      Nodes most kinds ns limits ends₀ begins owed ends open' left at →
      min (length (rows kinds ns limits)) 256 ≤ at → Tabled most kinds ns limits ends₀ ends (bad at)
  at_end v h = refused v (past kinds ns limits begins owed ends open' left at v.state h)

  module _ (v : Ended most kinds ns limits ends₀ begins owed ends open' left at) (none : open' ≡ 0) where
    abbrev w : Whole kinds ns limits most (λ t q σ. Unit {0}) ends at
    w = whole kinds ns limits begins owed ends open' left at v.state none

    pub too_long : at < length (rows kinds ns limits) → Tabled most kinds ns limits ends₀ ends (bad at)
    too_long h =
        let e = w.reads ∙ ap (got w.tree at) (drop-cons (rows kinds ns limits) at (T.row 0 0 zero_time) h) in
        record { said = rw e; tree = rw e tt; long = v.fits.ends_long; stays = v.stays }

    pub accepted : length (rows kinds ns limits) ≤ at → Tabled most kinds ns limits ends₀ ends (Ok at)
    accepted h =
        let e = w.reads ∙ ap (got w.tree at) (drop_of_length-le (rows kinds ns limits) h) in
        record {
          said = rw e (ap Ok w.sized);
          tree = rw e (record {
            nodes = omega (arith, w.sized, v.fits.inside);
            few = omega (arith, w.sized, v.fits.low);
            levels = read_depth most 0 (rows kinds ns limits) w.reads;
            placed = w.placed;
          });
          long = v.fits.ends_long;
          stays = v.stays;
        }

  -- ---- the turns
  module _ (v : Nodes most kinds ns limits ends₀ begins owed ends open' left at) (inside : at < min (length (rows kinds ns limits)) 256) where
    low : at < 256
    low = omega arith

    in_rows : at < length (rows kinds ns limits)
    in_rows = omega arith

    -- the code reads the limit with a default of its own
    module _ (d : Float) where
      abbrev told : Option ℕ
      told = row_of (get_or kinds at 0) (get_or ns at 0) (cleaned (get_or limits at d))

      same : row_of (get_or kinds at 0) (get_or ns at 0) (cleaned (get_or limits at zero_time)) ≡ told
      same =
          let long = rows_length kinds ns limits in
          ap (λ (l : Float). row_of (get_or kinds at 0) (get_or ns at 0) (cleaned l)) (any_default limits at zero_time d (omega (arith, in_rows)))

      pub row_refused : told ≡ None → Tabled most kinds ns limits ends₀ ends (bad at)
      row_refused h =
          refused v (refuses kinds ns limits begins owed ends open' left at v.state low in_rows v.fits.room (row_bad _ _ _ (same ∙ h)))

      module _ (c : ℕ) (is : told ≡ Some c) where
        ok : row_allowed (get_or kinds at 0) (get_or ns at 0) (cleaned (get_or limits at zero_time)) ≡ true
        ok = row_allowed_lem _ _ _ c (same ∙ is)

        e : c ≡ children (kind_of (get_or kinds at 0)) (get_or ns at 0)
        e = row_children _ _ _ c (same ∙ is)

        module _ (pos : 0 < c) where
          below : Reading kinds ns limits most (λ σ. Unit {0}) (set begins open' at) (set owed open' (left - 1)) ends (open' + 1) c (at + 1)
          below =
              descends kinds ns limits begins owed ends open' left at v.state low in_rows v.fits.room ok c e pos v.fits.begins_long v.fits.owed_long λ σ m h z. tt

          pub too_deep_at : most ≤ open' + 1 → Tabled most kinds ns limits ends₀ ends (bad (at + 1))
          too_deep_at h =
              let f = too_deep kinds ns limits (set begins open' at) (set owed open' (left - 1)) ends (open' + 1) c (at + 1) below h in
              record { said = rw f; tree = rw f tt; long = v.fits.ends_long; stays = λ i z. v.stays i (omega arith) }

          pub opens :
              open' + 1 < most →
              Nodes most kinds ns limits ends₀ (set begins open' at) (set owed open' (left - 1)) ends (open' + 1) c (at + 1)
          opens room = record {
            state = below;
            fits = record {
              begins_long = rw (length-set begins open' at) v.fits.begins_long;
              owed_long = rw (length-set owed open' (left - 1)) v.fits.owed_long;
              ends_long = v.fits.ends_long;
              low = omega arith;
              inside = omega arith;
              room = room;
            };
            stays = λ i h. v.stays i (omega arith);
          }

        pub ends_leaf :
            c ≤ 0 →
            Ended most kinds ns limits (set ends at (at + 1)) begins owed (set ends at (at + 1)) open' (left - 1) (at + 1)
        ends_leaf none = record {
          state = leaves kinds ns limits begins owed ends open' left at v.state low in_rows v.fits.room ok c e none (omega (arith, v.fits.ends_long)) λ σ z. tt;
          fits = marked v.fits at (at + 1) (omega arith) (omega arith) v.fits.room;
          stays = λ i h. refl;
        }

  module _ (v : Ended most kinds ns limits ends₀ begins owed ends open' left at) where
    pub goes_on : 0 < left → Nodes most kinds ns limits ends₀ begins owed ends open' left at
    goes_on more = record {
      state = nexts kinds ns limits begins owed ends open' left at (omega (arith, v.fits.ends_long, v.fits.low)) v.state (λ p k n l kids m m' σ t q h z. tt) more;
      fits = v.fits;
      stays = v.stays;
    }

    module _ (pos : 0 < open') where
      begin_low : get_or begins (open' - 1) 0 < at
      begin_low = begins_before kinds ns limits begins owed ends open' left at (omega (arith, v.fits.ends_long, v.fits.low)) v.state pos

      closes_one :
          left ≡ 0 →
          Ended most kinds ns limits ends₀ begins owed (set ends (get_or begins (open' - 1) 0) at) (open' - 1) (get_or owed (open' - 1) 0) at
      closes_one none = record {
        state = closes kinds ns limits begins owed ends open' left at (omega (arith, v.fits.ends_long, v.fits.low)) v.state (λ p k n l kids m σ t q h z. tt) pos none;
        fits = marked v.fits (get_or begins (open' - 1) 0) at v.fits.low v.fits.inside (omega (arith, v.fits.room));
        stays = λ i h. get_or-set_other ends (get_or begins (open' - 1) 0) i at 0 (omega (arith, begin_low)) ∙ v.stays i h;
      }

-- ---- the open nodes as the code has them
top_begin : (os : List Open) (open' : ℕ) → get_or (begins_of os) (open' - 1) 0 ≡ (top_of os open').begin
top_begin os open' = get_or-map (λ (o : Open). o.begin) os (open' - 1) _

top_owed : (os : List Open) (open' : ℕ) → get_or (owed_of os) (open' - 1) 0 ≡ (top_of os open').owed
top_owed os open' = get_or-map (λ (o : Open). o.owed) os (open' - 1) _

module _ {most : ℕ} {kinds ns : List ℕ} {limits : List Float} {ends₀ ends : List ℕ} (os : List Open) (open' left at : ℕ) where
  pub opens_node :
      {c : ℕ} →
      Nodes most kinds ns limits ends₀ (set (begins_of os) open' at) (set (owed_of os) open' (left - 1)) ends (open' + 1) c (at + 1) →
      let os' = set os open' (record { begin = at; owed = left - 1 }) in
      Nodes most kinds ns limits ends₀ (begins_of os') (owed_of os') ends (open' + 1) c (at + 1)
  opens_node v = simp map-set v

  module _ (v : Ended most kinds ns limits ends₀ (begins_of os) (owed_of os) ends open' left at) (pos : 0 < open') where
    pub top_low : (top_of os open').begin < at
    top_low = rw (top_begin os open') at (begin_low v pos)

    pub closes_top :
        left ≡ 0 →
        Ended most kinds ns limits ends₀ (begins_of os) (owed_of os) (set ends (top_of os open').begin at) (open' - 1) (top_of os open').owed at
    closes_top none = rw (top_begin os open', top_owed os open') at (closes_one v pos none)
