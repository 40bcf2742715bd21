-- The invariant of the cell check's loop, and what each way through a turn makes of it.
use mathlib.Core.Path.{◌≡◌, refl, sym, ap, subst, ◌∙◌}
use mathlib.Core.Bool.{Bool, true, false, cond}
use mathlib.Core.List.{List}
use Rattle.std.proofs.Common.{Ok, Err}
use Prim.Native.Nat.{ℕ, ◌+◌, ◌-◌, ◌≤◌, ◌<◌}
use native.Mathlib.Omega.{arith}
use borrow.Author.Tests.{ltb-true, ltb-false}
use lib.Dec.{ltb, eqb}
use lib.Ieee.{Float}
use lib.ListN.{length, get_or, set, length-set}
use lib.Seq.{get_or-set_same, get_or-set_other}
use Rattle.rules.specs.declared.behavior.Kind.{Kind}
use Rattle.rules.specs.Kinds.{kind_of, marks_children}
use Rattle.rules.specs.Tree.{Tree, size, depth}
use Rattle.rules.specs.Cells.{cells, with_cells, cell_allowed, Found, bad_cell}
use Rattle.tables.specs.At.{At}
use Rattle.tables.proofs.Placed.{at_end}
use Rattle.lent.specs.declared.table.Table.{Table}
use Rattle.lent.specs.declared.cells.Cells.{Cells}
use Rattle.cells.specs.Check.{Room, Said, bad_at, said, open_of}
use Rattle.lent.specs.Lengths.{cells_length}
use Rattle.cells.proofs.Held.{cell_at, holds}
use Rattle.cells.proofs.Run.{Scanned, Ready, start, ready, within, refuses, opens, passes, never, finished}
use Rattle.cells.proofs.Still.{all_stay, bounds}

-- a list with one more number up to n
set_at :
    (b : Bool) (xs : List ℕ) (o s n i : ℕ) → ltb i o ≡ b → o < length xs →
    ((j : ℕ) → j < o → get_or xs j 0 ≤ n) → s ≤ n → i < o + 1 → get_or (set xs o s) i 0 ≤ n
set_at true xs o s n i e long h low lt =
    let f = ltb-true i o e in
    rw (get_or-set_other xs o i s 0 (omega arith)) (h i f)
set_at false xs o s n i e long h low lt =
    let f = ltb-false i o e in
    let z : i ≡ o = omega arith in
    rw (z, get_or-set_same xs o s 0 long) low

set_low :
    (xs : List ℕ) (o s n : ℕ) → o < length xs →
    ((j : ℕ) → j < o → get_or xs j 0 ≤ n) → s ≤ n → (i : ℕ) → i < o + 1 → get_or (set xs o s) i 0 ≤ n
set_low xs o s n long h low i lt = set_at _ xs o s n i refl long h low lt

-- the rules' verdict on a tree with the cells of a run
abbrev answer : List Float → List ℕ → List ℕ → Tree → Found
answer times places marks t = bad_cell false false 0 (with_cells t (cells times places marks)).0

module _ (kinds ns ends : List ℕ) (times : List Float) (places marks : List ℕ) (n : ℕ) where
  -- of every tree that stands in the table
  abbrev InAll : (Found → Type 0) → Type 0
  InAll P =
      (limits : List Float) (t : Tree) → At kinds ns limits ends 0 t → size t ≡ n → depth t ≤ 16 → P (answer times places marks t)

  -- what is said of each
  abbrev pub Says : Said → Type 0
  Says r = InAll (λ (o : Found). r ≡ said o)

  -- the open nodes, with those of the innermost
  pub record Nodes (stops : List ℕ) (may : List Bool) (open' last : ℕ) (m : Bool) : Type 0 where
    pub some : 1 ≤ open'
    pub room : open' ≤ 16
    pub stops_long : length stops ≡ 16
    pub may_long : length may ≡ 16
    pub bounded : (i : ℕ) → i < open' → get_or stops i 0 ≤ n
    pub last_is : last ≡ get_or stops (open' - 1) 0
    pub may_is : m ≡ get_or may (open' - 1) false

  -- the cells before `at` are allowed
  pub record Turn (stops : List ℕ) (may : List Bool) (open' last : ℕ) (m : Bool) (until at : ℕ) : Type 0 where
    pub nodes : Nodes stops may open' last m
    pub low : at ≤ n
    pub scanned : InAll (Scanned kinds ns ends times places marks n stops may open' until at)

  -- ... and the next one is there, in the innermost
  pub record Here (stops : List ℕ) (may : List Bool) (open' last : ℕ) (m : Bool) (until at : ℕ) : Type 0 where
    pub nodes : Nodes stops may open' last m
    pub low : at < n
    pub there : InAll (Ready kinds ns ends times places marks n stops may open' until at)

pub starts :
    {t : Table} {c : Cells} (ends : List ℕ) {n : ℕ} {stops : List ℕ} {may : List Bool} → Room t c n →
    length stops ≡ 16 → length may ≡ 16 → get_or stops 0 0 ≡ n → get_or may 0 false ≡ false →
    Turn t.kinds.now t.ns.now ends c.times.now c.places.now c.marks.now n stops may 1 n false 0 0
starts {t} {c} ends {n} {stops = stops} {may = may} room ls lm s y = record {
  nodes = record {
    some = omega arith;
    room = omega arith;
    stops_long = ls;
    may_long = lm;
    bounded = λ i h. let z : i ≡ 0 = omega arith in rw z (omega arith);
    last_is = sym s;
    may_is = sym y;
  };
  low = omega arith;
  scanned = λ limits tree h z d.
      let e : get_or ends 0 0 ≡ n = omega (arith, at_end t.kinds.now t.ns.now limits tree ends 0 h) in
      let count = cells_length c.times.now c.places.now c.marks.now in
      let long : get_or ends 0 0 ≤ length (cells c.times.now c.places.now c.marks.now) = omega (arith, room.times_long, room.places_long, room.marks_long) in
      let held = (holds t.kinds.now t.ns.now ends c.times.now c.places.now c.marks.now limits tree 16 0 d h long).0 in
      start t.kinds.now t.ns.now ends c.times.now c.places.now c.marks.now n stops may (with_cells tree (cells c.times.now c.places.now c.marks.now)).0 held e s y;
}

module _ {kinds ns ends : List ℕ} {times : List Float} {places marks : List ℕ} {n : ℕ} where
  module _
      {stops : List ℕ} {may : List Bool} {open' last : ℕ} {m : Bool} {until at : ℕ}
      (v : Turn kinds ns ends times places marks n stops may open' last m until at) where
    pub done : n ≤ at → Says kinds ns ends times places marks n (Ok tt)
    done h limits t a z d =
        finished kinds ns ends times places marks n stops may open' until at (answer times places marks t) (v.scanned limits t a z d) h

    module _ {o : ℕ} (os : o ≡ open_of stops at open') where
      pub some_left : (1 ≤ o) × (o ≤ open')
      some_left =
          let b = bounds stops at open' v.nodes.some in
          (omega arith, omega arith)

      -- the nodes that end here are closed
      pub closes :
          at < n → {l : ℕ} → l ≡ get_or stops (o - 1) 0 → {m' : Bool} → m' ≡ get_or may (o - 1) false →
          Here kinds ns ends times places marks n stops may o l m' until at
      closes lt ls ms =
          let b = some_left in
          record {
            nodes = record {
              some = b.0;
              room = omega (arith, v.nodes.room);
              stops_long = v.nodes.stops_long;
              may_long = v.nodes.may_long;
              bounded = λ i h. v.nodes.bounded i (omega arith);
              last_is = ls;
              may_is = ms;
            };
            low = lt;
            there = λ limits t a z d.
                let right = answer times places marks t in
                let node = ready kinds ns ends times places marks n stops may until at right open' (v.scanned limits t a z d) lt in
                subst (λ (x : ℕ). Ready kinds ns ends times places marks n stops may x until at right) (sym os) node;
          }

    -- none ends here
    pub stays : at < last → Here kinds ns ends times places marks n stops may open' last m until at
    stays h =
        let w = v.nodes in
        let all = all_stay stops at open' w.some (omega (arith, w.last_is)) in
        let bound = w.bounded (open' - 1) (omega (arith, w.some)) in
        closes (sym all) (omega (arith, w.last_is, w.some)) w.last_is w.may_is

  module _
      {stops : List ℕ} {may : List Bool} {open' last : ℕ} {m : Bool} {until at : ℕ}
      (v : Here kinds ns ends times places marks n stops may open' last m until at) where
    module _
        {k : Kind} (kind : k ≡ kind_of (get_or kinds at 0))
        {a : Bool} (is : a ≡ cell_allowed (ltb at until) m k (get_or ns at 0) (cell_at times places marks at)) where
      is' : a ≡ cell_allowed (ltb at until) (get_or may (open' - 1) false) k (get_or ns at 0) (cell_at times places marks at)
      is' = is ∙ ap (λ (x : Bool). cell_allowed (ltb at until) x k (get_or ns at 0) (cell_at times places marks at)) v.nodes.may_is

      pub refused : a ≡ false → Says kinds ns ends times places marks n (Err (bad_at at))
      refused h limits t x z d =
          refuses kinds ns ends times places marks n stops may open' until at (answer times places marks t) (v.there limits t x z d) k kind a is' h

      module _ (taken : a ≡ true) {s : ℕ} (ss : s ≡ get_or ends at 0) where
        pub too_deep : at + 1 < s → 16 ≤ open' → Says kinds ns ends times places marks n (Err (bad_at at))
        too_deep h g limits t x z d =
            let right = answer times places marks t in
            absurd (never kinds ns ends times places marks n stops may open' until at right (v.there limits t x z d) k kind a is' taken (omega arith) g)

        pub too_wide : n < s → Says kinds ns ends times places marks n (Err (bad_at at))
        too_wide h limits t x z d =
            absurd (omega (arith, within kinds ns ends times places marks n stops may open' until at (answer times places marks t) (v.there limits t x z d)))

        pub opened :
            {u : ℕ} → u ≡ cond (eqb (get_or marks at 0) 1) s until → {m' : Bool} → m' ≡ marks_children k →
            at + 1 < s → open' < 16 → s ≤ n →
            Turn kinds ns ends times places marks n (set stops open' s) (set may open' m') (open' + 1) s m' u (at + 1)
        opened us {m'} ms h g low =
            let w = v.nodes in
            let e : open' + 1 - 1 ≡ open' = omega arith in
            record {
              nodes = record {
                some = omega arith;
                room = omega arith;
                stops_long = length-set stops open' s ∙ w.stops_long;
                may_long = length-set may open' m' ∙ w.may_long;
                bounded = set_low stops open' s n (omega (arith, w.stops_long)) w.bounded low;
                last_is = rw e (sym (get_or-set_same stops open' s 0 (omega (arith, w.stops_long))));
                may_is = rw e (sym (get_or-set_same may open' m' false (omega (arith, w.may_long))));
              };
              low = omega (arith, v.low);
              scanned = λ limits t x z d.
                  let right = answer times places marks t in
                  let there = v.there limits t x z d in
                  let lt : at + 1 < get_or ends at 0 = omega arith in
                  rw (us, ss)
                  (opens kinds ns ends times places marks n stops may open' until at right there k kind a is' taken m' ms lt g w.stops_long w.may_long);
            }

        pub passed : s ≤ at + 1 → Turn kinds ns ends times places marks n stops may open' last m until (at + 1)
        passed h = record {
          nodes = v.nodes;
          low = omega (arith, v.low);
          scanned = λ limits t x z d.
              let right = answer times places marks t in
              passes kinds ns ends times places marks n stops may open' until at right (v.there limits t x z d) k kind a is' taken (omega arith);
        }
