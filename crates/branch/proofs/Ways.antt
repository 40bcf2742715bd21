-- One step on the way down: past a child, or into it.
use mathlib.Core.Path.{◌≡◌, refl, sym, ◌∙◌}
use mathlib.Core.Bool.{Bool, true, false, not, ◌&&◌, ◌||◌}
use mathlib.Core.List.{List}
use Prim.Native.Nat.{ℕ, zero, suc, ◌+◌, ◌-◌, ◌≤◌, ◌<◌}
use native.Mathlib.Numerals.{add-one}
use native.Mathlib.Omega.{arith}
use borrow.Author.Tests.{lt-ltb, le-ltb, eq-eqb, ne_eqb}
use lib.Dec.{eqb}
use lib.Ieee.{Float}
use lib.ListN.{get_or}
use Rattle.std.specs.Bool.{then_some}
use Rattle.std.specs.Prelude.{None}
use Rattle.rules.specs.declared.behavior.Kind.{Kind}
use Rattle.rules.specs.Kinds.{kind_of}
use Rattle.rules.specs.Tree.{Cell, Tree, node, Forest, [], ◌◂◌, size, marked}
use Rattle.rules.specs.Exchange.{spot, free, free_in}
use Rattle.branch.specs.Each.{Each, EachAll}
use Rattle.branch.specs.Way.{above, above_in, Node, Stands}
use Rattle.branch.proofs.Eachs.{size_pos, each_end, eachs_end}

-- what is known of the numbers on the way
pub record Numbers (at up levels child i : ℕ) : Type 0 where
  pub low : child ≤ at
  pub over : up < child
  pub number : i < child
  pub levels_low : levels ≤ child

-- the root lies in no spot
pub root : (t : Tree) → None ≡ then_some (free false t 0) (above t 0)
unfolding free above
root (node k n l c b ts) = refl

module _ (kinds ns ends places marks : List ℕ) where
  abbrev Here : ℕ → Kind → ℕ → Float → Cell → Type 0
  Here = Node kinds ns ends places marks

  -- whether the child number i of the node at `up` lies in a spot
  abbrev pub inside : Bool → ℕ → ℕ → Bool
  inside in_spot up i = in_spot || spot (kind_of (get_or kinds up 0)) (get_or ns up 0) (get_or places up 0) i

  -- the node at `at` of t lies in the trees from `child` to `stop`, which are the children of the node at `up` from number i on
  record Among (t : Tree) (at up levels child i : ℕ) (in_spot : Bool) (kids : Forest) (stop : ℕ) : Type 0 where
    stands : EachAll ends Here child kids stop
    low : child ≤ at
    high : at < stop
    over : up < child
    number : i < child
    levels_low : levels ≤ child
    leads : free_in in_spot (kind_of (get_or kinds up 0)) (get_or ns up 0) (get_or places up 0) i kids (at - child) ≡ free false t at
    deep : levels + above_in kids (at - child) ≡ above t at

  pub record Going (t : Tree) (at up levels child i : ℕ) (in_spot : Bool) : Type 0 where
    kids : Forest
    stop : ℕ
    among : Among t at up levels child i in_spot kids stop

  module _ {t : Tree} {at up levels child i : ℕ} {in_spot : Bool} (g : Going t at up levels child i in_spot) where
    pub numbers : Numbers at up levels child i
    numbers = let a = g.among in record { low = a.low; over = a.over; number = a.number; levels_low = a.levels_low }

  -- ---- from the root
  start_at : (t : Tree) (p : ℕ) → Stands kinds ns ends places marks t → suc p < size t → Going t (suc p) 0 1 1 0 false
  unfolding size free above
  start_at (node k n l c b ts) p h m =
      let e = eachs_end ends Here ts 1 (get_or ends 0 0) h.1 in
      let z : suc p - 1 ≡ p = omega arith in
      record {
        kids = ts;
        stop = get_or ends 0 0;
        among = record {
          stands = h.1;
          low = omega arith;
          high = omega arith;
          over = omega arith;
          number = omega arith;
          levels_low = omega arith;
          leads = rw (h.0.kind, h.0.number, h.0.place, z);
          deep = rw z (omega arith);
        };
      }

  pub start : (t : Tree) (at : ℕ) → Stands kinds ns ends places marks t → at < size t → (at ≡ 0 → ⊥) → Going t at 0 1 1 0 false
  start t zero h m n = absurd (n refl)
  start t (suc p) h m n = start_at t p h m

  -- ---- past a child
  module _ (t : Tree) (at up levels child i : ℕ) (in_spot : Bool) where
    passes_by : (us : Forest) (stop : ℕ) → Among t at up levels child i in_spot us stop → get_or ends child 0 ≤ at → Going t at up levels (get_or ends child 0) (i + 1) in_spot
    unfolding free above
    passes_by [] stop a past = absurd (omega (arith, a.stands))
    passes_by (u ◂ us) stop a past =
        let e = each_end ends Here u child a.stands.0 in
        let pos = size_pos u in
        let z : at - child - size u ≡ at - get_or ends child 0 = omega arith in
        let f = le-ltb (at - child) (size u) (omega arith) in
        record {
          kids = us;
          stop = stop;
          among = record {
            stands = a.stands.1;
            low = past;
            high = a.high;
            over = omega arith;
            number = omega arith;
            levels_low = omega arith;
            leads = rw add-one (rw (f, z) at a.leads);
            deep = rw (f, z) at a.deep;
          };
        }

    later_by : (us : Forest) (stop : ℕ) → Among t at up levels child i in_spot us stop → child < get_or ends child 0
    later_by [] stop a = absurd (omega (arith, a.stands, a.low, a.high))
    later_by (u ◂ us) stop a = omega (arith, each_end ends Here u child a.stands.0, size_pos u)

    -- ---- into a child, the tree u
    record Entered : Type 0 where
      u : Tree
      stands : Each ends Here child u
      fits : at - child < size u
      leads : not (marked u) && free (inside in_spot up i) u (at - child) ≡ free false t at
      deep : levels + above u (at - child) ≡ above t at

    enters_by : (us : Forest) (stop : ℕ) → Among t at up levels child i in_spot us stop → at < get_or ends child 0 → Entered
    unfolding free above
    enters_by [] stop a before = absurd (omega (arith, a.stands))
    enters_by (u ◂ us) stop a before =
        let e = each_end ends Here u child a.stands.0 in
        let f = lt-ltb (at - child) (size u) (omega arith) in
        record { u = u; stands = a.stands.0; fits = omega arith; leads = rw f at a.leads; deep = rw f at a.deep }

    marked_by : (u : Tree) → Each ends Here child u → marked u ≡ eqb (get_or marks child 0) 1
    marked_by (node k n l c b ts) h = rw h.0.mark

    found_by : (u : Tree) → free (inside in_spot up i) u 0 ≡ inside in_spot up i
    unfolding free
    found_by (node k n l c b ts) = refl

    none_above : (u : Tree) → above u 0 ≡ 0
    unfolding above
    none_above (node k n l c b ts) = refl

    deeper_by : (u : Tree) (p : ℕ) → Each ends Here child u → at - child ≡ suc p → suc p < size u → (s : Bool) →
        free s u (suc p) ≡ free false t at → levels + above u (suc p) ≡ above t at → child ≤ at → levels ≤ child →
        Going t at child (levels + 1) (child + 1) 0 s
    unfolding size free above
    deeper_by (node k n l c b ts) p h z m s leads deep low ups =
        let e = eachs_end ends Here ts (suc child) (get_or ends child 0) h.1 in
        let z' : at - (child + 1) ≡ p = omega arith in
        record {
          kids = ts;
          stop = get_or ends child 0;
          among = record {
            stands = rw add-one h.1;
            low = omega arith;
            high = omega arith;
            over = omega arith;
            number = omega arith;
            levels_low = omega arith;
            leads = rw (h.0.kind, h.0.number, h.0.place, z') leads;
            deep = rw z' (omega arith);
          };
        }

  module _ {t : Tree} {at up levels child i : ℕ} {in_spot : Bool} (g : Going t at up levels child i in_spot) where
    pub later : child < get_or ends child 0
    later = later_by t at up levels child i in_spot g.kids g.stop g.among

    pub passes : get_or ends child 0 ≤ at → Going t at up levels (get_or ends child 0) (i + 1) in_spot
    passes h = passes_by t at up levels child i in_spot g.kids g.stop g.among h

    module _ (before : at < get_or ends child 0) where
      into : Entered t at up levels child i in_spot
      into = enters_by t at up levels child i in_spot g.kids g.stop g.among before

      pub ended : get_or marks child 0 ≡ 1 → None ≡ then_some (free false t at) (above t at)
      ended m =
          let e = into in
          let held : marked e.u ≡ true = marked_by t at up levels child i in_spot e.u e.stands ∙ eq-eqb (get_or marks child 0) 1 m in
          let no : false ≡ free false t at = rw held at e.leads in
          rw (← no)

      module _ (live : get_or marks child 0 ≡ 1 → ⊥) where
        goes_on : free (inside in_spot up i) into.u (at - child) ≡ free false t at
        goes_on =
            let e = into in
            let held : marked e.u ≡ false = marked_by t at up levels child i in_spot e.u e.stands ∙ ne_eqb (get_or marks child 0) 1 live in
            rw held at e.leads

        pub found : {s : Bool} → s ≡ inside in_spot up i → child ≡ at → then_some s levels ≡ then_some (free false t at) (above t at)
        found e z =
            let u = into.u in
            let none : at - child ≡ 0 = omega arith in
            let free-is : inside in_spot up i ≡ free false t at = sym (found_by t at up levels child i in_spot u) ∙ (rw none at goes_on) in
            let at-root = rw none at into.deep in
            let levels_are : levels ≡ above t at = omega (arith, at-root, none_above t at up levels child i in_spot u) in
            rw (e, free-is, levels_are)

        pub deeper : {s : Bool} → s ≡ inside in_spot up i → (child ≡ at → ⊥) → Going t at child (levels + 1) (child + 1) 0 s
        deeper {s} e z =
            let a = g.among in
            let low : child ≤ at = a.low in
            let more : at - child ≡ suc (at - child - 1) = omega arith in
            let fits = rw more at into.fits in
            let free-is = rw more at goes_on in
            let levels_are = rw more at into.deep in
            deeper_by t at up levels child i in_spot into.u (at - child - 1) into.stands more fits s (rw e free-is) levels_are low a.levels_low
