-- A tree in a checked table: its children stand behind it, and what is worked out of them is its bound.
use mathlib.Core.Path.{◌≡◌, refl, sym, ap, subst, ◌∙◌}
use mathlib.Core.Bool.{Bool, true, false, cond, not, ◌&&◌}
use mathlib.Core.List.{List}
use Prim.Native.Nat.{ℕ, suc, ◌+◌, ◌-◌, ◌≤◌, ◌<◌}
use native.Mathlib.Numerals.{add-one}
use native.Mathlib.Omega.{arith}
use borrow.Author.Tests.{leb-true}
use lib.Dec.{leb, eqb}
use lib.Ieee.{Float, Format, nan}
use lib.ListN.{get_or, length}
use Rattle.rules.specs.declared.behavior.Kind.{Kind}
use Rattle.rules.specs.declared.behavior.Kind.TheVariants.{After}
use Rattle.rules.specs.Kinds.{kind_of, is, timed, fewest, most, children}
use Rattle.rules.specs.Tree.{zero_time, Cell, Tree, node, Forest, [], ◌◂◌, count}
use Rattle.rules.specs.Table.{cleaned, row_allowed, count_allowed, limit_allowed}
use Rattle.rules.specs.Bound.{Lim, within, whole_time, own_ticks, bound, boundable, boundables}
use Rattle.tables.specs.At.{Row, At, Ats}
use Rattle.tables.proofs.Placed.{size_pos, at_end, ats_end}
use Rattle.tables.proofs.Rows.{any_default}
use Rattle.limits.specs.declared.node.Join.{Join}
use Rattle.limits.specs.Ticks.{Ticks, lim, clipped}
use Rattle.limits.specs.Node.{join_of, none_l, join_l, joined, Alone, Together, row_bounded}
use Rattle.limits.proofs.Laws.{clip_join}
use Rattle.bound.proofs.Joins.{onto, onto_all}
use Rattle.bound.specs.Ready.{Stands, Stand, Room, Ready, Readys, after}

pub and_first : (a b : Bool) → (a && b) ≡ true → a ≡ true
and_first true b e = refl
and_first false b e = e

pub and_second : (a b : Bool) → (a && b) ≡ true → b ≡ true
and_second true b e = e
and_second false b e = cc

-- ---- where trees end
module _ (F : Format) (kinds ns : List ℕ) (limits : List Float) (ends : List ℕ) where
  pub ends_after : (q : ℕ) (t : Tree) → At kinds ns limits ends q t → q < get_or ends q 0
  ends_after q t h = omega (arith, at_end kinds ns limits t ends q h, size_pos t)

  pub ends_from_lem : (q : ℕ) (ts : Forest) (stop : ℕ) → Ats kinds ns limits ends q ts stop → q ≤ stop
  ends_from_lem q ts stop h = omega (arith, ats_end kinds ns limits ts ends q stop h)

  pub after_stop : (q : ℕ) (ts : Forest) (stop : ℕ) → Ats kinds ns limits ends q ts stop → after ends (count ts) q ≡ stop
  after_stop q [] stop h = h
  after_stop q (t ◂ ts) stop h = after_stop (get_or ends q 0) ts stop h.1

  -- ---- a node's children
  room_down : (stop less : ℕ) → less ≤ stop → Room kinds ns limits stop → Room kinds ns limits less
  room_down stop less h r = record { in_kinds = omega arith; in_ns = omega arith; in_limits = omega arith; in_ends = omega arith }

  -- the children of the node at q
  pub children_stand :
      (q : ℕ) (k : Kind) (n : ℕ) (l : Float) (c : Cell) (b : ℕ) (ts : Forest) →
      Stands F kinds ns limits ends q (node k n l c b ts) →
      Stand F kinds ns limits ends (suc q) (count ts) ts (get_or ends q 0)
  unfolding boundable
  children_stand q k n l c b ts h = record { held = h.held.1; whole = and_second (row_bounded F k (count ts) l) (boundables F ts) h.whole; are = refl }

  -- one tree, and those behind it
  pub one_stands : (q many : ℕ) (t : Tree) (ts : Forest) (stop : ℕ) → Stand F kinds ns limits ends q many (t ◂ ts) stop → Stands F kinds ns limits ends q t
  unfolding boundable
  one_stands q many t ts stop h = record { held = h.held.0; whole = and_first (boundable F t) (boundables F ts) h.whole }

  pub rest_stand :
      (q many : ℕ) (t : Tree) (ts : Forest) (stop : ℕ) →
      Stand F kinds ns limits ends q many (t ◂ ts) stop →
      Stand F kinds ns limits ends (get_or ends q 0) (many - 1) ts stop
  unfolding boundable
  rest_stand q many t ts stop h = record { held = h.held.1; whole = and_second (boundable F t) (boundables F ts) h.whole; are = omega (arith, h.are) }

  -- ---- what the row at q says of its node
  module _ (q : ℕ) (k : Kind) (n : ℕ) (l : Float) (many : ℕ) (r : Row kinds ns limits q k n l many) where
    counts : count_allowed k n ≡ true
    unfolding row_allowed
    counts =
        let low = leb (get_or kinds q 0) 16 in
        let kind = kind_of (get_or kinds q 0) in
        let both = and_first (low && count_allowed kind n) (limit_allowed kind l) r.allowed in
        rw r.kind at (and_second low (count_allowed kind n) both)

    few : fewest k ≤ many
    few = rw r.kids (leb-true (fewest k) (children k n) (and_first (leb (fewest k) (children k n)) (leb (children k n) (most k)) counts))

    enough : many ≤ most k
    enough = rw r.kids (leb-true (children k n) (most k) (and_second (leb (fewest k) (children k n)) (leb (children k n) (most k)) counts))

  timed_whole :
      (q : ℕ) (k : Kind) (n : ℕ) (l : Float) (c : Cell) (b : ℕ) (ts : Forest) →
      Stands F kinds ns limits ends q (node k n l c b ts) → timed k ≡ true →
      whole_time F l ≡ true
  unfolding boundable
  timed_whole q k n l c b ts h t =
      let row = and_first (row_bounded F k (count ts) l) (boundables F ts) h.whole in
      rw t at (and_first (cond (timed k) (whole_time F l) true) (not (is k After && eqb (count ts) 0)) row)

  -- ---- a node that is worked out, and what is known of it: its kind, its own ticks, its number of children
  module _ (d q : ℕ) (kind : Kind) (own : Ticks) (many : ℕ)
      (in_limits : q < length limits)
      (kind-is : kind ≡ kind_of (get_or kinds q 0))
      (own_is : whole_time F (cleaned (get_or limits q nan)) ≡ true → own ≡ clipped (within (own_ticks d (cleaned (get_or limits q nan)))))
      (many_is : many ≡ children kind (get_or ns q 0)) where
    module _ (k : Kind) (n : ℕ) (l : Float) (c : Cell) (b : ℕ) (ts : Forest) (h : Stands F kinds ns limits ends q (node k n l c b ts)) where
      same_kind : kind ≡ k
      same_kind = kind-is ∙ h.held.0.kind

      same_count : count ts ≡ many
      same_count = h.held.0.kids ∙ sym (many_is ∙ rw (same_kind, h.held.0.number))

      same_own : timed k ≡ true → own ≡ clipped (within (own_ticks d l))
      same_own t =
          let e : cleaned (get_or limits q nan) ≡ l = ap (λ (x : Float). cleaned x) (any_default limits q nan zero_time in_limits) ∙ h.held.0.limit in
          rw e at (own_is (rw e (timed_whole q k n l c b ts h t)))

    pub alone_bound : (r : Ticks) → Alone kind own r → many ≡ 0 → (t : Tree) → Stands F kinds ns limits ends q t → r ≡ clipped (bound d t)
    alone_bound r a z (node k n l c b []) h =
        let a' : Alone k own r = subst (λ (k : Kind). Alone k own r) (same_kind k n l c b [] h) a in
        a' d n l c b (omega (arith, few q k n l 0 h.held.0)) (same_own k n l c b [] h)
    alone_bound r a z (node k n l c b (t ◂ ts)) h = absurd (some (count ts) (same_count k n l c b (t ◂ ts) h ∙ z))
      where
        some : (m : ℕ) → suc m ≡ 0 → ⊥
        some m e = omega arith

    pub together_bound : (first rest : Ticks) (join : Join) (r : Ticks) → Together kind own first rest r → (many ≡ 0 → ⊥) → join ≡ join_of kind
        → ((t : Tree) → Stands F kinds ns limits ends (q + 1) t → first ≡ clipped (bound d t))
        → ((ts : Forest) (stop : ℕ) → Stand F kinds ns limits ends (get_or ends (q + 1) 0) (many - 1) ts stop → rest ≡ clipped (joined join d ts))
        → (t : Tree) → Stands F kinds ns limits ends q t → r ≡ clipped (bound d t)
    together_bound first rest join r a z e f g (node k n l c b []) h = absurd (z (sym (same_count k n l c b [] h)))
    together_bound first rest join r a z e f g (node k n l c b (t ◂ ts)) h =
        let kk = same_kind k n l c b (t ◂ ts) h in
        let a' : Together k own first rest r = subst (λ (k : Kind). Together k own first rest r) kk a in
        let s : Stand F kinds ns limits ends (q + 1) (suc (count ts)) (t ◂ ts) (get_or ends q 0) = rw add-one (children_stand q k n l c b (t ◂ ts) h) in
        let rest = rest_stand (q + 1) (suc (count ts)) t ts (get_or ends q 0) s in
        let s' : Stand F kinds ns limits ends (get_or ends (q + 1) 0) (many - 1) ts (get_or ends q 0) = rw (← same_count k n l c b (t ◂ ts) h) rest in
        a' d n l c b t ts (omega (arith, enough q k n l (suc (count ts)) h.held.0)) (same_own k n l c b (t ◂ ts) h)
        (f t (one_stands (q + 1) (suc (count ts)) t ts (get_or ends q 0) s))
        (rw (e, kk) at (g ts (get_or ends q 0) s'))

  -- ---- a tree that may be worked out begins in the lent slices
  pub record Inside (q : ℕ) : Type 0 where
    pub in_kinds : q < length kinds
    pub in_ns : q < length ns
    pub in_limits : q < length limits
    pub in_ends : q < 256
    pub below : q < get_or ends q 0
    pub end_fits : get_or ends q 0 ≤ 256

  pub inside : (q : ℕ) → Ready F kinds ns limits ends q → Inside q
  inside q r =
      let h = ends_after q r.tree r.stands.held in
      let m = r.room in
      record { in_kinds = omega arith; in_ns = omega arith; in_limits = omega arith; in_ends = omega arith; below = h; end_fits = omega arith }

  -- ---- a node's children may be worked out
  pub record Children (q many : ℕ) : Type 0 where
    pub first : Ready F kinds ns limits ends (q + 1)
    pub rest : Readys F kinds ns limits ends (get_or ends (q + 1) 0) (many - 1)
    pub inside : q + 1 < get_or ends q 0
    pub first_inside : get_or ends (q + 1) 0 ≤ get_or ends q 0
    pub first_after : q + 1 < get_or ends (q + 1) 0
    pub rest_inside : after ends (many - 1) (get_or ends (q + 1) 0) ≡ get_or ends q 0

  pub children_ready :
      (q : ℕ) (kind : Kind) (many : ℕ) → Ready F kinds ns limits ends q →
      kind ≡ kind_of (get_or kinds q 0) → many ≡ children kind (get_or ns q 0) → (many ≡ 0 → ⊥) →
      Children q many
  children_ready q kind many r k_is m-is z = go r.tree r.stands
    where
      go : (t : Tree) → Stands F kinds ns limits ends q t → Children q many
      go (node k n l c b []) h = absurd (z (m-is ∙ rw (k_is, h.held.0.kind, h.held.0.number) (sym h.held.0.kids)))
      go (node k n l c b (t ◂ ts)) h =
          let m : many ≡ suc (count ts) = m-is ∙ rw (k_is, h.held.0.kind, h.held.0.number) (sym h.held.0.kids) in
          let s : Stand F kinds ns limits ends (q + 1) many (t ◂ ts) (get_or ends q 0) = rw (add-one, m) (children_stand q k n l c b (t ◂ ts) h) in
          let s' = rest_stand (q + 1) many t ts (get_or ends q 0) s in
          let one = one_stands (q + 1) many t ts (get_or ends q 0) s in
          let up = ends_after (q + 1) t one.held in
          let on = ends_from_lem (get_or ends (q + 1) 0) ts (get_or ends q 0) s'.held in
          record {
            first = record { tree = t; stands = one; room = room_down (get_or ends q 0) (get_or ends (q + 1) 0) on r.room };
            rest = record { trees = ts; stop = get_or ends q 0; stand = s'; room = r.room };
            inside = omega arith;
            first_inside = on;
            first_after = up;
            rest_inside = rw (← s'.are) (after_stop (get_or ends (q + 1) 0) ts (get_or ends q 0) s'.held);
          }

  -- ---- trees one after the other
  module _ (join : Join) (d from count₀ : ℕ) where
    -- what is left of ts, and what has been counted of it
    pub record Left (ts : Forest) (stop at left : ℕ) (all : Ticks) : Type 0 where
      pub trees : Forest
      pub stand : Stand F kinds ns limits ends at left trees stop
      pub later : from ≤ at
      pub sofar : Lim
      pub counted : all ≡ clipped sofar
      pub same : onto join d sofar trees ≡ onto join d (none_l join) ts

    pub left_done : (ts : Forest) (stop at left : ℕ) (all : Ticks) → left ≡ 0 → Left ts stop at left all → all ≡ clipped (joined join d ts)
    unfolding onto
    left_done ts stop at left all z h = go h.trees (h.stand.are ∙ z) h.same
      where
        go : (us : Forest) → count us ≡ 0 → onto join d h.sofar us ≡ onto join d (none_l join) ts → all ≡ clipped (joined join d ts)
        go [] m e = h.counted ∙ ap clipped (e ∙ onto_all join d ts)
        go (u ◂ us) m e = absurd (some (count us) m)
          where
            some : (m : ℕ) → suc m ≡ 0 → ⊥
            some m e = omega arith

    -- one tree more
    pub left_next :
        (ts : Forest) (stop at left : ℕ) (all one new : Ticks) → 0 < left →
        ((t : Tree) → Stands F kinds ns limits ends at t → one ≡ clipped (bound d t)) →
        new ≡ clipped (join_l join (lim all) (lim one)) →
        Left ts stop at left all →
        Left ts stop (get_or ends at 0) (left - 1) new
    unfolding onto
    left_next ts stop at left all one new p f g h = go h.trees h.stand h.same
      where
        go :
            (us : Forest) → Stand F kinds ns limits ends at left us stop →
            onto join d h.sofar us ≡ onto join d (none_l join) ts →
            Left ts stop (get_or ends at 0) (left - 1) new
        go [] s e = absurd (none left p s.are)
          where
            none : (m : ℕ) → 0 < m → 0 ≡ m → ⊥
            none m a b = omega arith
        go (u ◂ us) s e =
            let o = one_stands at left u us stop s in
            record {
              trees = us;
              stand = rest_stand at left u us stop s;
              later = omega (arith, h.later, ends_after at u o.held);
              sofar = join_l join h.sofar (bound d u);
              counted = clip_join join all one new h.sofar (bound d u) g h.counted (f u o);
              same = e;
            }

    -- the next tree may be worked out
    pub record Next (at : ℕ) : Type 0 where
      pub ready : Ready F kinds ns limits ends at
      pub inside : get_or ends at 0 ≤ after ends count₀ from
      pub later : from ≤ at

    pub left_ready : (at left : ℕ) (all : Ticks) → 0 < left → (r : Readys F kinds ns limits ends from count₀) → Left r.trees r.stop at left all → Next at
    left_ready at left all p r h = go h.trees h.stand
      where
        go : (us : Forest) → Stand F kinds ns limits ends at left us r.stop → Next at
        go [] s = absurd (none left p s.are)
          where
            none : (m : ℕ) → 0 < m → 0 ≡ m → ⊥
            none m a b = omega arith
        go (u ◂ us) s =
            let o = one_stands at left u us r.stop s in
            let on = ends_from_lem (get_or ends at 0) us r.stop s.held.1 in
            let stops : after ends count₀ from ≡ r.stop = rw (← r.stand.are) (after_stop from r.trees r.stop r.stand.held) in
            record { ready = record { tree = u; stands = o; room = room_down r.stop (get_or ends at 0) on r.room }; inside = rw stops on; later = h.later }
