-- Two walks side by side through each driver: whatever the children's tickers do alike, the driver does alike; it keeps the shape, and trees that
-- may be ticked.
use Rattle.std.specs.Prelude.{◌≡◌, Bool, ◌&&◌, Float}
use Rattle.std.proofs.Math.Path.{refl}
use Rattle.std.proofs.Common.{◌∙◌, le_of_suc-le-suc}
use Rattle.std.proofs.Math.Bool.{true, false}
use Prim.Native.Nat.{ℕ, zero, suc, ◌≤◌, ◌<◌}
use native.Mathlib.Omega.{arith}
use Rattle.std.specs.Float.{Format}
use Rattle.std.specs.Float.Ieee.{lt}
use Rattle.rules.specs.declared.status.Status.TheVariants.{Running, Success, Failure}
use Rattle.rules.specs.declared.event.Event.{Event}
use Rattle.rules.specs.declared.event.Event.TheVariants.{Update, Other}
use Rattle.rules.specs.Tree.{zero_time, Tree, Forest, [], ◌◂◌, fresh, fresh_all, marked, count}
use Rattle.rules.specs.Outcome.{World, dt, rest, Out, Ticker, exchanging, largest, smaller}
use Rattle.rules.specs.Sequence.{sequence_from, sequence_at, memoryless}
use Rattle.rules.specs.WhenAll.{when_all_from, when_all, race_from, after_from, after_at}
use Rattle.laws.specs.Shape.{Shape, Shapes, shape, shapes, size_of, sizes_of, fresh_shape, fresh_shapes, mark_shape, mark_marked}
use Rattle.laws.specs.Shape
use Rattle.laws.specs.Pair.{Pairing, Known, Time, from, from_both, Of, Sim, Both, up, weak, stay, then, after, either}
use Rattle.laws.specs.Live.{choose, Ended, LiveBy, LivesBy, MarksBy, live_unmarked, fresh_live_by, fresh_lives_by, fresh_ended}

-- a tick keeps shape and mark
abbrev pub Same : Tree → Tree → Type 0
Same t t' = (shape t' ≡ shape t) × (marked t' ≡ marked t)

-- D of each child
abbrev pub Each : (Shape → Type 0) → Shapes → Type 0
Each D Shape.[] = Unit {0}
Each D (Shape.◌◂◌ s ss) = D s × Each D ss

-- every tree
abbrev pub Any : Shape → Type 0
Any s = Unit {0}

pub any_each : (ss : Shapes) → Each Any ss
any_each Shape.[] = tt
any_each (Shape.◌◂◌ s ss) = (tt, any_each ss)

pub join : {s s' : Shape} {ss ss' : Shapes} → s ≡ s' → ss ≡ ss' → Shape.◌◂◌ s ss ≡ Shape.◌◂◌ s' ss'
join e es = λ i. Shape.◌◂◌ (e i) (es i)

module _ {F : Format} (R : Pairing F) where
  -- a tree that may be ticked, with times as they are asked
  abbrev pub Lively : Tree → Type 0
  Lively = LiveBy R.terms.time

  abbrev pub Livelies : Forest → Type 0
  Livelies = LivesBy R.terms.time

  abbrev pub Marked : Forest → Type 0
  Marked = MarksBy R.terms.time

  pub fresh_lively : (t : Tree) → Known R (Lively (fresh t))
  fresh_lively t = R.terms.known (fresh_live_by R.terms.time R.terms.none_passed t)

  fresh_livelies : (ts : Forest) → Known R (Livelies (fresh_all ts))
  fresh_livelies ts = R.terms.known (fresh_lives_by R.terms.time R.terms.none_passed ts)

  -- a tree t that was ticked from p: it has kept its shape and mark, and taken fuel
  abbrev pub Visited : R.Worlds → Tree → Of R Tree
  Visited p t s r t' q = Same t t' × Known R (Lively t' × (R.fuel q < R.fuel p)) × Time R r

  -- a child of the shape s that was ticked from p
  abbrev pub Went : R.Worlds → Shape → Of R Tree
  Went p s o r t' q = (shape t' ≡ s) × Known R (Lively t' × (R.fuel q < R.fuel p)) × Time R r

  -- what a driver leaves: children, children with marks, a place up to b and children
  abbrev pub Kept : Forest → Of R Forest
  Kept ts s r us q = (shapes us ≡ shapes ts) × Known R (Livelies us) × Time R r

  abbrev pub KeptMarks : Forest → Of R Forest
  KeptMarks ts s r us q = (shapes us ≡ shapes ts) × Known R (Marked us) × Time R r

  abbrev pub KeptAt : ℕ → Forest → Of R (ℕ × Forest)
  KeptAt b ts s r x q = (shapes x.1 ≡ shapes ts) × Known R ((x.0 ≤ b) × Livelies x.1) × Time R r

  -- the two tickers do alike on the trees of D
  abbrev pub Alike : (Shape → Type 0) → Ticker → Ticker → Type 0
  Alike D child child' = (t : Tree) (e : Event) (p : R.Worlds) → D (shape t) → Known R (Lively t) → Time R (dt e)
      → Both R (size_of (shape t)) p (Visited p t) (λ w. child t e w) (λ w. child' t e w)

  pub exchanging_alike : (D : Shape → Type 0) (child child' : Ticker) → Alike D child child' → Alike D (exchanging child) (exchanging child')
  exchanging_alike D child child' g t e p d v ev = after R (g t e p d v ev) λ s r t' q x. stay R x

  zero_time_lem : Time R zero_time
  zero_time_lem = R.terms.none_passed

  pub rest_time : (r : Float) (e : Event) → Time R r → Time R (dt (rest r e))
  rest_time r (Update x) h = h
  rest_time r Other h = zero_time_lem

  both : {X Y : Type 0} → Known R X → Known R Y → Known R (X × Y)
  both x y = R.terms.both x y

  know : {X : Type 0} → X → Known R X
  know x = R.terms.known x

  head : {X Y : Type 0} → Known R (X × Y) → Known R X
  head v = R.terms.map (λ z. z.0) v

  tail : {X Y : Type 0} → Known R (X × Y) → Known R Y
  tail v = R.terms.map (λ z. z.1) v

  -- what follows an update, or an other event
  pub by_event : {A : Type 0} {n : ℕ} {p : R.Worlds} {P : Of R A} {m m' : Float → World → Out A} {o o' : World → Out A} (e : Event) → ((x : Float) → Both R n p P (m x) (m' x)) → Both R n p P o o'
      → Both R n p P (λ w. elim e [ Update x ↦ m x w | Other ↦ o w ]) (λ w. elim e [ Update x ↦ m' x w | Other ↦ o' w ])
  by_event (Update x) h g = h x
  by_event Other h g = g

  module _ (D : Shape → Type 0) (child child' : Ticker) (g : Alike D child child') where
    -- the visit of a child, and of one that is made fresh for it
    pub visit : (t : Tree) (e : Event) (p : R.Worlds) → D (shape t) → Known R (Lively t) → Time R (dt e)
        → Both R (size_of (shape t)) p (Went p (shape t)) (λ w. child t e w) (λ w. child' t e w)
    visit t e p d v ev = weak R (g t e p d v ev) (λ s r t' q x. (x.0.0, x.1, x.2))

    pub visit_fresh : (t : Tree) (e : Event) (p : R.Worlds) → D (shape t) → Time R (dt e)
        → Both R (size_of (shape t)) p (Went p (shape t)) (λ w. child (fresh t) e w) (λ w. child' (fresh t) e w)
    visit_fresh t e p d ev = rw (fresh_shape t) at (visit (fresh t) e p (rw (fresh_shape t) d) (fresh_lively t) ev)

    -- the child before these was passed over
    skip : {A : Type 0} {p : R.Worlds} {P : Of R A} {o o' : Out A} (t : Tree) (ts : Forest) → Sim R (sizes_of (shapes ts)) p P o o' → Sim R (sizes_of (shapes (t ◂ ts))) p P o o'
    skip t ts h = up R (sizes_of (shapes ts)) (R.upto (sizes_of (shapes ts)) (sizes_of (shapes (t ◂ ts))) (omega arith)) h

    -- ---- Race
    pub race_pair : (e : Event) (ts : Forest) (p : R.Worlds) → Each D (shapes ts) → Known R (Livelies ts) → Time R (dt e)
        → Both R (sizes_of (shapes ts)) p (Kept ts) (λ w. race_from child e ts w) (λ w. race_from child' e ts w)
    unfolding race_from
    race_pair e [] p d v ev = stay R (refl, v, zero_time_lem)
    race_pair e (t ◂ ts) p d v ev = then R (visit t e p d.0 (head v) ev) elim [
      | Running ↦ λ r t' q x. after R (race_pair e ts q d.1 (tail v) ev) λ s' r' us q' y. stay R (join x.0 y.0, both (head x.1) y.1, y.2)
      | Success ↦ λ r t' q x. stay R (join x.0 refl, both (head x.1) (tail v), x.2)
      | Failure ↦ λ r t' q x. stay R (join x.0 refl, both (head x.1) (tail v), x.2)
    ]

    -- ---- Sequence
    seq_from : (e : Event) (t : Tree) (ts : Forest) (p : R.Worlds) → D (shape t) → Each D (shapes ts) → Known R (Lively t) → Known R (Livelies ts) → Time R (dt e)
        → Both R (sizes_of (shapes (t ◂ ts))) p (KeptAt (count (t ◂ ts)) (t ◂ ts)) (λ w. sequence_from child e t ts w) (λ w. sequence_from child' e t ts w)
    unfolding sequence_from
    seq_from e t [] p d ds v vs ev = then R (visit t e p d v ev) elim [
      | Running ↦ λ r t' q x. stay R (join x.0 refl, both (know (omega arith)) (both (head x.1) vs), zero_time_lem)
      | Success ↦ λ r t' q x. by_event e (λ y. stay R (join x.0 refl, both (know (omega arith)) (both (head x.1) vs), x.2))
          (stay R (join x.0 refl, both (know (omega arith)) (both (head x.1) vs), x.2))
      | Failure ↦ λ r t' q x. stay R (join x.0 refl, both (know (omega arith)) (both (head x.1) vs), x.2)
    ]
    seq_from e t (u ◂ us) p d ds v vs ev = then R (visit t e p d v ev) elim [
      | Running ↦ λ r t' q x. stay R (join x.0 refl, both (know (omega arith)) (both (head x.1) vs), zero_time_lem)
      | Success ↦ λ r t' q x. by_event e
          (λ y. after R (rw (fresh_shape u) at (seq_from (Update r) (fresh u) us q (rw (fresh_shape u) ds.0) ds.1 (fresh_lively u) (tail vs) x.2))
          λ s' r' z q' y. stay R (join (fresh_shape t' ∙ x.0) (y.0 ∙ join (fresh_shape u) refl), from_both R (fresh_lively t') y.1 (λ a b. (omega arith, (a, b.1))), y.2))
          (stay R (join (fresh_shape t' ∙ x.0) (join (fresh_shape u) refl), both (know (omega arith)) (both (fresh_lively t') (both (fresh_lively u) (tail vs))), zero_time_lem))
      | Failure ↦ λ r t' q x. stay R (join x.0 refl, both (know (omega arith)) (both (head x.1) vs), x.2)
    ]

    pub seq_pair : (e : Event) (ts : Forest) (n : ℕ) (p : R.Worlds) → Each D (shapes ts) → Known R ((n ≤ count ts) × Livelies ts) → Time R (dt e)
        → Both R (sizes_of (shapes ts)) p (KeptAt (count ts) ts) (λ w. sequence_at child n e ts w) (λ w. sequence_at child' n e ts w)
    unfolding sequence_at
    seq_pair e [] n p d v ev = stay R (refl, v, zero_time_lem)
    seq_pair e (t ◂ ts) zero p d v ev = seq_from e t ts p d.0 d.1 (head (tail v)) (tail (tail v)) ev
    seq_pair e (t ◂ ts) (suc n) p d v ev = skip t ts (after R (seq_pair e ts n p d.1 (from R v (λ h. (le_of_suc-le-suc h.0, h.1.1))) ev)
        λ s r z q y. stay R (join refl y.0, from_both R (head (tail v)) y.1 (λ a b. (omega arith, (a, b.1))), y.2))

    -- ---- Memoryless
    pub mem_pair : (e : Event) (ts : Forest) (p : R.Worlds) → Each D (shapes ts) → Time R (dt e)
        → Both R (sizes_of (shapes ts)) p (Kept ts) (λ w. memoryless child e ts w) (λ w. memoryless child' e ts w)
    unfolding memoryless
    mem_pair e [] p d ev = stay R (refl, know tt, ev)
    mem_pair e (t ◂ []) p d ev = then R (visit_fresh t e p d.0 ev) elim [
      | Running ↦ λ r t' q x. stay R (join x.0 refl, both (head x.1) (know tt), zero_time_lem)
      | Success ↦ λ r t' q x. stay R (join x.0 refl, both (head x.1) (know tt), rest_time r e x.2)
      | Failure ↦ λ r t' q x. stay R (join x.0 refl, both (head x.1) (know tt), x.2)
    ]
    mem_pair e (t ◂ u ◂ us) p d ev = then R (visit_fresh t e p d.0 ev) elim [
      | Running ↦ λ r t' q x. stay R (join x.0 (fresh_shapes (u ◂ us)), both (head x.1) (fresh_livelies (u ◂ us)), zero_time_lem)
      | Success ↦ λ r t' q x. after R (mem_pair (rest r e) (u ◂ us) q d.1 (rest_time r e x.2))
          λ s' r' vs q' y. stay R (join (fresh_shape t' ∙ x.0) y.0, both (fresh_lively t') y.1, y.2)
      | Failure ↦ λ r t' q x. stay R (join x.0 (fresh_shapes (u ◂ us)), both (head x.1) (fresh_livelies (u ◂ us)), x.2)
    ]

    -- ---- WhenAll
    -- a child that was ticked is live, and has no mark
    unmarked : {X : Type 0} (t' : Tree) → Known R (Lively t' × X) → Known R (choose (marked t') (Ended t') (Lively t'))
    unmarked t' v = from R v (λ h. rw (live_unmarked R.terms.time t' h.0) h.0)

    all_from : (e : Event) (all : Bool) (least : Float) (ts : Forest) (p : R.Worlds) → Each D (shapes ts) → Known R (Marked ts) → Time R (dt e) → Time R least
        → Both R (sizes_of (shapes ts)) p (KeptMarks ts) (λ w. when_all_from child e all least ts w) (λ w. when_all_from child' e all least ts w)
    unfolding when_all_from
    all_from e true least [] p d v ev el = stay R (refl, v, el)
    all_from e false least [] p d v ev el = stay R (refl, v, zero_time_lem)
    all_from e all least (t ◂ ts) p d v ev el = either R (marked t)
        (λ m. skip t ts (after R (all_from e all least ts p d.1 (tail v) ev el) λ s r us q y. stay R (join refl y.0, both (head v) y.1, y.2)))
        (λ m. then R (visit t e p d.0 (from R v (λ h. rw m at h.0)) ev) elim [
          | Running ↦ λ r t' q x. after R (all_from e false least ts q d.1 (tail v) ev el)
              λ s' r' us q' y. stay R (join x.0 y.0, both (unmarked t' x.1) y.1, y.2)
          | Success ↦ λ r t' q x. after R (all_from e all (smaller least r) ts q d.1 (tail v) ev (R.terms.least least r el x.2))
              λ s' r' us q' y. stay R (join (mark_shape (fresh t') ∙ fresh_shape t' ∙ x.0) y.0, both (know (rw (mark_marked (fresh t')) (fresh_ended t'))) y.1, y.2)
          | Failure ↦ λ r t' q x. stay R (join x.0 refl, both (unmarked t' x.1) (tail v), x.2)
        ])

    pub all_pair : (e : Event) (ts : Forest) (p : R.Worlds) → Each D (shapes ts) → Known R (Marked ts) → Time R (dt e)
        → Both R (sizes_of (shapes ts)) p (KeptMarks ts) (λ w. when_all child (largest F) e ts w) (λ w. when_all child' (largest F) e ts w)
    unfolding when_all
    all_pair e [] p d v ev = stay R (refl, v, ev)
    all_pair e (t ◂ ts) p d v ev = all_from e true (largest F) (t ◂ ts) p d v ev R.terms.most

    -- ---- After
    after_from_lem : (e : Event) (nx : Bool) (least : Float) (ts : Forest) (p : R.Worlds) → Each D (shapes ts) → Known R (Livelies ts) → Time R (dt e) → Time R least
        → Both R (sizes_of (shapes ts)) p (KeptAt (count ts) ts) (λ w. after_from child e nx least ts w) (λ w. after_from child' e nx least ts w)
    unfolding after_from
    after_from_lem e true least [] p d v ev el = stay R (refl, both (know (omega arith)) v, el)
    after_from_lem e false least [] p d v ev el = stay R (refl, both (know (omega arith)) v, zero_time_lem)
    after_from_lem e nx least (t ◂ ts) p d v ev el = then R (visit t e p d.0 (head v) ev) elim [
      | Running ↦ λ r t' q x. after R (after_from_lem e false zero_time ts q d.1 (tail v) ev zero_time_lem)
          λ s' r' z q' y. stay R (join x.0 y.0, both (know (omega arith)) (both (head x.1) (tail y.1)), y.2)
      | Failure ↦ λ r t' q x. stay R (join x.0 refl, both (know (omega arith)) (both (head x.1) (tail v)), x.2)
      | Success ↦ λ r t' q x. either R (nx && lt r least)
          (λ m. after R (after_from_lem e true r ts q d.1 (tail v) ev x.2)
          λ s' r' z q' y. stay R (join x.0 y.0, from_both R x.1 y.1 (λ a b. (omega arith, (a.0, b.1))), y.2))
          (λ m. stay R (join x.0 refl, both (know (omega arith)) (both (head x.1) (tail v)), R.terms.least least r el x.2))
    ]

    pub after_pair : (e : Event) (ts : Forest) (n : ℕ) (p : R.Worlds) → Each D (shapes ts) → Known R ((n ≤ count ts) × Livelies ts) → Time R (dt e)
        → Both R (sizes_of (shapes ts)) p (KeptAt (count ts) ts) (λ w. after_at child (largest F) n e ts w) (λ w. after_at child' (largest F) n e ts w)
    unfolding after_at
    after_pair e ts zero p d v ev = after_from_lem e true (largest F) ts p d (tail v) ev R.terms.most
    after_pair e [] (suc n) p d v ev = stay R (refl, v, zero_time_lem)
    after_pair e (t ◂ ts) (suc n) p d v ev = skip t ts (after R (after_pair e ts n p d.1 (from R v (λ h. (le_of_suc-le-suc h.0, h.1.1))) ev)
        λ s r z q y. stay R (join refl y.0, from_both R (head (tail v)) y.1 (λ a b. (omega arith, (a, b.1))), y.2))
