-- A tick of WhenAll and Race; WhenAny is WhenAll with Success and Failure exchanged.
use Rattle.std.specs.Prelude.{◌≡◌, refl, Bool, ◌⊎◌, ℕ, zero, suc, ◌≤◌, T, Float}
use Rattle.std.proofs.Common.{◌∙◌, arith}
use Rattle.std.proofs.Math.Bool.{true, false}
use Rattle.std.proofs.Math.Logic.{inl, inr}
use Rattle.std.specs.Float.{Format}
use Rattle.rules.specs.declared.status.Status.TheVariants.{Running, Success, Failure}
use Rattle.rules.specs.declared.event.Event.{Event}
use Rattle.rules.specs.declared.event.Event.TheVariants.{Update, Other}
use Rattle.rules.specs.Tree.{Tree, Forest, [], ◌◂◌, fresh, marked, mark}
use Rattle.rules.specs.Outcome.{dt, World, Out, Ticker, largest, smaller}
use Rattle.rules.specs.Sequence.{keep}
use Rattle.rules.specs.WhenAll.{when_all_from, when_all, race_from}
use Rattle.rules.specs.Bound.{num}
use Rattle.floats.specs.Times.{W}
use Rattle.floats.proofs.Times.{smaller_W}
use Rattle.laws.specs.Shape.{shapes, mark_marked}
use Rattle.laws.specs.Pair.{Pairing, stay, after, either}
use Rattle.finish.specs.Shaped.{Shapeds}
use Rattle.finish.specs.Enough.{unless, Still, StillUnmarked, StillMin}
use Rattle.finish.specs.Valid.{some_open, open_or_none, Valid, ValidAll, ValidMarks}
use Rattle.finish.specs.Fresh.{use_all}
use Rattle.finish.specs.Ranks.{still_pos}
use Rattle.finish.specs.Post.{WEvent, Claim, ticking, TickQ, Holds, claim_map, claim_weak, Good}

module _ (F : Format) (d : ℕ) where
  -- ---- WhenAll: `all`, each child so far is marked
  abbrev OpenIf : Bool → Forest → Type 0
  OpenIf true ts = T (some_open ts)
  OpenIf false ts = Unit {0}

  abbrev PosIf : Bool → ℕ → Type 0
  PosIf true j = Unit {0}
  PosIf false j = 1 ≤ j

  abbrev LeastIf : Bool → Float → Forest → Type 0
  LeastIf true least ts = W F least ⊎ ((least ≡ (largest F)) × T (some_open ts))
  LeastIf false least ts = Unit {0}

  abbrev AllC : Event → Bool → Forest → Claim Forest
  AllC e all ts = record {
    valid = λ ts'. ValidMarks F ts' × OpenIf all ts';
    down = λ ts'. d ≤ num (dt e) → (j : ℕ) → PosIf all j → StillUnmarked d ts (suc j) → StillUnmarked d ts' j;
  }

  abbrev pub WhenC : Event → Forest → Claim Forest
  WhenC e ts = ticking F d (λ (us : Forest). (ValidMarks F) us × T (open_or_none us)) (StillUnmarked d) e ts

  pub pos_of : (t : Tree) (j : ℕ) → Still d t j → 1 ≤ j
  pos_of t zero h = absurd (still_pos F d t h)
  pos_of t (suc j) h = omega arith

  open_here : (t : Tree) (ts : Forest) → marked t ≡ false → T (some_open (t ◂ ts))
  open_here t ts e = rw e tt

  all_true : (b : Bool) (t : Tree) (ts : Forest) → marked t ≡ false → OpenIf b (t ◂ ts)
  all_true true t ts e = open_here t ts e
  all_true false t ts e = tt

  -- a marked child is none that is open
  skip_least : (all : Bool) (t : Tree) (ts : Forest) (least : Float) → marked t ≡ true → LeastIf all least (t ◂ ts) → LeastIf all least ts
  skip_least true t ts least m (inl v) = inl v
  skip_least true t ts least m (inr v) = inr (v.0, rw m at v.1)
  skip_least false t ts least m h = tt

  least_next : (all : Bool) (least r : Float) (ts us : Forest) → W F r → LeastIf all least ts → LeastIf all (smaller least r) us
  least_next true least r ts us w (inl v) = inl (smaller_W F least r w (inl v))
  least_next true least r ts us w (inr v) = inl (smaller_W F least r w (inr v.0))
  least_next false least r ts us w h = tt

  -- ---- Race
  abbrev pub RaceC : Event → Forest → Claim Forest
  RaceC e ts = ticking F d (ValidAll F) (StillMin d) e ts

  module _ (R : Pairing F) (child : Ticker) (g : Good R d child) where
    all_run : {p : R.Worlds} {o : World → Out Forest} (e : Event) (all : Bool) (t t' : Tree) (ts : Forest) (r : Float) → marked t ≡ false → TickQ F d e t Running r t'
        → Holds R (AllC e false ts) p o → Holds R (AllC e all (t ◂ ts)) p (λ w. keep t' (o w))
    all_run e all t t' ts r m q h = claim_map R (λ us. t' ◂ us) (λ us v dn. (
      ((use_all F (marked t') q.1.0, v.0), all_true all t' us (q.0.1 ∙ m)),
      λ full j p x. let y : Still d t' j = q.1.1 full j (rw m at x.0) in (use_all F (marked t') y, dn full j (pos_of t' j y) x.1),
    )) h

    skip_open : (b : Bool) (t : Tree) (ts : Forest) → marked t ≡ true → OpenIf b ts → OpenIf b (t ◂ ts)
    skip_open true t ts e h = rw e h
    skip_open false t ts e h = tt

    skip_unless : (b : Bool) (X : Type 0) → b ≡ true → unless b X
    skip_unless b X e = rw e tt

    -- a child with a mark, old or new
    all_skip : {p : R.Worlds} {o : World → Out Forest} (e : Event) (all : Bool) (t t' : Tree) (ts : Forest) → marked t' ≡ true → Holds R (AllC e all ts) p o
        → Holds R (AllC e all (t ◂ ts)) p (λ w. keep t' (o w))
    all_skip e all t t' ts m h = claim_map R (λ us. t' ◂ us) (λ us v dn. (
      ((skip_unless (marked t') (Valid F t') m, v.0), skip_open all t' us m v.1),
      λ full j p x. (skip_unless (marked t') (Still d t' j) m, dn full j p x.1),
    )) h

    all_good : (e : Event) (all : Bool) (least : Float) (ts : Forest) (p : R.Worlds) → Shapeds F (shapes ts) → ValidMarks F ts → LeastIf all least ts → WEvent F e
        → Holds R (AllC e all ts) p (λ w. when_all_from child e all least ts w)
    unfolding when_all_from
    all_good e true least [] p s v (inl lo) ev = stay R lo
    all_good e true least [] p s v (inr lo) ev = absurd lo.1
    all_good e false least [] p s v lo ev = stay R ((tt, tt), λ full j z x. z)
    all_good e all least (t ◂ ts) p s v lo ev = either R (marked t)
        (λ m. all_skip e all t t ts m (all_good e all least ts p s.1 v.1 (skip_least all t ts least m lo) ev))
        (λ m. after R (g t e p s.0 (rw m at v.0) ev) elim [
          | Running ↦ λ r t' p' q. all_run e all t t' ts r m q (all_good e false least ts p' s.1 v.1 tt ev)
          | Success ↦ λ r t' p' q. all_skip e all t (mark (fresh t')) ts (mark_marked (fresh t'))
              (all_good e all (smaller least r) ts p' s.1 v.1 (least_next all least r (t ◂ ts) ts q.1 lo) ev)
          | Failure ↦ λ r t' p' q. stay R q.1
        ])

    some_none : (ts : Forest) → T (some_open ts) → T (open_or_none ts)
    some_none [] h = tt
    some_none (t ◂ ts) h = h

    pub when_good : (e : Event) (ts : Forest) (p : R.Worlds) → Shapeds F (shapes ts) → ValidMarks F ts → T (open_or_none ts) → WEvent F e
        → Holds R (WhenC e ts) p (λ w. when_all child (largest F) e ts w)
    unfolding when_all
    when_good (Update y) [] p s v o ev = stay R ev
    when_good Other [] p s v o ev = absurd ev
    when_good e (t ◂ ts) p s v o ev = claim_weak R (λ us u dn. ((u.0, some_none us u.1), λ full j x. dn full j tt x))
        (all_good e true (largest F) (t ◂ ts) p s v (inr (refl, o)) ev)

    -- ---- Race
    pub race_good : (e : Event) (ts : Forest) (p : R.Worlds) → Shapeds F (shapes ts) → ValidAll F ts → WEvent F e → Holds R (RaceC e ts) p (λ w. race_from child e ts w)
    unfolding race_from
    race_good e [] p s v ev = stay R (tt, λ full j x. x)
    race_good e (t ◂ ts) p s v ev = after R (g t e p s.0 v.0 ev) elim [
      | Running ↦ λ r t' p' q. claim_map R (λ us. t' ◂ us)
          (λ us u dn. ((q.1.0, u), λ full j x. elim x [ inl y ↦ inl (q.1.1 full j y) | inr y ↦ inr (dn full j y) ])) (race_good e ts p' s.1 v.1 ev)
      | Success ↦ λ r t' p' q. stay R q.1
      | Failure ↦ λ r t' p' q. stay R q.1
    ]
