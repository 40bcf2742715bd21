-- A tick of After, from the place on.
use Rattle.std.specs.Prelude.{◌≡◌, refl, Bool, ◌⊎◌, Float}
use Rattle.std.proofs.Math.Bool.{true, false}
use Rattle.std.proofs.Common.{inl, inr}
use Prim.Native.Nat.{ℕ, zero, suc, ◌≤◌}
use Rattle.std.specs.Float.{Format}
use Rattle.std.specs.Float.Ieee.{lt}
use Rattle.rules.specs.declared.status.Status.TheVariants.{Running, Success, Failure}
use Rattle.rules.specs.declared.event.Event.{Event}
use Rattle.rules.specs.Tree.{zero_time, Tree, Forest, [], ◌◂◌}
use Rattle.rules.specs.Outcome.{dt, World, Out, done, Ticker, ◌▸◌, largest}
use Rattle.rules.specs.WhenAll.{after_from, after_at}
use Rattle.rules.specs.Bound.{num}
use Rattle.floats.specs.Times.{W, zero_W}
use Rattle.floats.proofs.Times.{smaller_W}
use Rattle.laws.specs.Shape.{shapes}
use Rattle.finish.specs.Shaped.{Shapeds}
use Rattle.laws.specs.Pair.{Pairing, stay, after, either}
use Rattle.finish.specs.Enough.{Still, StillAll, StillFrom}
use Rattle.finish.specs.Valid.{ValidAll, ValidFrom}
use Rattle.finish.specs.Post.{WEvent, Claim, ticking, TickQ, Holds, claim_map, Good}
use Rattle.finish.specs.Whens.{pos_of}

module _ (F : Format) (d : ℕ) where
  -- `next`: no child before is Running
  abbrev AfterValid : Bool → ℕ × Forest → Type 0
  AfterValid true x = ValidFrom F x.1 x.0
  AfterValid false x = ValidAll F x.1

  abbrev AfterDown : Bool → Forest → ℕ × Forest → ℕ → Type 0
  AfterDown true ts x j = StillAll d ts (suc j) → StillFrom d x.1 x.0 j
  AfterDown false ts x j = 1 ≤ j → StillAll d ts (suc j) → StillAll d x.1 j

  abbrev AfterC : Event → Bool → Forest → Claim (ℕ × Forest)
  AfterC e nx ts = record { valid = AfterValid nx; down = λ x. d ≤ num (dt e) → (j : ℕ) → AfterDown nx ts x j }

  abbrev LeastAt : Bool → Float → Forest → Type 0
  LeastAt nx least [] = W F least
  LeastAt true least (t ◂ ts) = W F least ⊎ (least ≡ (largest F))
  LeastAt false least (t ◂ ts) = W F least

  least_W : (nx : Bool) (least : Float) (ts : Forest) → W F least → LeastAt nx least ts
  least_W nx least [] h = h
  least_W true least (t ◂ ts) h = inl h
  least_W false least (t ◂ ts) h = h

  least_or : (nx : Bool) (least : Float) (t : Tree) (ts : Forest) → LeastAt nx least (t ◂ ts) → W F least ⊎ (least ≡ (largest F))
  least_or true least t ts h = h
  least_or false least t ts h = inl h

  abbrev pub FromC : Event → ℕ × Forest → Claim (ℕ × Forest)
  FromC e x = ticking F d (λ (y : ℕ × Forest). (ValidFrom F) y.1 y.0) (λ (y : ℕ × Forest). StillFrom d y.1 y.0) e x

  module _ (R : Pairing F) (child : Ticker) (g : Good R d child) where
    after_run : {p : R.Worlds} {o : World → Out (ℕ × Forest)} (e : Event) (nx : Bool) (t t' : Tree) (ts : Forest) (r : Float) → TickQ F d e t Running r t' → Holds R (AfterC e false ts) p o
        → Holds R (AfterC e nx (t ◂ ts)) p (λ w. o w ▸ λ s'' r'' x w''. done s'' r'' (0, t' ◂ x.1) w'')
    after_run e true t t' ts r q h = claim_map R (λ x. (0, t' ◂ x.1))
        (λ x v dn. ((q.1.0, v), λ full j y. let z : Still d t' j = q.1.1 full j y.0 in (z, dn full j (pos_of F d t' j z) y.1))) h
    after_run e false t t' ts r q h =
        claim_map R (λ x. (0, t' ◂ x.1)) (λ x v dn. ((q.1.0, v), λ full j k y. (q.1.1 full j y.0, dn full j k y.1))) h

    after_from_lem : (e : Event) (nx : Bool) (least : Float) (ts : Forest) (p : R.Worlds) → Shapeds F (shapes ts) → ValidAll F ts → LeastAt nx least ts → WEvent F e
        → Holds R (AfterC e nx ts) p (λ w. after_from child e nx least ts w)
    unfolding after_from
    after_from_lem e true least [] p s v lo ev = stay R lo
    after_from_lem e false least [] p s v lo ev = stay R (tt, λ full j k y. k)
    after_from_lem e true least (t ◂ ts) p s v lo ev = after R (g t e p s.0 v.0 ev) elim [
      | Running ↦ λ r t' p' q. after_run e true t t' ts r q (after_from_lem e false zero_time ts p' s.1 v.1 (least_W false zero_time ts (zero_W F)) ev)
      | Success ↦ λ r t' p' q. either R (lt r least)
          (λ u. claim_map R (λ x. (suc x.0, t' ◂ x.1)) (λ x v dn. (v, λ full j y. dn full j y.1))
          (after_from_lem e true r ts p' s.1 v.1 (least_W true r ts q.1) ev))
          (λ u. stay R (smaller_W F least r q.1 lo))
      | Failure ↦ λ r t' p' q. stay R q.1
    ]
    after_from_lem e false least (t ◂ ts) p s v lo ev = after R (g t e p s.0 v.0 ev) elim [
      | Running ↦ λ r t' p' q. after_run e false t t' ts r q (after_from_lem e false zero_time ts p' s.1 v.1 (least_W false zero_time ts (zero_W F)) ev)
      | Success ↦ λ r t' p' q. stay R (smaller_W F least r q.1 (inl lo))
      | Failure ↦ λ r t' p' q. stay R q.1
    ]

    pub after_good : (e : Event) (ts : Forest) (n : ℕ) (p : R.Worlds) → Shapeds F (shapes ts) → ValidFrom F ts n → WEvent F e
        → Holds R (FromC e (n, ts)) p (λ w. after_at child (largest F) n e ts w)
    unfolding after_at
    after_good e [] n p s v ev = absurd v
    after_good e (t ◂ ts) zero p s v ev = after_from_lem e true (largest F) (t ◂ ts) p s v (inr refl) ev
    after_good e (t ◂ ts) (suc n) p s v ev = claim_map R (λ x. (suc x.0, t ◂ x.1)) (λ x u dn. (u, dn)) (after_good e ts n p s.1 v ev)
