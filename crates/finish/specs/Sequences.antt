-- A tick of Sequence and of the memoryless forms; Select and the selector are these with Success and Failure exchanged.
use Rattle.std.specs.Prelude.{◌≡◌, Float}
use Rattle.std.proofs.Math.Path.{refl}
use Rattle.std.proofs.Common.{◌∙◌, arith}
use Prim.Native.Nat.{ℕ, zero, suc, ◌+◌, ◌≤◌}
use Rattle.std.specs.Float.{Format}
use Rattle.rules.specs.declared.status.Status.TheVariants.{Running, Success, Failure}
use Rattle.rules.specs.declared.event.Event.{Event}
use Rattle.rules.specs.declared.event.Event.TheVariants.{Update, Other}
use Rattle.rules.specs.Tree.{Tree, Forest, [], ◌◂◌, fresh}
use Rattle.rules.specs.Outcome.{World, Out, Ticker}
use Rattle.rules.specs.Sequence.{pass, sequence_from, sequence_at, memoryless}
use Rattle.floats.specs.Times.{W}
use Rattle.laws.specs.Shape.{shape, shapes, fresh_shape}
use Rattle.finish.specs.Shaped.{Shaped, Shapeds}
use Rattle.laws.specs.Pair.{Pairing, stay, after}
use Rattle.laws.specs.PairDrivers.{join}
use Rattle.finish.specs.Enough.{EnoughEmpty, EnoughSum, Still, StillSum}
use Rattle.finish.specs.Valid.{Valid, ValidAt}
use Rattle.finish.specs.Fresh.{fresh_valid}
use Rattle.finish.specs.Ranks.{still_pos, sum_mono, valid_sum}
use Rattle.finish.specs.Post.{WEvent, Claim, Q, ticking, TickQ, Holds, claim_map, Good}

module _ (F : Format) (d : ℕ) where
  -- ---- Sequence, from the place on
  abbrev pub SeqC : Event → ℕ × Forest → Claim (ℕ × Forest)
  SeqC e x = ticking F d (λ (y : ℕ × Forest). (shapes y.1 ≡ shapes x.1) × (ValidAt F) y.1 y.0) (λ (y : ℕ × Forest). StillSum d y.1 y.0) e x

  -- the child at the place went on for one tick
  pub seq_down : (t t' : Tree) (ts : Forest) (j : ℕ) → ((i : ℕ) → Still d t (suc i) → Still d t' i) → StillSum d (t ◂ ts) 0 (suc j) → StillSum d (t' ◂ ts) 0 j
  seq_down t t' ts j f x = pick x.0 x.1 x.2 x.3 x.4
    where
      pick : (a b : ℕ) → a + b ≤ suc j → Still d t a → EnoughSum d (shapes ts) b → StillSum d (t' ◂ ts) 0 j
      pick zero b h y z = absurd (still_pos F d t y)
      pick (suc a) b h y z = (a, b, omega arith, f a y, z)

  -- it ended, and a later one goes on
  seq_over : (t : Tree) (ts us : Forest) (p j : ℕ) → shapes us ≡ shapes ts → ValidAt F us p → StillSum d (t ◂ ts) 0 (suc j) → StillSum d us p j
  seq_over t ts us p j e v x = pick x.0 x.1 x.2 x.3 x.4
    where
      pick : (a b : ℕ) → a + b ≤ suc j → Still d t a → EnoughSum d (shapes ts) b → StillSum d us p j
      pick zero b h y z = absurd (still_pos F d t y)
      pick (suc a) b h y z = sum_mono F d us p b j (omega arith) (valid_sum F d us p b v (rw e z))

  -- ---- Memoryless
  abbrev pub MemC : Event → Forest → Claim Forest
  MemC e ts = ticking F d (λ (us : Forest). Unit {0}) (λ (us : Forest) (k : ℕ). EnoughEmpty d (shapes us) k) e ts

  module _ (R : Pairing F) (child : Ticker) (g : Good R d child) where
    seq_pass : {p : R.Worlds} {o : World → Out (ℕ × Forest)} (e : Event) (r : Float) (t t' u : Tree) (us : Forest) → shape t' ≡ shape t
        → Holds R (SeqC (Update r) (0, fresh u ◂ us)) p o → Holds R (SeqC e (0, t ◂ u ◂ us)) p (λ w. pass (fresh t') (o w))
    seq_pass e r t t' u us q h = claim_map R (λ x. (suc x.0, fresh t' ◂ x.1))
        (λ x v dn. ((join (fresh_shape t' ∙ q) (v.0 ∙ back), v.1), λ full j y. seq_over t (u ◂ us) x.1 x.0 j (v.0 ∙ back) v.1 y)) h
      where
        back : shapes (fresh u ◂ us) ≡ shapes (u ◂ us)
        back = join (fresh_shape u) refl

    -- the child at the place goes on
    seq_stay : (e : Event) (r : Float) (t t' : Tree) (ts : Forest) → TickQ F d e t Running r t' → Q F (SeqC e (0, t ◂ ts)) Running r (0, t' ◂ ts)
    seq_stay e r t t' ts q = ((join q.0.0 refl, q.1.0), λ full j x. seq_down t t' ts j (q.1.1 full) x)

    seq_from : (y : Float) (t : Tree) (ts : Forest) (p : R.Worlds) → Shaped F (shape t) → Shapeds F (shapes ts) → Valid F t → W F y
        → Holds R (SeqC (Update y) (0, t ◂ ts)) p (λ w. sequence_from child (Update y) t ts w)
    unfolding sequence_from
    seq_from y t [] p s ss v ev = after R (g t (Update y) p s v ev) elim [
      | Running ↦ λ r t' p' q. stay R (seq_stay (Update y) r t t' [] q)
      | Success ↦ λ r t' p' q. stay R q.1
      | Failure ↦ λ r t' p' q. stay R q.1
    ]
    seq_from y t (u ◂ us) p s ss v ev = after R (g t (Update y) p s v ev) elim [
      | Running ↦ λ r t' p' q. stay R (seq_stay (Update y) r t t' (u ◂ us) q)
      | Success ↦ λ r t' p' q. seq_pass (Update y) r t t' u us q.0.0 (seq_from r (fresh u) us p' (rw (fresh_shape u) ss.0) ss.1 (fresh_valid F u ss.0) q.1)
      | Failure ↦ λ r t' p' q. stay R q.1
    ]

    pub seq_good : (e : Event) (ts : Forest) (n : ℕ) (p : R.Worlds) → Shapeds F (shapes ts) → ValidAt F ts n → WEvent F e → Holds R (SeqC e (n, ts)) p (λ w. sequence_at child n e ts w)
    unfolding sequence_at
    seq_good e [] n p s v ev = absurd v
    seq_good (Update y) (t ◂ ts) zero p s v ev = seq_from y t ts p s.0 s.1 v ev
    seq_good Other (t ◂ ts) zero p s v ev = absurd ev
    seq_good e (t ◂ ts) (suc n) p s v ev =
        claim_map R (λ x. (suc x.0, t ◂ x.1)) (λ x u dn. ((join refl u.0, u.1), dn)) (seq_good e ts n p s.1 v ev)

    -- not empty: no number of ticks is enough
    pub mem_good : (y : Float) (ts : Forest) (p : R.Worlds) → Shapeds F (shapes ts) → W F y → Holds R (MemC (Update y) ts) p (λ w. memoryless child (Update y) ts w)
    unfolding memoryless
    mem_good y [] p s ev = stay R ev
    mem_good y (t ◂ []) p s ev = after R (g (fresh t) (Update y) p (rw (fresh_shape t) s.0) (fresh_valid F t s.0) ev) elim [
      | Running ↦ λ r t' p' q. stay R (tt, λ full j x. absurd x)
      | Success ↦ λ r t' p' q. stay R q.1
      | Failure ↦ λ r t' p' q. stay R q.1
    ]
    mem_good y (t ◂ u ◂ us) p s ev = after R (g (fresh t) (Update y) p (rw (fresh_shape t) s.0) (fresh_valid F t s.0) ev) elim [
      | Running ↦ λ r t' p' q. stay R (tt, λ full j x. absurd x)
      | Success ↦ λ r t' p' q. claim_map R (λ ts. fresh t' ◂ ts) (λ ts v dn. (tt, λ full j x. absurd x))
          (mem_good r (u ◂ us) p' s.1 q.1)
      | Failure ↦ λ r t' p' q. stay R q.1
    ]
