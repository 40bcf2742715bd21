-- A tick of While and WhileAll, turn by turn.
use Rattle.std.specs.Prelude.{◌≡◌, Bool, true, false, cond, ◌⊎◌, ltb, Float}
use Rattle.std.proofs.Math.Path.{refl}
use Rattle.std.proofs.Math.Logic.{inl, inr}
use Prim.Native.Nat.{ℕ, zero, suc, ◌+◌, ◌*◌, ◌≤◌, ◌<◌}
use Rattle.std.proofs.Common.{arith}
use Rattle.std.specs.Float.{Format}
use Rattle.rules.specs.declared.status.Status.TheVariants.{Running, Success, Failure}
use Rattle.rules.specs.declared.event.Event.{Event}
use Rattle.rules.specs.declared.event.Event.TheVariants.{Update}
use Rattle.rules.specs.Tree.{Tree, Forest, [], ◌◂◌, count}
use Rattle.rules.specs.Outcome.{dt, World, Out, Ticker}
use Rattle.rules.specs.Loops.{budget, put, fresh_at, next, moved, while_body, while_all}
use Rattle.rules.specs.Bound.{num}
use Rattle.floats.specs.Times.{W}
use Rattle.laws.specs.Shape.{Shape, Shapes, shape, shapes, moved_shapes}
use Rattle.laws.specs.Pair.{Pairing, Known, stay, cut, after}
use Rattle.finish.specs.Shaped.{Shaped, Shapeds}
use Rattle.laws.specs.Shape
use Rattle.finish.specs.Enough.{EnoughSum, Still, StillSum, StillLoop}
use Rattle.finish.specs.Valid.{in_body, Valid, ValidAt, ValidLoop}
use Rattle.finish.specs.Ranks.{still_pos, valid_sum}
use Rattle.finish.specs.Post.{Claim, ticking, Holds, claim_weak, Good}
use Rattle.finish.specs.Places.{within, moved_valid, next_in, child_at_lem}

module _ (F : Format) (d : ℕ) where
  -- ---- While's body
  abbrev pub BodyC : Event → ℕ × Forest → Claim (ℕ × Forest)
  BodyC e x = ticking F d (λ (y : ℕ × Forest). (ValidAt F) y.1 y.0) (λ (y : ℕ × Forest) (k : ℕ). ⊥) e x

  -- ---- WhileAll
  abbrev EnoughFrom : Shapes → ℕ → ℕ → Type 0
  EnoughFrom ss zero k = EnoughSum d ss k
  EnoughFrom Shape.[] (suc p) k = Unit {0}
  EnoughFrom (Shape.◌◂◌ s ss) (suc p) k = EnoughFrom ss p k

  from_next : (ss : Shapes) (p k : ℕ) → EnoughFrom ss p k → (m : ℕ) × (m ≤ k) × EnoughFrom ss (suc p) m
  from_next Shape.[] p k h = (k, omega arith, tt)
  from_next (Shape.◌◂◌ s ss) zero k h = (h.1, omega arith, h.4)
  from_next (Shape.◌◂◌ s ss) (suc p) k h = from_next ss p k h

  -- the child at p is fresh, and ends or goes on
  from_valid : (ts : Forest) (p k : ℕ) → ValidAt F ts p → EnoughFrom (shapes ts) p k → StillSum d ts p k
  from_valid [] p k v h = absurd v
  from_valid (t ◂ ts) zero k v h = valid_sum F d (t ◂ ts) 0 k v h
  from_valid (t ◂ ts) (suc p) k v h = from_valid ts p k v h

  -- the child at p ends
  still_next : (ts : Forest) (p k : ℕ) → StillSum d ts p (suc k) → (m : ℕ) × (m ≤ k) × EnoughFrom (shapes ts) (suc p) m
  still_next [] p k h = absurd h
  still_next (t ◂ ts) zero k h = pick h.0 h.1 h.2 h.3 h.4
    where
      pick : (a b : ℕ) → a + b ≤ suc k → Still d t a → EnoughSum d (shapes ts) b → (m : ℕ) × (m ≤ k) × EnoughFrom (shapes (t ◂ ts)) 1 m
      pick zero b x y z = absurd (still_pos F d t y)
      pick (suc a) b x y z = (b, omega arith, z)
  still_next (t ◂ ts) (suc p) k h = still_next ts p k h

  -- what is known at a turn of the loop in a full tick, for the event e that the body gets
  abbrev pub Turn : Event → Tree → Forest → ℕ → ℕ → Type 0
  Turn e c ts zero j = (a : ℕ) × (b : ℕ) × (a * b ≤ j) × (1 ≤ b) × Still d c (suc a) × EnoughSum d (shapes ts) b
  Turn e c ts (suc p) j =
      (a : ℕ) × (b : ℕ) × (m : ℕ) × (a * b + m ≤ j) × (1 ≤ b) × Still d c (suc a) × EnoughSum d (shapes ts) b × (EnoughFrom (shapes ts) p m ⊎ ((d ≤ num (dt e)) × StillSum d ts p (suc m)))

  abbrev pub LoopC : Event → Event → Tree → Forest → ℕ → Claim (ℕ × Forest)
  LoopC whole e c ts p = record {
    valid = λ x. ValidLoop F x.1 (in_body x.0);
    down = λ x. d ≤ num (dt whole) → (j : ℕ) → Turn e c ts p j → StillLoop d x.1 x.0 j;
  }

  -- the condition was looked at and goes on
  checked : (e : Event) (c c' : Tree) (ts : Forest) (j : ℕ) → ((i : ℕ) → Still d c (suc i) → Still d c' i) → Turn e c ts 0 j → Turn e c' ts 1 j
  checked e c c' ts j f x = pick x.0 x.1 x.2 x.3 (f x.0 x.4) x.5
    where
      pick : (a b : ℕ) → a * b ≤ j → 1 ≤ b → Still d c' a → EnoughSum d (shapes ts) b → Turn e c' ts 1 j
      pick zero b h k y z = absurd (still_pos F d c' y)
      pick (suc a) b h k y z = (a, b, b, omega arith, k, y, z, inl z)

  -- the body child at p ended, whatever it was given
  after_body : (e : Event) (c : Tree) (ts : Forest) (p j : ℕ) → Turn e c ts (suc p) j
      → (a : ℕ) × (b : ℕ) × (m : ℕ) × (a * b + m ≤ j) × (1 ≤ b) × Still d c (suc a) × EnoughSum d (shapes ts) b × EnoughFrom (shapes ts) (suc p) m
  after_body e c ts p j x =
      let y : (m : ℕ) × (m ≤ x.2) × EnoughFrom (shapes ts) (suc p) m = elim x.7 [ inl z ↦ from_next (shapes ts) p x.2 z | inr z ↦ still_next ts p x.2 z.1 ] in
      let h : x.0 * x.1 + x.2 ≤ j = x.3 in
      let k : y.0 ≤ x.2 = y.1 in
      (x.0, x.1, y.0, omega arith, x.4, x.5, x.6, y.2)

  -- `unasked`: a walk that is short is let be
  module _ (R : Pairing F) (unasked : Known R ⊥) (child : Ticker) (g : Good R d child) where
    -- a turn of the loop, then the turns behind it
    loop_of : {w : R.Worlds} {o : World → Out (ℕ × Forest)} (whole e e' : Event) (c c' : Tree) (ts us : Forest) (p q : ℕ)
        → (d ≤ num (dt whole) → (j : ℕ) → Turn e c ts p j → Turn e' c' us q j) → Holds R (LoopC whole e' c' us q) w o → Holds R (LoopC whole e c ts p) w o
    loop_of whole e e' c c' ts us p q f h = claim_weak R (λ x v dn. (v, λ full j y. dn full j (f full j y))) h

    pub body_good : (budget : ℕ) (y : Float) (ts : Forest) (p : ℕ) (w : R.Worlds) → Shapeds F (shapes ts) → ValidAt F ts p → W F y
        → Holds R (BodyC (Update y) (p, ts)) w (λ v. while_body child budget p (Update y) ts v)
    unfolding while_body
    body_good zero y ts p w s v ev = cut R unasked
    body_good (suc budget) y ts p w s v ev = after R (child_at_lem F d R child g (Update y) ts p w s v ev) elim [
      | Running ↦ λ r t' w' q. stay R (q.1.0, λ full j x. x)
      | Success ↦ λ r t' w' q.
          let inside : next p ts < count ts = next_in F d ts p (ltb (suc p) (count ts)) refl (within F d ts p v) in
          let sh : shapes (moved p t' ts) ≡ shapes ts = moved_shapes ts p (next p ts) t' q.0 in
          claim_weak R (λ x k dn. (k, λ full j z. z))
          (body_good budget r (moved p t' ts) (next p ts) w' (rw sh s) (moved_valid F d ts p (next p ts) t' s q.0 inside) q.1)
      | Failure ↦ λ r t' w' q. stay R q.1
    ]

    loop_next : (budget : ℕ) (y z r : Float) (c t' : Tree) (ts : Forest) (p : ℕ) (w : R.Worlds) → Shapeds F (shapes ts) → Valid F c → p < count ts → shapes (put p t' ts) ≡ shapes ts
        → (b : Bool) → ltb (suc p) (count ts) ≡ b
        → ((i : ℕ) (us : Forest) → Shapeds F (shapes us) → ValidLoop F (c ◂ us) (in_body i)
        → Holds R (LoopC (Update y) (Update r) c us i) w (λ v. while_all child budget (Update y) i (Update r) c us v))
        → Holds R (LoopC (Update y) (Update z) c ts (suc p)) w (λ v. while_all child budget (Update y) (cond b (suc (suc p)) 0) (Update r) c (fresh_at (cond b (suc p) 0) (fresh_at p (put p t' ts))) v)
    loop_next budget y z r c t' ts p w ss v inside sh true e rec =
        let us : Forest = fresh_at (suc p) (fresh_at p (put p t' ts)) in
        let n : suc p < count ts = next_in F d ts p true e inside in
        let ush : shapes us ≡ shapes ts = moved_shapes ts p (suc p) t' sh in
        loop_of (Update y) (Update z) (Update r) c c ts us (suc p) (suc (suc p))
        (λ full j x. let a = after_body (Update z) c ts p j x in (a.0, a.1, a.2, a.3, a.4, a.5, rw ush a.6, inl (rw ush a.7)))
        (rec (suc (suc p)) us (rw ush ss) (v, moved_valid F d ts p (suc p) t' ss sh n))
    loop_next budget y z r c t' ts p w ss v inside sh false e rec =
        let us : Forest = fresh_at 0 (fresh_at p (put p t' ts)) in
        let n : 0 < count ts = next_in F d ts p false e inside in
        let ush : shapes us ≡ shapes ts = moved_shapes ts p 0 t' sh in
        loop_of (Update y) (Update z) (Update r) c c ts us (suc p) 0
        (λ full j x. let a = after_body (Update z) c ts p j x in let h : a.0 * a.1 + a.2 ≤ j = a.3 in (a.0, a.1, omega arith, a.4, a.5, rw ush a.6))
        (rec 0 us (rw ush ss) (v, moved_valid F d ts p 0 t' ss sh n))

    pub loop_good : (budget : ℕ) (y z : Float) (c : Tree) (ts : Forest) (p : ℕ) (w : R.Worlds) → Shaped F (shape c) → Shapeds F (shapes ts) → ValidLoop F (c ◂ ts) (in_body p) → W F y → W F z
        → Holds R (LoopC (Update y) (Update z) c ts p) w (λ v. while_all child budget (Update y) p (Update z) c ts v)
    unfolding while_all
    loop_good zero y z c ts p w s ss v ey ez = cut R unasked
    loop_good (suc budget) y z c ts zero w s ss v ey ez = after R (g c (Update y) w s v.0 ey) elim [
      | Running ↦ λ r c' w' q. loop_of (Update y) (Update z) (Update z) c c' ts ts 0 1 (λ full j x. checked (Update z) c c' ts j (q.1.1 full) x)
          (loop_good budget y z c' ts 1 w' (rw q.0.0 s) ss (q.1.0, v.1) ey ez)
      | Success ↦ λ r c' w' q. stay R q.1
      | Failure ↦ λ r c' w' q. stay R q.1
    ]
    loop_good (suc budget) y z c ts (suc p) w s ss v ey ez = after R (child_at_lem F d R child g (Update z) ts p w ss v.1 ez) elim [
      | Running ↦ λ r t' w' q. stay R (
        (v.0, q.1.0),
        λ full j x. (
          x.0,
          x.1,
          x.2,
          x.3,
          x.4,
          x.5,
          rw q.0 x.6,
          (elim x.7 [
            | inl h ↦ from_valid (put p t' ts) p x.2 q.1.0 (rw q.0 h)
            | inr h ↦ q.1.1 h.0 x.2 h.1
          ]),
        ),
      )
      | Success ↦ λ r t' w' q. loop_next budget y z r c t' ts p w' ss v.0 (within F d ts p v.1) q.0 (ltb (suc p) (count ts)) refl
          (λ i us ss' v'. loop_good budget y r c us i w' s ss' v' ey q.1)
      | Failure ↦ λ r t' w' q. stay R q.1
    ]
