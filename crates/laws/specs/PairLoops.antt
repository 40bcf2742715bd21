-- Two walks side by side through the loops, turn by turn, with any budget above the fuel, and through If.
use Rattle.std.specs.Prelude.{◌≡◌, Bool, true, false, ltb}
use Rattle.std.proofs.Math.Path.{refl}
use Rattle.std.proofs.Common.{◌∙◌, le_of_suc-le-suc, ltb-true}
use Rattle.std.proofs.Math.Bool.{cond}
use Prim.Native.Nat.{ℕ, zero, suc, ◌≤◌, ◌<◌}
use native.Mathlib.Omega.{arith}
use Rattle.std.specs.Float.{Format}
use Rattle.rules.specs.declared.status.Status.TheVariants.{Running, Success, Failure}
use Rattle.rules.specs.declared.event.Event.{Event}
use Rattle.rules.specs.declared.event.Event.TheVariants.{Update}
use Rattle.rules.specs.Tree.{Tree, Forest, [], ◌◂◌, count}
use Rattle.rules.specs.Outcome.{dt, rest, Ticker}
use Rattle.rules.specs.Loops.{put, fresh_at, next, moved, child_at, while_body, while_all}
use Rattle.rules.specs.State.{if_at}
use Rattle.laws.specs.Shape.{Shape, shape, shapes, size_of, sizes_of, fresh_shape, moved_shapes, count_shape}
use Rattle.laws.specs.Live.{fresh_live_by}
use Rattle.laws.specs.Pair.{Pairing, Known, Time, from, from_both, Of, Both, up, weak, stay, cut, then, after}
use Rattle.laws.specs.PairDrivers.{join, Each, Livelies, fresh_lively, KeptAt, Alike, rest_time, by_event, visit, visit_fresh}

-- the next body index; of a WhileAll, whose condition may be due
next_in : (n m c : ℕ) → c ≡ suc m → n ≤ m → (b : Bool) → (b ≡ true → suc n < c) → cond b (suc n) 0 ≤ m
next_in n m c e h true f = let g = f refl in omega arith
next_in n m c e h false f = omega arith

next_due : (n c : ℕ) → (b : Bool) → (b ≡ true → suc n < c) → cond b (suc (suc n)) 0 ≤ c
next_due n c true f = f refl
next_due n c false f = omega arith

module _ {F : Format} (R : Pairing F) where
  fresh_at_livelies : (ts : Forest) (n : ℕ) → Livelies R ts → Livelies R (fresh_at n ts)
  fresh_at_livelies [] n v = tt
  fresh_at_livelies (t ◂ ts) zero v = (fresh_live_by R.terms.time R.terms.none_passed t, v.1)
  fresh_at_livelies (t ◂ ts) (suc n) v = (v.0, fresh_at_livelies ts n v.1)

  moved_livelies : (ts : Forest) (n q : ℕ) (t' : Tree) → Livelies R (put n t' ts) → Livelies R (fresh_at q (fresh_at n (put n t' ts)))
  moved_livelies ts n q t' v = fresh_at_livelies (fresh_at n (put n t' ts)) q (fresh_at_livelies (put n t' ts) n v)

  -- the child n was ticked from p
  abbrev KeptPut : R.Worlds → ℕ → Forest → Of R Tree
  KeptPut p n ts s r t' q = (shapes (put n t' ts) ≡ shapes ts) × Known R (Livelies R (put n t' ts) × (R.fuel q < R.fuel p)) × Time R r

  module _ (D : Shape → Type 0) (child child' : Ticker) (g : Alike R D child child') where
    -- where nodes are visited again, they are not counted
    module _ (free : (m n : ℕ) → R.Upto m n) where
      child_pair : (e : Event) (ts : Forest) (n : ℕ) (p : R.Worlds) → Each D (shapes ts) → Known R ((n < count ts) × Livelies R ts) → Time R (dt e)
          → Both R 0 p (KeptPut p n ts) (λ w. child_at child n e ts w) (λ w. child_at child' n e ts w)
      child_pair e [] n p d v ev = cut R (from R v (λ h. omega arith))
      child_pair e (t ◂ ts) zero p d v ev =
          up R (size_of (shape t)) (free (size_of (shape t)) 0) (weak R (visit R D child child' g t e p d.0 (from R v (λ h. h.1.0)) ev)
          λ s r t' q x. (join x.0 refl, from_both R x.1 v (λ a b. ((a.0, b.1.1), a.1)), x.2))
      child_pair e (t ◂ ts) (suc n) p d v ev = weak R (child_pair e ts n p d.1 (from R v (λ h. (le_of_suc-le-suc h.0, h.1.1))) ev)
          λ s r t' q x. (join refl x.0, from_both R x.1 v (λ a b. ((b.1.0, a.0), a.1)), x.2)

      -- ---- While's body, with a place up to m
      pub body_pair : (b m n : ℕ) (e : Event) (ts : Forest) (p : R.Worlds) → Each D (shapes ts)
          → Known R ((R.fuel p < b) × (count ts ≡ suc m) × (n ≤ m) × Livelies R ts) → Time R (dt e)
          → Both R 0 p (KeptAt R m ts) (λ w. while_body child b n e ts w) (λ w. while_body child' b n e ts w)
      unfolding while_body
      body_pair zero m n e ts p d v ev = cut R (from R v (λ h. omega arith))
      body_pair (suc b) m n e ts p d v ev = after R (child_pair e ts n p d (from R v (λ h. (omega arith, h.3))) ev) elim [
        | Running ↦ λ r t' q x. stay R (x.0, from_both R x.1 v (λ a b. (b.2, a.0)), R.terms.none_passed)
        | Failure ↦ λ r t' q x. stay R (x.0, from_both R x.1 v (λ a b. (b.2, a.0)), x.2)
        | Success ↦ λ r t' q x.
            let us : Forest = moved n t' ts in
            let sh : shapes us ≡ shapes ts = moved_shapes ts n (next n ts) t' x.0 in
            by_event R e
            (λ y. weak R (body_pair b m (next n ts) (Update r) us q (rw sh d)
            (from_both R x.1 v (λ a b. (
              omega arith,
              count_shape us ts sh ∙ b.1,
              next_in n m (count ts) b.1 b.2 (ltb (suc n) (count ts)) (ltb-true (suc n) (count ts)),
              moved_livelies ts n (next n ts) t' a.0,
            ))) x.2)
            λ s' r' z q' y. (y.0 ∙ sh, y.1, y.2))
            (stay R (x.0, from_both R x.1 v (λ a b. (b.2, a.0)), R.terms.none_passed))
      ]

      -- ---- WhileAll
      pub loop_pair : (b m : ℕ) (whole : Event) (n : ℕ) (e : Event) (c : Tree) (ts : Forest) (p : R.Worlds) → D (shape c) → Each D (shapes ts)
          → Known R ((R.fuel p < b) × (count ts ≡ suc m) × (n ≤ suc m) × Livelies R (c ◂ ts)) → Time R (dt whole) → Time R (dt e)
          → Both R 0 p (KeptAt R (suc m) (c ◂ ts)) (λ w. while_all child b whole n e c ts w) (λ w. while_all child' b whole n e c ts w)
      unfolding while_all
      loop_pair zero m whole n e c ts p dc d v ew ev = cut R (from R v (λ h. omega arith))
      loop_pair (suc b) m whole zero e c ts p dc d v ew ev =
          after R (up R (size_of (shape c)) (free (size_of (shape c)) 0) (visit R D child child' g c whole p dc (from R v (λ h. h.3.0)) ew)) elim [
            | Running ↦ λ r c' q x. weak R (loop_pair b m whole 1 e c' ts q (rw x.0 dc) d
                (from_both R x.1 v (λ a b. (omega arith, b.1, omega arith, (a.0, b.3.1)))) ew ev)
                λ s' r' z q' y. (y.0 ∙ join x.0 refl, y.1, y.2)
            | Success ↦ λ r c' q x. stay R (join x.0 refl, from_both R x.1 v (λ a b. (omega arith, (a.0, b.3.1))), x.2)
            | Failure ↦ λ r c' q x. stay R (join x.0 refl, from_both R x.1 v (λ a b. (omega arith, (a.0, b.3.1))), x.2)
          ]
      loop_pair (suc b) m whole (suc n) e c ts p dc d v ew ev = after R (child_pair e ts n p d (from R v (λ h. (omega arith, h.3.1))) ev) elim [
        | Running ↦ λ r t' q x. stay R (join refl x.0, from_both R x.1 v (λ a b. (b.2, (b.3.0, a.0))), R.terms.none_passed)
        | Failure ↦ λ r t' q x. stay R (join refl x.0, from_both R x.1 v (λ a b. (b.2, (b.3.0, a.0))), x.2)
        | Success ↦ λ r t' q x.
            let us : Forest = moved n t' ts in
            let sh : shapes us ≡ shapes ts = moved_shapes ts n (next n ts) t' x.0 in
            let i : ℕ = cond (ltb (suc n) (count ts)) (suc (suc n)) 0 in
            weak R (loop_pair b m whole i (rest r e) c us q dc (rw sh d)
            (from_both R x.1 v (λ a b. (
              omega arith,
              count_shape us ts sh ∙ b.1,
              rw (← b.1) (next_due n (count ts) (ltb (suc n) (count ts)) (ltb-true (suc n) (count ts))),
              (b.3.0, moved_livelies ts n (next n ts) t' a.0),
            ))) ew (rest_time R r e x.2))
            λ s' r' z q' y. (y.0 ∙ join refl sh, y.1, y.2)
      ]

    -- ---- If
    pub if_pair : (e : Event) (ts : Forest) (n : ℕ) (p : R.Worlds) → Each D (shapes ts) → Known R ((n ≤ 2) × (3 ≤ count ts) × Livelies R ts) → Time R (dt e)
        → Both R (sizes_of (shapes ts)) p (KeptAt R 2 ts) (λ w. if_at child n e ts w) (λ w. if_at child' n e ts w)
    if_pair e [] n p d v ev = cut R (from R v (λ h. omega arith))
    if_pair e (c ◂ []) n p d v ev = cut R (from R v (λ h. omega arith))
    if_pair e (c ◂ a ◂ []) n p d v ev = cut R (from R v (λ h. omega arith))
    if_pair e (c ◂ a ◂ b ◂ ts) zero p d v ev = then R (visit R D child child' g c e p d.0 (from R v (λ h. h.2.0)) ev) elim [
      | Running ↦ λ r c' q x. stay R (join x.0 refl, from_both R x.1 v (λ a b. (omega arith, (a.0, b.2.1))), x.2)
      | Success ↦ λ r c' q x. up R (size_of (shape a)) (R.upto (size_of (shape a)) (sizes_of (shapes (a ◂ b ◂ ts))) (omega arith))
          (after R (visit_fresh R D child child' g a (rest r e) q d.1.0 (rest_time R r e x.2))
          λ s' r' a' q' y. stay R (
            join (fresh_shape c' ∙ x.0) (join y.0 refl),
            from_both R (fresh_lively R c') (R.terms.both y.1 v)
                (λ a b. (omega arith, (a, (b.0.0, b.1.2.1.1)))),
            y.2,
          ))
      | Failure ↦ λ r c' q x. up R (size_of (shape b)) (R.upto (size_of (shape b)) (sizes_of (shapes (a ◂ b ◂ ts))) (omega arith))
          (after R (visit_fresh R D child child' g b (rest r e) q d.1.1.0 (rest_time R r e x.2)) λ s' r' b' q' y. stay R (
            join (fresh_shape c' ∙ x.0) (join refl (join y.0 refl)),
            from_both R (fresh_lively R c') (R.terms.both y.1 v) (λ a b. (omega arith, (a, (b.1.2.1.0, (b.0.0, b.1.2.1.1.1))))),
            y.2,
          ))
    ]
    if_pair e (c ◂ a ◂ b ◂ ts) (suc zero) p d v ev = up R (size_of (shape a)) (R.upto (size_of (shape a)) (sizes_of (shapes (c ◂ a ◂ b ◂ ts))) (omega arith))
        (after R (visit R D child child' g a e p d.1.0 (from R v (λ h. h.2.1.0)) ev) λ s r a' q y.
        stay R (join refl (join y.0 refl), from_both R y.1 v (λ a b. (omega arith, (b.2.0, (a.0, b.2.1.1)))), y.2))
    if_pair e (c ◂ a ◂ b ◂ ts) (suc (suc zero)) p d v ev = up R (size_of (shape b)) (R.upto (size_of (shape b)) (sizes_of (shapes (c ◂ a ◂ b ◂ ts))) (omega arith))
        (after R (visit R D child child' g b e p d.1.1.0 (from R v (λ h. h.2.1.1.0)) ev) λ s r b' q y.
        stay R (join refl (join refl (join y.0 refl)), from_both R y.1 v (λ a b. (omega arith, (b.2.0, (b.2.1.0, (a.0, b.2.1.1.1))))), y.2))
    if_pair e (c ◂ a ◂ b ◂ ts) (suc (suc (suc n))) p d v ev = cut R (from R v (λ h. omega arith))
