-- One child of a forest by its index, and what becomes of the body of a loop when its child has succeeded.
use Rattle.std.specs.Prelude.{◌≡◌, refl, Bool, true, false, cond, ℕ, zero, suc, ◌≤◌, ◌<◌, ltb, Float}
use Rattle.std.proofs.Common.{◌∙◌, not-suc-le-zero, arith, ltb-true}
use Rattle.std.specs.Float.{Format}
use Rattle.rules.specs.declared.status.Status.{Status}
use Rattle.rules.specs.declared.status.Status.TheVariants.{Running, Success, Failure}
use Rattle.rules.specs.declared.event.Event.{Event}
use Rattle.rules.specs.Bound.{num}
use Rattle.rules.specs.Tree.{Tree, Forest, [], ◌◂◌, count}
use Rattle.rules.specs.Outcome.{dt, Ticker}
use Rattle.rules.specs.Loops.{put, fresh_at, child_at}
use Rattle.laws.specs.Shape.{shapes, fresh_at_shapes, count_shape}
use Rattle.finish.specs.Shaped.{Shapeds}
use Rattle.laws.specs.Pair.{Pairing, Both, weak}
use Rattle.laws.specs.PairDrivers.{join}
use Rattle.finish.specs.Valid.{ValidAt}
use Rattle.finish.specs.Fresh.{fresh_valid}
use Rattle.finish.specs.Enough.{StillSum}
use Rattle.finish.specs.Post.{WEvent, Claim, Q, Good}
use Rattle.finish.specs.Sequences.{seq_down}

module _ (F : Format) (d : ℕ) where
  pub within : (ts : Forest) (p : ℕ) → ValidAt F ts p → p < count ts
  within [] p v = absurd v
  within (t ◂ ts) zero v = omega arith
  within (t ◂ ts) (suc p) v = omega (arith, within ts p v)

  fresh_at_valid : (ts : Forest) (p : ℕ) → Shapeds F (shapes ts) → p < count ts → ValidAt F (fresh_at p ts) p
  fresh_at_valid [] p s h = not-suc-le-zero h
  fresh_at_valid (t ◂ ts) zero s h = fresh_valid F t s.0
  fresh_at_valid (t ◂ ts) (suc p) s h = fresh_at_valid ts p s.1 (omega arith)

  -- after a success at p, going on at q
  pub moved_valid : (ts : Forest) (p q : ℕ) (t' : Tree) → Shapeds F (shapes ts) → shapes (put p t' ts) ≡ shapes ts → q < count ts → ValidAt F (fresh_at q (fresh_at p (put p t' ts))) q
  moved_valid ts p q t' s sh inside =
      let us : Forest = fresh_at p (put p t' ts) in
      let e : shapes us ≡ shapes ts = fresh_at_shapes (put p t' ts) p ∙ sh in
      fresh_at_valid us q (rw e s) (rw (count_shape us ts e) inside)

  pub next_in : (ts : Forest) (p : ℕ) (b : Bool) → ltb (suc p) (count ts) ≡ b → p < count ts → cond b (suc p) 0 < count ts
  next_in ts p true e h = ltb-true (suc p) (count ts) e
  next_in ts p false e h = omega arith

  -- the child at p was ticked
  abbrev pub PutC : Event → ℕ → Forest → Claim Tree
  PutC e p ts = record {
    valid = λ t'. ValidAt F (put p t' ts) p;
    down = λ t'. d ≤ num (dt e) → (j : ℕ) → StillSum d ts p (suc j) → StillSum d (put p t' ts) p j;
  }

  abbrev pub PutQ : Event → ℕ → Forest → Status → Float → Tree → Type 0
  PutQ e p ts s r t' = (shapes (put p t' ts) ≡ shapes ts) × Q F (PutC e p ts) s r t'

  module _ (R : Pairing F) (child : Ticker) (g : Good R d child) where
    pub child_at_lem : (e : Event) (ts : Forest) (n : ℕ) (p : R.Worlds) → Shapeds F (shapes ts) → ValidAt F ts n → WEvent F e
        → Both R 0 p (λ s r t' q. PutQ e n ts s r t') (λ w. child_at child n e ts w) (λ w. child_at child n e ts w)
    child_at_lem e [] n p s v ev = absurd v
    child_at_lem e (t ◂ ts) zero p s v ev = weak R (g t e p s.0 v ev) elim [
      | Running ↦ λ r t' p' q. (join q.0.0 refl, (q.1.0, λ full j x. seq_down F d t t' ts j (q.1.1 full) x))
      | Success ↦ λ r t' p' q. (join q.0.0 refl, q.1)
      | Failure ↦ λ r t' p' q. (join q.0.0 refl, q.1)
    ]
    child_at_lem e (t ◂ ts) (suc n) p s v ev = weak R (child_at_lem e ts n p s.1 v ev) elim [
      | Running ↦ λ r t' p' q. (join refl q.0, q.1)
      | Success ↦ λ r t' p' q. (join refl q.0, q.1)
      | Failure ↦ λ r t' p' q. (join refl q.0, q.1)
    ]
