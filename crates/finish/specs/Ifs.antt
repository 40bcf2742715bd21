-- A tick of If: the condition, then the chosen branch.
use Rattle.std.specs.Prelude.{◌≡◌, refl, ℕ, zero, suc, ◌+◌, ◌≤◌, Float}
use Rattle.std.proofs.Common.{◌∙◌, arith}
use Rattle.std.specs.Float.{Format}
use Rattle.rules.specs.declared.status.Status.TheVariants.{Running, Success, Failure}
use Rattle.rules.specs.declared.event.Event.{Event}
use Rattle.rules.specs.declared.event.Event.TheVariants.{Update}
use Rattle.rules.specs.Tree.{Tree, Forest, [], ◌◂◌, fresh}
use Rattle.rules.specs.Outcome.{Ticker}
use Rattle.rules.specs.State.{if_at}
use Rattle.floats.specs.Times.{W}
use Rattle.laws.specs.Shape.{shapes, fresh_shape}
use Rattle.finish.specs.Shaped.{Shaped₃}
use Rattle.laws.specs.Pair.{Pairing, Known, stay, cut, after}
use Rattle.laws.specs.PairDrivers.{join}
use Rattle.finish.specs.Enough.{EnoughMax, Still, StillIf}
use Rattle.finish.specs.Valid.{ValidAt}
use Rattle.finish.specs.Fresh.{fresh_valid}
use Rattle.finish.specs.Ranks.{still_pos, valid_at}
use Rattle.finish.specs.Post.{Claim, ticking, Holds, Good}

module _ (F : Format) (d : ℕ) where
  abbrev pub IfC : Event → ℕ × Forest → Claim (ℕ × Forest)
  IfC e x = ticking F d (λ (y : ℕ × Forest). (ValidAt F) y.1 y.0) (λ (y : ℕ × Forest). StillIf d y.1 y.0) e x

  -- the condition went on; it ended, and the branch goes on; the branch went on
  if_down : (t t' : Tree) (ts : Forest) (j : ℕ) → ((i : ℕ) → Still d t (suc i) → Still d t' i) → StillIf d (t ◂ ts) 0 (suc j) → StillIf d (t' ◂ ts) 0 j
  if_down t t' ts j f x = pick x.0 x.1 x.2 x.3 x.4
    where
      pick : (a b : ℕ) → a + b ≤ suc j → Still d t a → EnoughMax d (shapes ts) b → StillIf d (t' ◂ ts) 0 j
      pick zero b h y z = absurd (still_pos F d t y)
      pick (suc a) b h y z = (a, b, omega arith, f a y, z)

  if_over : (t u : Tree) (ts us : Forest) (p j : ℕ) → shapes us ≡ shapes ts → ValidAt F us p → StillIf d (t ◂ ts) 0 (suc j) → StillIf d (u ◂ us) (suc p) j
  if_over t u ts us p j e v x = pick x.0 x.1 x.2 x.3 x.4
    where
      pick : (a b : ℕ) → a + b ≤ suc j → Still d t a → EnoughMax d (shapes ts) b → StillIf d (u ◂ us) (suc p) j
      pick zero b h y z = absurd (still_pos F d t y)
      pick (suc a) b h y z = (b, omega arith, valid_at F d us p b v (rw e z))

  branch_down : (t t' : Tree) (j : ℕ) → ((i : ℕ) → Still d t (suc i) → Still d t' i) → (x : (a : ℕ) × (a ≤ suc j) × Still d t a) → (a : ℕ) × (a ≤ j) × Still d t' a
  branch_down t t' j f x = pick x.0 x.1 x.2
    where
      pick : (a : ℕ) → a ≤ suc j → Still d t a → (a : ℕ) × (a ≤ j) × Still d t' a
      pick zero h y = absurd (still_pos F d t y)
      pick (suc a) h y = (a, omega arith, f a y)

  -- `unasked`: a walk that is short is let be
  module _ (R : Pairing F) (unasked : Known R ⊥) (child : Ticker) (g : Good R d child) where
    pub if_good : (n : ℕ) (ts : Forest) (y : Float) (p : R.Worlds) → Shaped₃ F (shapes ts) → ValidAt F ts n → W F y → Holds R (IfC (Update y) (n, ts)) p (λ w. if_at child n (Update y) ts w)
    if_good n [] y p s v ev = absurd s
    if_good n (c ◂ []) y p s v ev = absurd s.1
    if_good n (c ◂ a ◂ []) y p s v ev = absurd s.1.1
    if_good zero (c ◂ a ◂ z ◂ ts) y p s v ev = after R (g c (Update y) p s.0 v ev) elim [
      | Running ↦ λ r c' p' q. stay R (q.1.0, λ full j u. if_down c c' (a ◂ z ◂ ts) j (q.1.1 full) u)
      | Success ↦ λ r c' p' q. after R (g (fresh a) (Update r) p' (rw (fresh_shape a) s.1.0) (fresh_valid F a s.1.0) q.1) elim [
        | Running ↦ λ r' a' p'' q'. stay R (q'.1.0, λ full j u. if_over c (fresh c') (a ◂ z ◂ ts) (a' ◂ z ◂ ts) 0 j (join (q'.0.0 ∙ fresh_shape a) refl) q'.1.0 u)
        | Success ↦ λ r' a' p'' q'. stay R q'.1
        | Failure ↦ λ r' a' p'' q'. stay R q'.1
      ]
      | Failure ↦ λ r c' p' q. after R (g (fresh z) (Update r) p' (rw (fresh_shape z) s.1.1.0) (fresh_valid F z s.1.1.0) q.1) elim [
        | Running ↦ λ r' a' p'' q'. stay R (q'.1.0, λ full j u. if_over c (fresh c') (a ◂ z ◂ ts) (a ◂ a' ◂ ts) 1 j (join refl (join (q'.0.0 ∙ fresh_shape z) refl)) q'.1.0 u)
        | Success ↦ λ r' a' p'' q'. stay R q'.1
        | Failure ↦ λ r' a' p'' q'. stay R q'.1
      ]
    ]
    if_good (suc zero) (c ◂ a ◂ z ◂ ts) y p s v ev = after R (g a (Update y) p s.1.0 v ev) elim [
      | Running ↦ λ r a' p' q. stay R (q.1.0, λ full j u. branch_down a a' j (q.1.1 full) u)
      | Success ↦ λ r a' p' q. stay R q.1
      | Failure ↦ λ r a' p' q. stay R q.1
    ]
    if_good (suc (suc zero)) (c ◂ a ◂ z ◂ ts) y p s v ev = after R (g z (Update y) p s.1.1.0 v ev) elim [
      | Running ↦ λ r a' p' q. stay R (q.1.0, λ full j u. branch_down z a' j (q.1.1 full) u)
      | Success ↦ λ r a' p' q. stay R q.1
      | Failure ↦ λ r a' p' q. stay R q.1
    ]
    if_good (suc (suc (suc n))) (c ◂ a ◂ z ◂ ts) y p s v ev = cut R unasked
