-- A tick of Wait and of Timeout: the time that has passed is exact.
use Rattle.std.specs.Prelude.{◌≡◌, Bool, true, false, ℕ, zero, suc, ◌+◌, ◌*◌, ◌≤◌, ◌<◌, Float}
use Rattle.std.proofs.Math.Logic.{inl, inr}
use native.Mathlib.Omega.{arith}
use Rattle.std.specs.Float.{Format}
use Rattle.std.specs.Float.Ieee.{add, sub, le}
use Rattle.rules.specs.declared.behavior.Kind.TheVariants.{Wait, Timeout}
use Rattle.rules.specs.declared.status.Status.TheVariants.{Running, Success, Failure}
use Rattle.rules.specs.declared.event.Event.{Event}
use Rattle.rules.specs.declared.event.Event.TheVariants.{Update, Other}
use Rattle.rules.specs.Tree.{Cell, Tree, Forest, ◌◂◌}
use Rattle.rules.specs.Outcome.{World, Out, Ticker}
use Rattle.rules.specs.State.{rule}
use Rattle.rules.specs.Bound.{num}
use Rattle.floats.specs.Times.{W, Passed, reached, passing}
use Rattle.floats.proofs.Times.{passed}
use Rattle.laws.specs.Shape.{shape}
use Rattle.laws.specs.Pair.{Pairing, stay, after}
use Rattle.finish.specs.Shaped.{Shaped}
use Rattle.finish.specs.Valid.{Valid}
use Rattle.finish.specs.Post.{WEvent, Claim, NodeC, Holds, Good}

module _ (F : Format) (d : ℕ) where
  wait_down : (x y l x' j : ℕ) → x + y < l → x' ≡ x + y → d ≤ y → l ≤ x + suc j * d → (1 ≤ j) × (l ≤ x' + j * d)
  wait_down x y l x' zero h e f k = absurd (clash x y l d h f k)
    where
      clash : (x y l d : ℕ) → x + y < l → d ≤ y → l ≤ x + 1 * d → ⊥
      clash x y l d h f k = omega arith
  wait_down x y l x' (suc j) h e f k = (omega arith, omega arith)

  module _ (R : Pairing F) (child : Ticker) (g : Good R d child) where
    time_holds : {A : Type 0} {c : Claim A} {p : R.Worlds} {ends waits : World → Out A} (x y l : Float) (b : Bool) → Passed F x y l b → (W F (sub F (add F x y) l) → Holds R c p ends)
        → (num x + num y < num l → W F (add F x y) → num (add F x y) ≡ num x + num y → Holds R c p waits) → Holds R c p (λ w. elim b [ true ↦ ends w | false ↦ waits w ])
    time_holds x y l true (reached h w) f k = f w
    time_holds x y l false (passing h w e) f k = k h w e

    pub wait_good : (n : ℕ) (l : Float) (c : Cell) (b : ℕ) (ts : Forest) (e : Event) (p : R.Worlds) → W F l → W F c.time → num c.time ≤ num l → WEvent F e
        → Holds R (NodeC F d Wait n l c b ts e) p (λ w. rule F child Wait n l c e ts w)
    unfolding rule
    wait_good n l c b ts (Update y) p wl wx h ev = time_holds c.time y l (le l (add F c.time y)) (passed F c.time y l wx ev wl h)
        (λ wr. stay R wr)
        (λ under w' e. stay R ((w', omega arith), λ full j z. wait_down (num c.time) (num y) (num l) (num (add F c.time y)) j under e full z.1))
    wait_good n l c b ts Other p wl wx h ev = absurd ev

    pub timeout_good : (n : ℕ) (l : Float) (c : Cell) (b : ℕ) (t : Tree) (ts : Forest) (e : Event) (p : R.Worlds) → W F l → W F c.time → num c.time ≤ num l → Shaped F (shape t) → Valid F t
        → WEvent F e → Holds R (NodeC F d Timeout n l c b (t ◂ ts) e) p (λ w. rule F child Timeout n l c e (t ◂ ts) w)
    unfolding rule
    timeout_good n l c b t ts Other p wl wx h s v ev = absurd ev
    timeout_good n l c b t ts (Update y) p wl wx h s v ev = after R (g t (Update y) p s v ev) elim [
      | Running ↦ λ r t' p' q. time_holds c.time y l (le l (add F c.time y)) (passed F c.time y l wx ev wl h)
          (λ wr. stay R wr)
          (λ under wx' e. stay R (
            (wx', omega arith, q.1.0),
            λ full j z. elim z [
              | inl a ↦ inl (wait_down (num c.time) (num y) (num l) (num (add F c.time y)) j under e full a.1)
              | inr a ↦ inr (q.1.1 full j a)
            ],
          ))
      | Success ↦ λ r t' p' q. stay R q.1
      | Failure ↦ λ r t' p' q. stay R q.1
    ]
