-- One law for each path of the decorators.
use mathlib.Core.Path.{◌≡◌, refl}
use mathlib.Core.Bool.{Bool, true, false, cond}
use mathlib.Core.List.{List}
use Prim.Native.Nat.{ℕ, zero, suc, ◌+◌, ◌-◌, ◌≤◌, ◌<◌}
use native.Mathlib.Omega.{arith}
use lib.Ieee.{Float, Format, add, le}
use lib.ListN.{set}
use borrow.Author.Tests.{lt-ltb, le-ltb}
use Rattle.rules.specs.declared.behavior.Kind.{Kind}
use Rattle.rules.specs.declared.status.Status.{Status}
use Rattle.rules.specs.declared.status.Status.TheVariants as status
use Rattle.rules.specs.Kinds.{is}
use Rattle.rules.specs.Tree.{zero_time}
use Rattle.work.specs.declared.result.Seen.{Seen}
use Rattle.work.specs.declared.result.Seen.TheVariants.{Stopped}
use Rattle.work.specs.Word.{kind_in}
use Rattle.work.specs.Array.{word_at, time_at, number_at, fuel_of, passed, set_seen}
use Rattle.work.specs.Flat.{Out, out, Lent, Visitor, seen_no, and_then, is_leaf, is_decorator, seen}
use Rattle.work.specs.Flat.{times_out, decorated, decorator, by_kind, visit, tick}
use Rattle.rules.specs.declared.behavior.Kind.TheVariants.{Invert, Timeout}
use Rattle.work.proofs.KindLaws.{decorator_case}
use Rattle.work.proofs.VisitLaws.{Gave, seen_put, visit_node, tick_zero, tick_spent, tick_on}

decorator_kind : (F : Format) (T : Lent) (v : Visitor) (k : Kind) → is_decorator k ≡ true → (is_leaf k ≡ false) × ((p : ℕ) (dt : Float) (ws : List ℕ) (ts : List Float)
    → by_kind F T v k p dt ws ts ≡ decorator F T v p dt ws ts)
unfolding by_kind
decorator_kind F T v = decorator_case (λ k. (is_leaf k ≡ false) × ((p : ℕ) (dt : Float) (ws : List ℕ) (ts : List Float) → by_kind F T v k p dt ws ts ≡ decorator F T v p dt ws ts))
    (refl, λ p dt ws ts. refl) (refl, λ p dt ws ts. refl) (refl, λ p dt ws ts. refl)

pub decorator_none : (F : Format) (T : Lent) (v : Visitor) (p : ℕ) (dt : Float) (ws : List ℕ) (ts : List Float) → 255 ≤ p → decorator F T v p dt ws ts ≡ out Stopped zero_time ws ts
unfolding decorator
decorator_none F T v p dt ws ts h = rw (le-ltb p 255 h)

module _ (F : Format) (T : Lent) (p : ℕ) (dt : Float) where
  -- the way up over n decorators below the one at p
  unfoldable pub up : ℕ → Out → Out
  up zero o = and_then o (decorated F T p dt)
  up (suc n) o = up n (seen (p + 1 + n) (and_then o (decorated F T (p + 1 + n) dt)))

  pub up_stopped : (n : ℕ) (s : Seen) (l : Float) (ws : List ℕ) (ts : List Float) → s ≡ Stopped → up n (out s l ws ts) ≡ out s l ws ts
  unfolding up
  up_stopped zero s l ws ts e = rw e
  up_stopped (suc n) s l ws ts e = rw e (up_stopped n Stopped l ws ts refl)

  pub up_start : (v : Visitor) (ws : List ℕ) (ts : List Float) → p < 255 → (o : Out) → up 0 (v (p + 1) dt ws ts) ≡ o → decorator F T v p dt ws ts ≡ o
  unfolding up decorator
  up_start v ws ts h o e = rw (lt-ltb p 255 h) e

  pub up_end : (n : ℕ) → n ≤ 0 → (o o' : Out) → and_then o (decorated F T p dt) ≡ o' → up n o ≡ o'
  unfolding up
  up_end zero h o o' e = e
  up_end (suc n) h o o' e = absurd (omega arith)

  pub up_one : (n m q : ℕ) → n ≡ suc m → q ≡ p + 1 + m → (o : Out) (s : Seen) (l : Float) (ws ws₁ : List ℕ) (ts : List Float)
      → and_then o (decorated F T q dt) ≡ out s l ws ts → Gave s → ws₁ ≡ set_seen ws q (seen_no s) → up n o ≡ up m (out s l ws₁ ts)
  unfolding up
  up_one n m q a b o s l ws ws₁ ts e g f = rw (a, ← b, e, seen_put q s l ws ws₁ ts g f)

  module _ (d q : ℕ) (ws : List ℕ) (ts : List Float) (k : Kind) (c : k ≡ kind_in (word_at ws q)) (t : is_decorator k ≡ true) where
    visits : visit F T (tick F T d) q dt ws ts ≡ tick F T d q dt ws ts
    visits = visit_node F T q dt ws ts (tick F T d) k _ c (decorator_kind F T (tick F T d) k t).0 refl

    pub down_deep : (n : ℕ) → d ≡ 0 → up n (visit F T (tick F T d) q dt ws ts) ≡ out Stopped zero_time ws ts
    down_deep n e = rw (visits, tick_zero F T q dt ws ts d e) (up_stopped n Stopped zero_time ws ts refl)

    pub down_spent : (n : ℕ) → fuel_of ws ≡ 0 → up n (visit F T (tick F T d) q dt ws ts) ≡ out Stopped zero_time ws ts
    down_spent n e = rw (visits, tick_spent F T q dt ws ts d e) (up_stopped n Stopped zero_time ws ts refl)

    module _ (m : d ≡ 0 → ⊥) (f : fuel_of ws ≡ 0 → ⊥) (ws₁ : List ℕ) (x : ws₁ ≡ set ws 256 (fuel_of ws - 1)) where
      below : tick F T d q dt ws ts ≡ seen q (decorator F T (visit F T (tick F T (d - 1))) q dt ws₁ ts)
      below = tick_on F T q dt ws ts d k _ _ m f c ((decorator_kind F T (visit F T (tick F T (d - 1))) k t).1 q dt _ ts) (rw x)

      pub down_end : (n : ℕ) → 255 ≤ q → up n (visit F T (tick F T d) q dt ws ts) ≡ out Stopped zero_time ws₁ ts
      down_end n h = rw (visits, below, decorator_none F T (visit F T (tick F T (d - 1))) q dt ws₁ ts h) (up_stopped n Stopped zero_time ws₁ ts refl)

      pub down_one : (n : ℕ) → q ≡ p + 1 + n → q < 255 → up n (visit F T (tick F T d) q dt ws ts) ≡ up (suc n) (visit F T (tick F T (d - 1)) (q + 1) dt ws₁ ts)
      unfolding up decorator
      down_one n e h = rw (visits, below, lt-ltb q 255 h, e)

-- a decorator's rule gives a status
abbrev GaveOut : Out → Type 0
GaveOut (out s l ws ts) = Gave s

gave_if : (b : Bool) (x y : Out) → GaveOut x → GaveOut y → GaveOut (cond b x y)
gave_if true x y f g = f
gave_if false x y f g = g

module _ (F : Format) (T : Lent) (p : ℕ) (dt l : Float) (ws : List ℕ) (ts : List Float) where
  abbrev k : Kind
  k = kind_in (word_at ws p)

  times_out_gave : GaveOut (times_out F T p dt ws ts)
  unfolding times_out
  times_out_gave = gave_if (le (number_at T.limits p) (add F (time_at ts p) (passed ws dt))) _ _ (status.Failure, refl) (status.Running, refl)

  decorated_gave : (t : Status) → GaveOut (decorated F T p dt t l ws ts)
  unfolding decorated
  decorated_gave status.Running = gave_if (is k Invert) _ _ (status.Running, refl) (gave_if (is k Timeout) _ _ times_out_gave (status.Running, refl))
  decorated_gave status.Success = gave_if (is k Invert) _ _ (status.Failure, refl) (gave_if (is k Timeout) _ _ (status.Success, refl) (status.Success, refl))
  decorated_gave status.Failure = gave_if (is k Invert) _ _ (status.Success, refl) (gave_if (is k Timeout) _ _ (status.Failure, refl) (status.Success, refl))

  pub then_gave : (s₀ s : Seen) (l₁ : Float) (ws₁ : List ℕ) (ts₁ : List Float) → Gave s₀ → and_then (out s₀ l ws ts) (decorated F T p dt) ≡ out s l₁ ws₁ ts₁ → Gave s
  then_gave s₀ s l₁ ws₁ ts₁ (status.Running, e) f = rw (rw e at f) at (decorated_gave status.Running)
  then_gave s₀ s l₁ ws₁ ts₁ (status.Success, e) f = rw (rw e at f) at (decorated_gave status.Success)
  then_gave s₀ s l₁ ws₁ ts₁ (status.Failure, e) f = rw (rw e at f) at (decorated_gave status.Failure)
