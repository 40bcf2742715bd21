-- One walk beside itself: a tick keeps shape and mark, takes its fuel and its answers from the front; and how deep the tickers may go does not
-- matter for a tree that is no deeper.
use Rattle.std.specs.Prelude.{◌≡◌, refl, List, Float, ◌++◌, max}
use Rattle.std.proofs.Common.{sym, ap, ◌∙◌, append_assoc, le_refl, le_trans, arith}
use Prim.Native.Nat.{ℕ, ◌≤◌, ◌<◌}
use Rattle.std.specs.Float.{Format}
use Rattle.rules.specs.declared.status.Status.{Status}
use Rattle.rules.specs.Outcome.{World, world, Out, done, asks, short, ◌▸◌}
use Rattle.laws.specs.Pair.{nothing, Pairing}

abbrev pub Answers : Type 0
Answers = List (Status × Float)

-- fuel and answers that are left: no more fuel, and the answers behind those used
abbrev pub Spent : World → World → Type 0
Spent (world f ans) (world f' ans') = (f' ≤ f) × ((used : Answers) × (ans ≡ used ++ ans'))

abbrev pub NotDone : {A : Type 0} → Out A → Type 0
NotDone (done s r a w) = ⊥
NotDone (asks n x) = Unit {0}
NotDone short = Unit {0}

pub spent_refl : (w : World) → Spent w w
spent_refl (world f ans) = (le_refl f, (List.[], refl))

pub spent_trans : (w w' w'' : World) → Spent w w' → Spent w' w'' → Spent w w''
spent_trans (world f ans) (world f' ans') (world f'' ans'') h g =
    (le_trans g.0 h.0, (h.1.0 ++ g.1.0, h.1.1 ∙ ap (λ (z : Answers). h.1.0 ++ z) g.1.1 ∙ sym (append_assoc h.1.0 g.1.0 ans'')))

pub stop_on : {A B : Type 0} (o o' : Out A) (k k' : Status → Float → A → World → Out B) → (o ≡ o') × NotDone o → ((o ▸ k) ≡ (o' ▸ k')) × NotDone (o ▸ k)
stop_on (done s r a w) o' k k' h = absurd h.1
stop_on (asks n x) o' k k' h = (rw (← h.0) refl, tt)
stop_on short o' k k' h = (rw (← h.0) refl, tt)

abbrev pub alone : (F : Format) → Pairing F
alone F = record {
  terms = nothing F;
  Worlds = World;
  first = λ w m. m w;
  second = λ w m. m w;
  fuel = λ w. 0;
  Reach = λ n w w'. Spent w w';
  stays = λ n w. spent_refl w;
  onward = λ m n w w' w'' h g. spent_trans w w' w'' h g;
  spends = λ n w w' h. tt;
  Stop = λ n w o o'. (o ≡ o') × NotDone o;
  stop_then = λ n w o o' k k' h. stop_on o o' k k' h;
  stop_back = λ m n w w' o o' g h. h;
  stop_short = λ n w h. (refl, tt);
  Upto = λ m n. Unit {0};
  upto = λ m n h. tt;
  reach_upto = λ m n w w' u h. h;
  stop_upto = λ m n w o o' u h. h;
  first_then = λ w m k. refl;
  second_then = λ w m k. refl;
}

-- what holds of an outcome that is done
abbrev pub AfterTick : {A : Type 0} → World → (A → Type 0) → Out A → Type 0
AfterTick w P (done s r a w') = Spent w w' × P a
AfterTick w P (asks n x) = Unit {0}
AfterTick w P short = Unit {0}

pub max_left : (a b d : ℕ) → max a b ≤ d → a ≤ d
max_left a b d h = omega arith

pub max_right : (a b d : ℕ) → max a b ≤ d → b ≤ d
max_right a b d h = omega arith

module _ (F : Format) where
  -- it takes one fuel at least
  abbrev pub Less : {A : Type 0} → ℕ → Out A → Type 0
  Less f (done s r a (world f' ans)) = f' < f
  Less f (asks n x) = Unit {0}
  Less f short = Unit {0}
