-- One tick keeps cells allowed: of a tree that may be ticked, whatever it answers, the tree that it leaves may be ticked again.
use Rattle.std.specs.Prelude.{◌≡◌, List, T, Float}
use Rattle.std.proofs.Math.Path.{refl}
use Prim.Native.Nat.{ℕ, ◌≤◌}
use Rattle.std.proofs.Common.{le_refl, le_trans}
use Rattle.std.specs.Float.{Format}
use Rattle.rules.specs.declared.status.Status.{Status}
use Rattle.rules.specs.Tree.{Tree}
use Rattle.rules.specs.Outcome.{dt, World, world, Out, done, asks, short, ◌▸◌}
use Rattle.rules.specs.State.{rule}
use Rattle.rules.specs.Cells.{elapsed}
use Rattle.laws.specs.Elapsed.{add_elapsed, sub_elapsed, number_elapsed, smaller_elapsed, largest_elapsed}
use Rattle.laws.specs.Live.{Live}
use Rattle.laws.specs.Pair.{Terms, Pairing, goes, ends}
use Rattle.laws.specs.PairRules.{Acts}

abbrev pub EAnswers : List (Status × Float) → Type 0
EAnswers List.[] = Unit {0}
EAnswers (List.◌∷◌ a ans) = T (elapsed a.1) × EAnswers ans

abbrev pub EWorld : World → Type 0
EWorld (world f ans) = EAnswers ans

abbrev pub fuel_in : World → ℕ
fuel_in (world f ans) = f

-- cells are looked at, and times are elapsed
abbrev pub elapsing : (F : Format) → Terms F
elapsing F = record {
  Known = λ X. X;
  known = λ x. x;
  map = λ f x. f x;
  both = λ x y. (x, y);
  time = elapsed;
  none_passed = tt;
  most = largest_elapsed F;
  least = smaller_elapsed;
  limit = number_elapsed;
  sum = add_elapsed F;
  past = sub_elapsed F;
}

-- Ends: what becomes of the second walk where the first is short
module _ (Ends : (A : Type 0) → Out A → Type 0) (ends_then : (A B : Type 0) (o : Out A) (k : Status → Float → A → World → Out B) → Ends A o → Ends B (o ▸ k)) where
  abbrev pub Stopped : (A : Type 0) → Out A → Out A → Type 0
  Stopped A (done s r a w) o' = ⊥
  Stopped A (asks n x) o' = o' ≡ asks n x
  Stopped A short o' = Ends A o'

  pub stopped_then : (A B : Type 0) (o o' : Out A) (k k' : Status → Float → A → World → Out B) → Stopped A o o' → Stopped B (o ▸ k) (o' ▸ k')
  stopped_then A B (done s r a w) o' k k' h = absurd h
  stopped_then A B (asks n x) o' k k' h = rw h
  stopped_then A B short o' k k' h = ends_then A B o' k' h

  abbrev pub living : (F : Format) → Pairing F
  living F = record {
    terms = elapsing F;
    Worlds = (w : World) × EWorld w;
    first = λ p m. m p.0;
    second = λ p m. m p.0;
    fuel = λ p. fuel_in p.0;
    Reach = λ n p q. fuel_in q.0 ≤ fuel_in p.0;
    stays = λ n p. le_refl (fuel_in p.0);
    onward = λ m n p q r h g. le_trans g h;
    spends = λ n p q h. h;
    Stop = λ {A} n p o o'. Stopped A o o';
    stop_then = λ {A} {B} n p o o' k k' h. stopped_then A B o o' k k' h;
    stop_back = λ m n p q o o' g h. h;
    stop_short = λ n p h. absurd h;
    Upto = λ m n. Unit {0};
    upto = λ m n h. tt;
    reach_upto = λ m n p q u h. h;
    stop_upto = λ m n p o o' u h. h;
    first_then = λ p m k. refl;
    second_then = λ p m k. refl;
  }

  pub living_acts : (F : Format) → Acts (living F)
  unfolding rule
  living_acts F child child' n l c e ts m (world f List.[], wv) P x = ends (asks n (dt e)) (asks n (dt e)) refl
  living_acts F child child' n l c e ts m (world f (List.◌∷◌ a ans), wv) P x = goes a.0 a.1 (c, ts) (world f ans, wv.1) (le_refl f) (x, wv.0)

-- what a tick leaves: answers and leftover are times, and the tree may be ticked
abbrev pub LiveAfter : Out Tree → Type 0
LiveAfter (done s r t w) = EWorld w × T (elapsed r) × Live t
LiveAfter (asks n x) = Unit {0}
LiveAfter short = Unit {0}
