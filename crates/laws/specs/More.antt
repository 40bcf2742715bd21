-- More fuel and more answers never change what a walk has done: the fuel added is left over, and the answers added are left behind.
use Rattle.std.specs.Prelude.{◌≡◌, refl, List, Float, ◌++◌}
use Prim.Native.Nat.{ℕ, ◌+◌}
use Rattle.std.specs.Float.{Format}
use Rattle.rules.specs.declared.status.Status.{Status}
use Rattle.rules.specs.Outcome.{World, world, Out, done, asks, short, ◌▸◌}
use Rattle.laws.specs.Pair.{nothing, Pairing}
use Rattle.laws.specs.Alone.{Answers}

-- the outcome o' with k more fuel and `more` behind the answers, beside the outcome o
abbrev pub Grown : {A : Type 0} → ℕ → Answers → Out A → Out A → Type 0
Grown k more (done s r a (world f ans)) o' = o' ≡ done s r a (world (f + k) (ans ++ more))
Grown k more (asks n x) o' = more ≡ List.[] → o' ≡ asks n x
Grown k more short o' = k ≡ 0 → o' ≡ short

module _ (k : ℕ) (more : Answers) where
  abbrev pub grow : World → World
  grow (world f ans) = world (f + k) (ans ++ more)

  -- a question stands if no answer is added, too little fuel if none is added
  abbrev pub Stopped : {A : Type 0} → Out A → Out A → Type 0
  Stopped (done s r a w) o' = ⊥
  Stopped (asks n x) o' = more ≡ List.[] → o' ≡ asks n x
  Stopped short o' = k ≡ 0 → o' ≡ short

  pub stopped_then : {A B : Type 0} (o o' : Out A) (c c' : Status → Float → A → World → Out B) → Stopped o o' → Stopped (o ▸ c) (o' ▸ c')
  stopped_then (done s r a w) o' c c' h = absurd h
  stopped_then (asks n x) o' c c' h = λ e. rw (h e)
  stopped_then short o' c c' h = λ e. rw (h e)

  abbrev pub growing : (F : Format) → Pairing F
  growing F = record {
    terms = nothing F;
    Worlds = World;
    first = λ w m. m w;
    second = λ w m. m (grow w);
    fuel = λ w. 0;
    Reach = λ n w w'. Unit {0};
    stays = λ n w. tt;
    onward = λ m n w w' w'' h g. tt;
    spends = λ n w w' h. tt;
    Stop = λ n w o o'. Stopped o o';
    stop_then = λ n w o o' c c' h. stopped_then o o' c c' h;
    stop_back = λ m n w w' o o' g h. h;
    stop_short = λ n w h e. refl;
    Upto = λ m n. Unit {0};
    upto = λ m n h. tt;
    reach_upto = λ m n w w' u h. tt;
    stop_upto = λ m n w o o' u h. h;
    first_then = λ w m c. refl;
    second_then = λ w m c. refl;
  }
