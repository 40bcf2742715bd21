-- An action that is asked is answered by calling again with one more answer. The second walk is the first up to that action, which takes the
-- answer: so it has used it when it is done, or it asks a next question, or its fuel is used up behind it.
use Rattle.std.specs.Prelude.{◌≡◌, List, Float, ◌++◌}
use Rattle.std.proofs.Math.Path.{refl}
use Rattle.std.proofs.Common.{◌∙◌}
use Prim.Native.Nat.{ℕ}
use Rattle.std.specs.Float.{Format}
use Rattle.rules.specs.declared.status.Status.{Status}
use Rattle.rules.specs.Tree.{Tree}
use Rattle.rules.specs.Outcome.{World, world, Out, done, asks, short, ◌▸◌}
use Rattle.laws.specs.Pair.{nothing, Pairing}
use Rattle.laws.specs.Alone.{Answers, NotDone}

-- `a` is the answer added, `more` what stands behind it
module _ (a : Status × Float) (more : Answers) where
  -- both walks go on, with fuel f and the answers l before the one added; or the first has asked for the action n with x, and the second has
  -- taken the answer there and has fuel f and answers of `more` left
  pub data Worlds : Type 0 where
    together : ℕ → Answers → Worlds
    asked : ℕ → Float → ℕ → (left : Answers) → (used : Answers) → more ≡ used ++ left → Worlds

  abbrev pub first_in : {A : Type 0} → Worlds → (World → Out A) → Out A
  first_in (together f l) m = m (world f l)
  first_in (asked n x f left used e) m = asks n x

  abbrev pub second_in : {A : Type 0} → Worlds → (World → Out A) → Out A
  second_in (together f l) m = m (world f (l ++ List.◌∷◌ a more))
  second_in (asked n x f left used e) m = m (world f left)

  -- the question stays the question
  abbrev pub Reach : Worlds → Worlds → Type 0
  Reach (together f l) q = Unit {0}
  Reach (asked n x f left used e) (together f' l') = ⊥
  Reach (asked n x f left used e) (asked n' x' f' left' used' e') = (n' ≡ n) × (x' ≡ x)

  abbrev pub Stop : {A : Type 0} → Worlds → Out A → Out A → Type 0
  Stop (together f l) (done s r a w) o' = ⊥
  Stop (together f l) (asks n x) o' = NotDone o'
  Stop (together f l) short o' = o' ≡ short
  Stop (asked n x f left used e) o o' = (o ≡ asks n x) × NotDone o'

  pub stays : (p : Worlds) → Reach p p
  stays (together f l) = tt
  stays (asked n x f left used e) = (refl, refl)

  pub onward : (p q r : Worlds) → Reach p q → Reach q r → Reach p r
  onward (together f l) q r h g = tt
  onward (asked n x f left used e) (together f' l') r h g = absurd h
  onward (asked n x f left used e) (asked n' x' f' left' used' e') (together f'' l'') h g = absurd g
  onward (asked n x f left used e) (asked n' x' f' left' used' e') (asked n'' x'' f'' left'' used'' e'') h g = (g.0 ∙ h.0, g.1 ∙ h.1)

  not_done_then : {A B : Type 0} (o : Out A) (c : Status → Float → A → World → Out B) → NotDone o → NotDone (o ▸ c)
  not_done_then (done s r b w) c h = absurd h
  not_done_then (asks n x) c h = tt
  not_done_then short c h = tt

  pub stop_then : {A B : Type 0} (p : Worlds) (o o' : Out A) (c c' : Status → Float → A → World → Out B) → Stop p o o' → Stop p (o ▸ c) (o' ▸ c')
  stop_then (together f l) (done s r b w) o' c c' h = absurd h
  stop_then (together f l) (asks n x) o' c c' h = not_done_then o' c' h
  stop_then (together f l) short o' c c' h = rw h
  stop_then (asked n x f left used e) o o' c c' h = (rw h.0, not_done_then o' c' h.1)

  pub stop_back : {A : Type 0} (p q : Worlds) (o o' : Out A) → Reach p q → Stop q o o' → Stop p o o'
  stop_back (together f l) (together f' l') (done s r b w) o' g h = h
  stop_back (together f l) (together f' l') (asks n x) o' g h = h
  stop_back (together f l) (together f' l') short o' g h = h
  stop_back (together f l) (asked n x f' left used e) o o' g h = rw h.0 h.1
  stop_back (asked n x f left used e) (together f' l') o o' g h = absurd g
  stop_back (asked n x f left used e) (asked n' x' f' left' used' e') o o' g h = (h.0 ∙ (λ i. asks (g.0 i) (g.1 i)), h.1)

  pub stop_short : (A : Type 0) (p : Worlds) → Stop {A = A} p (first_in p (λ w. short)) (second_in p (λ w. short))
  stop_short A (together f l) = refl
  stop_short A (asked n x f left used e) = (refl, tt)

  pub first_then : {A B : Type 0} (p : Worlds) (m : World → Out A) (c : Status → Float → A → World → Out B) → first_in p (λ w. m w ▸ c) ≡ (first_in p m ▸ c)
  first_then (together f l) m c = refl
  first_then (asked n x f left used e) m c = refl

  pub second_then : {A B : Type 0} (p : Worlds) (m : World → Out A) (c : Status → Float → A → World → Out B) → second_in p (λ w. m w ▸ c) ≡ (second_in p m ▸ c)
  second_then (together f l) m c = refl
  second_then (asked n x f left used e) m c = refl

  abbrev pub asking : (F : Format) → Pairing F
  asking F = record {
    terms = nothing F;
    Worlds = Worlds;
    first = λ p m. first_in p m;
    second = λ p m. second_in p m;
    fuel = λ p. 0;
    Reach = λ n p q. Reach p q;
    stays = λ n p. stays p;
    onward = λ m n p q r h g. onward p q r h g;
    spends = λ n p q h. tt;
    Stop = λ n p o o'. Stop p o o';
    stop_then = λ n p o o' c c' h. stop_then p o o' c c' h;
    stop_back = λ m n p q o o' g h. stop_back p q o o' g h;
    stop_short = λ {A} n p h. stop_short A p;
    Upto = λ m n. Unit {0};
    upto = λ m n h. tt;
    reach_upto = λ m n p q u h. h;
    stop_upto = λ m n p o o' u h. h;
    first_then = λ p m c. first_then p m c;
    second_then = λ p m c. second_then p m c;
  }

  module _ (F : Format) where
    -- ---- the theorem
    -- the answer added was taken, and behind it none but the first ones of `more`
    abbrev pub Took : Out Tree → Type 0
    Took (done s r t (world f left)) = (used : Answers) × (more ≡ used ++ left)
    Took (asks n x) = Unit {0}
    Took short = Unit {0}

    -- the outcome o' with the answer added, beside the outcome o without it
    abbrev pub Answered : Out Tree → Out Tree → Type 0
    Answered (done s r t (world f ans)) o' = o' ≡ done s r t (world f (ans ++ List.◌∷◌ a more))
    Answered (asks n x) o' = Took o'
    Answered short o' = o' ≡ short
