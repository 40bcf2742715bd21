-- An action that is asked is answered by calling again with one more answer. The second walk is the first up to that action, which takes the
-- answer: so it has used it when it is done, or it asks a next question, or its fuel is used up behind it.
use Rattle.std.specs.Prelude.{◌≡◌, List, Float, ◌++◌, length}
use Rattle.std.proofs.Math.Path.{refl, sym}
use Rattle.std.proofs.Common.{ap, ◌∙◌, subst, append_assoc, arith, length-append}
use Prim.Native.Nat.{ℕ, zero, suc, ◌+◌}
use Rattle.std.specs.Float.{Format}
use Rattle.rules.specs.declared.status.Status.{Status}
use Rattle.rules.specs.declared.event.Event.{Event}
use Rattle.rules.specs.Tree.{Tree, node}
use Rattle.rules.specs.Outcome.{dt, world, Out, done, asks, short}
use Rattle.rules.specs.State.{rule, tick}
use Rattle.laws.specs.Shape.{shape, shapes, size_of}
use Rattle.laws.specs.Pair.{Of, Sim, goes, ends}
use Rattle.laws.specs.PairDrivers.{Alike, Any, any_each}
use Rattle.laws.specs.PairRules.{rule_with_lem, Acts}
use Rattle.laws.proofs.PairRules.{visit_pair}
use Rattle.laws.specs.Alone.{Answers, NotDone}
use Rattle.laws.specs.Asking.{together, asked, first_in, second_in, stop_short, asking, Took, Answered}

-- `a` is the answer added, `more` what stands behind it
module _ (a : Status × Float) (more : Answers) where
  module _ (F : Format) where
    -- the action that asks in the first walk takes the answer in the second
    acts : Acts (asking a more F)
    unfolding rule
    acts child child' n l c e ts m (together f List.[]) P x = goes a.0 a.1 (c, ts) (asked n (dt e) f more List.[] refl) tt (x, tt)
    acts child child' n l c e ts m (together f (List.◌∷◌ b ans)) P x = goes b.0 b.1 (c, ts) (together f ans) tt (x, tt)
    acts child child' n l c e ts m (asked n' x' f List.[] used q) P x = ends (asks n' x') (asks n (dt e)) (refl, tt)
    acts child child' n l c e ts m (asked n' x' f (List.◌∷◌ b left) used q) P x =
        goes b.0 b.1 (c, ts) (asked n' x' f left (used ++ List.◌∷◌ b List.[]) (q ∙ sym (append_assoc used (List.◌∷◌ b List.[]) left))) (refl, refl) (x, tt)

    tick_asks : (d : ℕ) → Alike (asking a more F) Any (tick F d) (tick F d)
    unfolding tick
    tick_asks zero t e p u v ev = ends (first_in a more p (λ w. short)) (second_in a more p (λ w. short)) (stop_short a more Tree p)
    tick_asks (suc d) (node k n l c b ts) e (together zero ans) u v ev = ends short short refl
    tick_asks (suc d) (node k n l c b ts) e (together (suc f) ans) u v ev =
        visit_pair (asking a more F) acts Any (tick F d) (tick F d) (tick_asks d) (suc f) k n l c b ts e (together (suc f) ans) (together f ans) (rule_with_lem F (tick F d) k n l c e ts f ans)
        (rule_with_lem F (tick F d) k n l c e ts f (ans ++ List.◌∷◌ a more)) tt tt (λ h i j. tt) (any_each (shapes ts)) tt tt
    tick_asks (suc d) (node k n l c b ts) e (asked n' x zero left used q) u v ev = ends (asks n' x) short (refl, tt)
    tick_asks (suc d) (node k n l c b ts) e (asked n' x (suc f) left used q) u v ev =
        visit_pair (asking a more F) acts Any (tick F d) (tick F d) (tick_asks d) (suc f) k n l c b ts e (asked n' x (suc f) left used q) (asked n' x f left used q) refl
        (rule_with_lem F (tick F d) k n l c e ts f left) (refl, refl) tt (λ h i j. tt) (any_each (shapes ts)) tt tt

    took_of : (o : Out Tree) → NotDone o → Took a more F o
    took_of (done s r t w) h = absurd h
    took_of (asks n x) h = tt
    took_of short h = tt

    answered : (m f : ℕ) (ans : Answers) (P : Of (asking a more F) Tree) (o o' : Out Tree) → Sim (asking a more F) m (together f ans) P o o' → Answered a more F o o'
    answered m f ans P o o' (goes s r t (together f' l) h x) = refl
    answered m f ans P o o' (goes s r t (asked n x' f' left used q) h x) = (used, q)
    answered m f ans P o o' (ends (done s r t w) u' h) = absurd h
    answered m f ans P o o' (ends (asks n x) u' h) = took_of u' h
    answered m f ans P o o' (ends short u' h) = h

    pub answer_taken : (d : ℕ) (t : Tree) (e : Event) (f : ℕ) (ans : Answers) → Answered a more F (tick F d t e (world f ans)) (tick F d t e (world f (ans ++ List.◌∷◌ a more)))
    answer_taken d t e f ans = answered (size_of (shape t)) f ans _ (tick F d t e (world f ans)) (tick F d t e (world f (ans ++ List.◌∷◌ a more))) (tick_asks d t e (together f ans) tt tt tt)

    -- ---- and back: an answer that was used was asked for
    abbrev left_of : Out Tree → Answers
    left_of (done s r t (world f ans)) = ans
    left_of (asks n x) = List.[]
    left_of short = List.[]

    abbrev IsShort : Out Tree → Type 0
    IsShort (done s r t w) = ⊥
    IsShort (asks n x) = ⊥
    IsShort short = Unit {0}

    too_long : (l left used : Answers) → left ≡ l ++ List.◌∷◌ a more → more ≡ used ++ left → ⊥
    too_long l left used h g =
        clash (length more) (length used) (length left) (length l) (ap length g ∙ length-append used left) (ap length h ∙ length-append l (List.◌∷◌ a more))
      where
        clash : (m u n k : ℕ) → m ≡ u + n → n ≡ k + suc m → ⊥
        clash m u n k h g = omega arith

    pub was_asked : (d : ℕ) (t : Tree) (e : Event) (f : ℕ) (ans : Answers) (s : Status) (r : Float) (t' : Tree) (f' : ℕ) (left used : Answers)
        → tick F d t e (world f (ans ++ List.◌∷◌ a more)) ≡ done s r t' (world f' left) → more ≡ used ++ left
        → (n : ℕ) × (x : Float) × (tick F d t e (world f ans) ≡ asks n x)
    was_asked d t e f ans s r t' f' left used q h = go (tick F d t e (world f ans)) refl (answer_taken d t e f ans)
      where
        go : (o : Out Tree) → tick F d t e (world f ans) ≡ o → Answered a more F o (tick F d t e (world f (ans ++ List.◌∷◌ a more))) → (n : ℕ) × (x : Float) × (tick F d t e (world f ans) ≡ asks n x)
        go (done s'' r'' t'' (world f'' l)) o v = absurd (too_long l left used (ap left_of (sym q ∙ v)) h)
        go (asks n x) o v = (n, x, o)
        go short o v = absurd (subst IsShort (sym v ∙ q) tt)
