-- The loops' budget never ends a walk: each turn takes one fuel at least, so every budget above the fuel gives the same.
use Rattle.std.specs.Prelude.{◌≡◌, ltb, Float}
use Rattle.std.proofs.Math.Path.{refl}
use Rattle.std.proofs.Common.{ap, ◌∙◌, not-suc-le-zero, arith}
use Rattle.std.proofs.Math.Bool.{cond}
use Prim.Native.Nat.{ℕ, zero, suc, ◌<◌}
use Rattle.std.specs.Float.{Format}
use Rattle.rules.specs.declared.behavior.Kind.{Kind}
use Rattle.rules.specs.declared.behavior.Kind.TheVariants.{While, WhileAll}
use Rattle.rules.specs.declared.status.Status.{Status}
use Rattle.rules.specs.declared.status.Status.TheVariants.{Running, Success, Failure}
use Rattle.rules.specs.declared.event.Event.{Event}
use Rattle.rules.specs.declared.event.Event.TheVariants.{Update, Other}
use Rattle.rules.specs.Kinds.{is}
use Rattle.rules.specs.Tree.{Cell, with_place, Tree, Forest, [], ◌◂◌, count}
use Rattle.rules.specs.Outcome.{rest, World, world, Out, done, asks, short, Ticker, ◌▸◌}
use Rattle.rules.specs.Loops.{next, moved, child_at, while_body, while_all}
use Rattle.rules.specs.State.{at_place, rule}
use Rattle.laws.specs.Alone.{Answers, Less}
use Rattle.laws.specs.PairRules.{while_with, while_all_with, rule_with, rule_with_lem}

-- what follows is the same wherever less fuel is left
then_less : {A B : Type 0} (F : Format) (f : ℕ) (o : Out A) (k k' : Status → Float → A → World → Out B) → Less F f o
    → ((s : Status) (r : Float) (a : A) (f' : ℕ) (ans : Answers) → f' < f → k s r a (world f' ans) ≡ k' s r a (world f' ans)) → (o ▸ k) ≡ (o ▸ k')
then_less F f (done s r a (world f' ans)) k k' h c = c s r a f' ans h
then_less F f (asks n x) k k' h c = refl
then_less F f short k k' h c = refl

-- a ticker that takes one fuel at least
abbrev pub Spends : Format → Ticker → Type 0
Spends F child = (t : Tree) (e : Event) (f : ℕ) (ans : Answers) → Less F f (child t e (world f ans))

module _ (F : Format) (child : Ticker) (g : Spends F child) where
  pub child_spends : (e : Event) (ts : Forest) (n f : ℕ) (ans : Answers) → Less F f (child_at child n e ts (world f ans))
  child_spends e [] n f ans = tt
  child_spends e (t ◂ ts) zero f ans = g t e f ans
  child_spends e (t ◂ ts) (suc n) f ans = child_spends e ts n f ans

  pub body_budget : (b b' n : ℕ) (e : Event) (ts : Forest) (f : ℕ) (ans : Answers) → f < b → f < b' → while_body child b n e ts (world f ans) ≡ while_body child b' n e ts (world f ans)
  unfolding while_body
  body_budget zero b' n e ts f ans h h' = absurd (not-suc-le-zero h)
  body_budget (suc b) zero n e ts f ans h h' = absurd (not-suc-le-zero h')
  body_budget (suc b) (suc b') n (Update y) ts f ans h h' = then_less F f (child_at child n (Update y) ts (world f ans)) _ _ (child_spends (Update y) ts n f ans) elim [
    | Running ↦ λ r t' f' ans' l. refl
    | Failure ↦ λ r t' f' ans' l. refl
    | Success ↦ λ r t' f' ans' l. body_budget b b' (next n ts) (Update r) (moved n t' ts) f' ans' (omega arith) (omega arith)
  ]
  body_budget (suc b) (suc b') n Other ts f ans h h' = refl

  pub loop_budget : (b b' : ℕ) (whole : Event) (n : ℕ) (e : Event) (c : Tree) (ts : Forest) (f : ℕ) (ans : Answers) → f < b → f < b'
      → while_all child b whole n e c ts (world f ans) ≡ while_all child b' whole n e c ts (world f ans)
  unfolding while_all
  loop_budget zero b' whole n e c ts f ans h h' = absurd (not-suc-le-zero h)
  loop_budget (suc b) zero whole n e c ts f ans h h' = absurd (not-suc-le-zero h')
  loop_budget (suc b) (suc b') whole zero e c ts f ans h h' = then_less F f (child c whole (world f ans)) _ _ (g c whole f ans) elim [
    | Running ↦ λ r c' f' ans' l. loop_budget b b' whole 1 e c' ts f' ans' (omega arith) (omega arith)
    | Success ↦ λ r c' f' ans' l. refl
    | Failure ↦ λ r c' f' ans' l. refl
  ]
  loop_budget (suc b) (suc b') whole (suc n) e c ts f ans h h' = then_less F f (child_at child n e ts (world f ans)) _ _ (child_spends e ts n f ans) elim [
    | Running ↦ λ r t' f' ans' l. refl
    | Failure ↦ λ r t' f' ans' l. refl
    | Success ↦ λ r t' f' ans' l. loop_budget b b' whole (cond (ltb (suc n) (count ts)) (suc (suc n)) 0) (rest r e) c (moved n t' ts) f' ans' (omega arith) (omega arith)
  ]

  while_budget : (b b' : ℕ) (c : Cell) (e : Event) (ts : Forest) (f : ℕ) (ans : Answers) → f < b → f < b' → while_with b child c e ts (world f ans) ≡ while_with b' child c e ts (world f ans)
  while_budget b b' c e [] f ans h h' = refl
  while_budget b b' c e (t ◂ ts) f ans h h' = then_less F f (child t e (world f ans)) _ _ (g t e f ans) elim [
    | Running ↦ λ r t' f' ans' l. ap (λ (o : Out (ℕ × Forest)). o ▸ λ s'' r'' y w''. done s'' r'' (with_place y.0 c, t' ◂ y.1) w'')
        (body_budget b b' c.place e ts f' ans' (omega arith) (omega arith))
    | Success ↦ λ r t' f' ans' l. refl
    | Failure ↦ λ r t' f' ans' l. refl
  ]

  while_all_budget : (b b' : ℕ) (c : Cell) (e : Event) (ts : Forest) (f : ℕ) (ans : Answers) → f < b → f < b'
      → while_all_with b child c e ts (world f ans) ≡ while_all_with b' child c e ts (world f ans)
  while_all_budget b b' c e [] f ans h h' = refl
  while_all_budget b b' c e (t ◂ ts) f ans h h' = ap (λ (o : Out (ℕ × Forest)). at_place c o) (loop_budget b b' e c.place e t ts f ans h h')

  -- a rule with any budget above the fuel
  with_budget : (b b' : ℕ) (k : Kind) (n : ℕ) (l : Float) (c : Cell) (e : Event) (ts : Forest) (f : ℕ) (ans : Answers) → f < b → f < b'
      → rule_with b F child k n l c e ts (world f ans) ≡ rule_with b' F child k n l c e ts (world f ans)
  unfolding rule_with
  with_budget b b' k n l c e ts f ans h h' = λ i. cond (is k While) (while_budget b b' c e ts f ans h h' i)
      (cond (is k WhileAll) (while_all_budget b b' c e ts f ans h h' i) (rule F child k n l c e ts (world f ans)))

  pub rule_budget : (b : ℕ) (k : Kind) (n : ℕ) (l : Float) (c : Cell) (e : Event) (ts : Forest) (f : ℕ) (ans : Answers) → f < b
      → rule F child k n l c e ts (world f ans) ≡ rule_with b F child k n l c e ts (world f ans)
  rule_budget b k n l c e ts f ans h = rule_with_lem F child k n l c e ts f ans ∙ with_budget (suc f) b k n l c e ts f ans (omega arith) h
