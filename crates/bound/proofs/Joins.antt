-- Children counted from the first on, as the code does, and from the last on, as the definition does: the same.
use mathlib.Core.Path.{◌≡◌, refl, sym, ap, ◌∙◌}
use Prim.Native.Nat.{ℕ, ◌+◌, ◌*◌, max}
use native.Mathlib.Omega.{arith}
use Rattle.rules.specs.Tree.{Forest, [], ◌◂◌}
use Rattle.rules.specs.Bound.{Lim, never, within, sum_l, max_l, times_l, bound}
use Rattle.limits.specs.declared.node.Join.{Join}
use Rattle.limits.specs.declared.node.Join.TheVariants.{Sum, Largest, Smallest, Product}
use Rattle.limits.specs.Node.{none_l, join_l, joined}

-- from the first on, onto what there is
unfoldable pub onto : Join → ℕ → Lim → Forest → Lim
onto j d a [] = a
onto j d a (t ◂ ts) = onto j d (join_l j a (bound d t)) ts

-- an operation that gives none where one is none
module _ (op : Lim → Lim → Lim) (f : ℕ → ℕ → ℕ)
    (both : (a b : ℕ) → op (within a) (within b) ≡ within (f a b)) (left : (x : Lim) → op never x ≡ never) (right : (a : ℕ) → op (within a) never ≡ never) where
  strict_turn : ((a b : ℕ) → f a b ≡ f b a) → (x y : Lim) → op x y ≡ op y x
  strict_turn law never never = refl
  strict_turn law never (within b) = left (within b) ∙ sym (right b)
  strict_turn law (within a) never = right a ∙ sym (left (within a))
  strict_turn law (within a) (within b) = both a b ∙ ap within (law a b) ∙ sym (both b a)

  strict_swap : ((a b c : ℕ) → f (f a b) c ≡ f (f a c) b) → (x y z : Lim) → op (op x y) z ≡ op (op x z) y
  strict_swap law never y z = simp left
  strict_swap law (within a) never never = refl
  strict_swap law (within a) never (within c) = simp (both, left, right)
  strict_swap law (within a) (within b) never = simp (both, left, right)
  strict_swap law (within a) (within b) (within c) = simp both (ap within (law a b c))

turn : (j : Join) (a b : Lim) → join_l j a b ≡ join_l j b a
turn Sum a b = strict_turn sum_l ◌+◌ (λ a b. refl) (λ x. refl) (λ a. refl) (λ a b. omega arith) a b
turn Largest a b = strict_turn max_l max (λ a b. refl) (λ x. refl) (λ a. refl) (λ a b. omega arith) a b
turn Product a b = strict_turn times_l ◌*◌ (λ a b. refl) (λ x. refl) (λ a. refl) (λ a b. omega arith) a b
turn Smallest never never = refl
turn Smallest never (within b) = refl
turn Smallest (within a) never = refl
turn Smallest (within a) (within b) = ap within (omega arith)

swap : (j : Join) (a b c : Lim) → join_l j (join_l j a b) c ≡ join_l j (join_l j a c) b
swap Sum a b c = strict_swap sum_l ◌+◌ (λ a b. refl) (λ x. refl) (λ a. refl) (λ a b c. omega arith) a b c
swap Largest a b c = strict_swap max_l max (λ a b. refl) (λ x. refl) (λ a. refl) (λ a b c. omega arith) a b c
swap Product a b c = strict_swap times_l ◌*◌ (λ a b. refl) (λ x. refl) (λ a. refl) (λ a b c. omega arith) a b c
swap Smallest never b c = turn Smallest b c
swap Smallest (within a) never never = refl
swap Smallest (within a) never (within c) = refl
swap Smallest (within a) (within b) never = refl
swap Smallest (within a) (within b) (within c) = ap within (omega arith)

out : (j : Join) (d : ℕ) (a b : Lim) (ts : Forest) → onto j d (join_l j a b) ts ≡ join_l j b (onto j d a ts)
unfolding onto
out j d a b [] = turn j a b
out j d a b (t ◂ ts) = ap (λ (x : Lim). onto j d x ts) (swap j a b (bound d t)) ∙ out j d (join_l j a (bound d t)) b ts

pub onto_all : (j : Join) (d : ℕ) (ts : Forest) → onto j d (none_l j) ts ≡ joined j d ts
unfolding onto joined
onto_all j d [] = refl
onto_all j d (t ◂ ts) = out j d (none_l j) (bound d t) ts ∙ ap (join_l j (bound d t)) (onto_all j d ts)
