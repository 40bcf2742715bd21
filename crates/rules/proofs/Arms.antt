-- What holds in an arm of a `match` on a kind: it holds of the kind of each number that the arm has.
use Rattle.std.proofs.Common.{◌≡◌, ℕ, List, [], ◌∷◌, sym, refl, ap, ◌∙◌, subst, inl, inr}
use types.Run.{OneOf}
use denote.Enum.Declared.{tag_of}
use Rattle.rules.specs.declared.behavior.Kind.{Kind}
use Rattle.rules.specs.declared.behavior.Kind.TheVariants.{Wait, WaitForever, Action, Invert, AlwaysSucceed, Timeout, Select, If, Sequence}
use Rattle.rules.specs.declared.behavior.Kind.TheVariants.{MemorylessSequence, MemorylessSelector, While, WhileAll, WhenAll, WhenAny, After, Race}
use Rattle.rules.specs.Kinds.{kind_of}
use Rattle.rules.specs.contracts.behavior.Kind.{the_type}

kind_of_tag : (k : Kind) → kind_of (tag_of the_type k) ≡ k
unfolding kind_of
kind_of_tag Wait = refl
kind_of_tag WaitForever = refl
kind_of_tag Action = refl
kind_of_tag Invert = refl
kind_of_tag AlwaysSucceed = refl
kind_of_tag Timeout = refl
kind_of_tag Select = refl
kind_of_tag If = refl
kind_of_tag Sequence = refl
kind_of_tag MemorylessSequence = refl
kind_of_tag MemorylessSelector = refl
kind_of_tag While = refl
kind_of_tag WhileAll = refl
kind_of_tag WhenAll = refl
kind_of_tag WhenAny = refl
kind_of_tag After = refl
kind_of_tag Race = refl

module _ (Q : Kind → Type 0) where
  abbrev pub Each : List ℕ → Type 0
  Each [] = Unit {0}
  Each (n ∷ ns) = Q (kind_of n) × Each ns

  at : (n : ℕ) (k : Kind) → tag_of the_type k ≡ n → Q (kind_of n) → Q k
  at n k e q = subst Q (ap kind_of (sym e) ∙ kind_of_tag k) q

  pub arm : (ns : List ℕ) (k : Kind) → OneOf ns (tag_of the_type k) → Each ns → Q k
  arm [] k h es = absurd h
  arm (n ∷ []) k h es = at n k h es.0
  arm (n ∷ (m ∷ ns)) k (inl h) es = at n k h es.0
  arm (n ∷ (m ∷ ns)) k (inr h) es = arm (m ∷ ns) k h es.1

-- an arm that returns v
pub gives :
    {A : Type 0} (f : Kind → A) {v : A} (ns : List ℕ) (k : Kind) → OneOf ns (tag_of the_type k) → Each (λ k. v ≡ f k) ns → v ≡ f k
gives f {v} = arm (λ k. v ≡ f k)
