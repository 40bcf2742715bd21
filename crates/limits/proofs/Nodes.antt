-- A node's bound in each arm: what the operations give of clipped ticks is the clipped bound.
use Rattle.std.proofs.Common.{◌≡◌, ℕ, refl, ap, ◌∙◌}
use lib.Ieee.{Float}
use Rattle.rules.specs.declared.behavior.Kind.TheVariants.{Select, If, Sequence}
use Rattle.rules.specs.declared.behavior.Kind.TheVariants.{WhileAll, WhenAll, WhenAny, After, Race}
use Rattle.rules.specs.declared.behavior.Kind.{Kind}
use Rattle.rules.specs.Bound.{Lim, sum_l, max_l, min_l, times_l, bound, sum, largest, smallest}
use Rattle.rules.specs.Tree.{Cell, Tree, node, Forest, [], ◌◂◌}
use Rattle.limits.specs.declared.node.Join.{Join}
use Rattle.limits.specs.declared.node.Join.TheVariants.{Sum, Largest, Smallest, Product}
use Rattle.limits.specs.Ticks.{Ticks, lim, clipped}
use Rattle.limits.specs.Node.{join_of, none_l, join_l, joined, Together}
use Rattle.limits.proofs.Laws.{clip_join}

-- ---- children counted together
joined_as : (j : Join) (d : ℕ) (all : Forest → Lim)
    → none_l j ≡ all []
    → ((t : Tree) (ts : Forest) → join_l j (bound d t) (all ts) ≡ all (t ◂ ts))
    → (ts : Forest) → joined j d ts ≡ all ts
unfolding joined
joined_as j d all none one [] = none
joined_as j d all none one (t ◂ ts) = ap (join_l j (bound d t)) (joined_as j d all none one ts) ∙ one t ts

joined_sum : (d : ℕ) (ts : Forest) → joined Sum d ts ≡ sum d ts
unfolding bound
joined_sum d = joined_as Sum d (sum d) refl (λ t ts. refl)

joined_largest : (d : ℕ) (ts : Forest) → joined Largest d ts ≡ largest d ts
unfolding bound
joined_largest d = joined_as Largest d (largest d) refl (λ t ts. refl)

joined_smallest : (d : ℕ) (ts : Forest) → joined Smallest d ts ≡ smallest d ts
unfolding bound
joined_smallest d = joined_as Smallest d (smallest d) refl (λ t ts. refl)

-- a node with children counts the first and the others together
abbrev pub Counts : Kind → Join → Type 0
Counts k j = (d n : ℕ) (l : Float) (c : Cell) (b : ℕ) (t : Tree) (ts : Forest) → join_l j (bound d t) (joined (join_of k) d ts) ≡ bound d (node k n l c b (t ◂ ts))

pub counts :
    Counts Select Sum × Counts If Sum × Counts Sequence Sum × Counts WhileAll Product ×
    Counts WhenAll Largest × Counts WhenAny Largest × Counts After Largest × Counts Race Smallest
unfolding bound
counts = (
  λ d n l c b t ts. ap (sum_l (bound d t)) (joined_sum d ts),
  λ d n l c b t ts. ap (sum_l (bound d t)) (joined_largest d ts),
  λ d n l c b t ts. ap (sum_l (bound d t)) (joined_sum d ts),
  λ d n l c b t ts. ap (times_l (bound d t)) (joined_sum d ts),
  λ d n l c b t ts. ap (max_l (bound d t)) (joined_largest d ts),
  λ d n l c b t ts. ap (max_l (bound d t)) (joined_largest d ts),
  λ d n l c b t ts. ap (max_l (bound d t)) (joined_largest d ts),
  λ d n l c b t ts. ap (min_l (bound d t)) (joined_smallest d ts),
)

module _ (own first rest : Ticks) where
  pub counted : (r : Ticks) (k : Kind) (j : Join) → Counts k j → r ≡ clipped (join_l j (lim first) (lim rest)) → Together k own first rest r
  counted r k j law e d n l c b t ts m o p q = clip_join j first rest r (bound d t) (joined (join_of k) d ts) e p q ∙ ap clipped (law d n l c b t ts)
