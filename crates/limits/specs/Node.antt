-- A node's bound, from its own limit's ticks, its first child's and its other children's together.
use Rattle.std.specs.Prelude.{◌≡◌, ℕ, ◌≤◌, Bool, true, cond, not, ◌&&◌, ◌==◌, Float}
use Rattle.std.specs.Float.{Format}
use Rattle.rules.specs.declared.behavior.Kind.{Kind}
use Rattle.rules.specs.declared.behavior.Kind.TheVariants.{Wait, WaitForever, Action, Invert, AlwaysSucceed, Timeout, Select, If, Sequence}
use Rattle.rules.specs.declared.behavior.Kind.TheVariants.{MemorylessSequence, MemorylessSelector, While, WhileAll, WhenAll, WhenAny, After, Race}
use Rattle.rules.specs.Kinds.{is, timed, fewest, most}
use Rattle.rules.specs.Tree.{Cell, Tree, node, Forest, [], ◌◂◌}
use Rattle.rules.specs.Bound.{Lim, never, within, sum_l, max_l, min_l, times_l, whole_time, own_ticks, bound}
use Rattle.limits.specs.declared.node.Join.{Join}
use Rattle.limits.specs.declared.node.Join.TheVariants.{Sum, Largest, Smallest, Product}
use Rattle.limits.specs.Ticks.{Ticks, clipped}

-- how the children behind the first count together
abbrev pub join_of : Kind → Join
join_of Wait = Smallest
join_of WaitForever = Smallest
join_of Action = Smallest
join_of Invert = Smallest
join_of AlwaysSucceed = Smallest
join_of Timeout = Smallest
join_of Select = Sum
join_of If = Largest
join_of Sequence = Sum
join_of MemorylessSequence = Smallest
join_of MemorylessSelector = Smallest
join_of While = Smallest
join_of WhileAll = Sum
join_of WhenAll = Largest
join_of WhenAny = Largest
join_of After = Largest
join_of Race = Smallest

abbrev pub none_l : Join → Lim
none_l Sum = within 0
none_l Largest = within 1
none_l Smallest = never
none_l Product = within 1

abbrev pub join_l : Join → Lim → Lim → Lim
join_l Sum = sum_l
join_l Largest = max_l
join_l Smallest = min_l
join_l Product = times_l

-- trees counted together
unfoldable pub joined : Join → ℕ → Forest → Lim
unfolding bound
joined j d [] = none_l j
joined j d (t ◂ ts) = join_l j (bound d t) (joined j d ts)

-- r is the bound of every node without children that is allowed so
abbrev pub Alone : Kind → Ticks → Ticks → Type 0
Alone k own r = (d n : ℕ) (l : Float) (c : Cell) (b : ℕ) → fewest k ≡ 0 → (timed k ≡ true → own ≡ clipped (within (own_ticks d l))) → r ≡ clipped (bound d (node k n l c b []))

-- r is the bound of every node with these children that is allowed so
abbrev pub Together : Kind → Ticks → Ticks → Ticks → Ticks → Type 0
Together k own first rest r =
    (d n : ℕ) (l : Float) (c : Cell) (b : ℕ) (t : Tree) (ts : Forest)
    → 1 ≤ most k
    → (timed k ≡ true → own ≡ clipped (within (own_ticks d l)))
    → first ≡ clipped (bound d t)
    → rest ≡ clipped (joined (join_of k) d ts)
    → r ≡ clipped (bound d (node k n l c b (t ◂ ts)))

-- the row of a tree that has a bound
abbrev pub row_bounded : Format → Kind → ℕ → Float → Bool
row_bounded F k n l = cond (timed k) (whole_time F l) true && not (is k After && n == 0)
