-- The finish bound, worked out from the leaves of the tree upward: document 01, "The finish bound".
use Rattle.std.specs.Prelude.{ℕ, ◌+◌, ◌-◌, ◌*◌, ◌/◌, ◌^◌, min, max, Bool, true, cond, not, ◌&&◌, List, ◌==◌, nat_le, Float}
use Rattle.std.specs.Float.{Format, binary32, binary64}
use Rattle.std.specs.Float.Ieee.{in_unsigned, to_unsigned}
use Rattle.rules.specs.declared.behavior.Kind.TheVariants.{Wait, WaitForever, Action, Invert, AlwaysSucceed, Timeout, Select, If, Sequence}
use Rattle.rules.specs.declared.behavior.Kind.TheVariants.{MemorylessSequence, MemorylessSelector, While, WhileAll, WhenAll, WhenAny, After, Race}
use Rattle.rules.specs.declared.answer.BoundAnswer.{BoundAnswer}
use Rattle.rules.specs.declared.answer.BoundAnswer.TheVariants as says
use Rattle.rules.specs.Kinds.{is, timed}
use Rattle.rules.specs.Tree.{Tree, node, Forest, [], ◌◂◌, count}
use Rattle.rules.specs.Table.{good, bad, table}

-- whole times go up to 2 ^ 40, of f32 to 2 ^ 20
abbrev pub cap : Format → ℕ
cap binary32 = 2 ^ 20
cap binary64 = 2 ^ 40

-- the whole number of a time
unfoldable pub num : Float → ℕ
num x = to_unsigned 64 x

unfoldable pub whole_time : Format → Float → Bool
unfolding num in_unsigned
whole_time F x = in_unsigned F 64 x && nat_le (num x) (cap F)

-- a number of ticks, or none
pub data Lim : Type 0 where
  never : Lim
  within : ℕ → Lim

-- "a sum, product or largest with none in it is none"
abbrev pub sum_l : Lim → Lim → Lim
sum_l never b = never
sum_l (within a) never = never
sum_l (within a) (within b) = within (a + b)

abbrev pub max_l : Lim → Lim → Lim
max_l never b = never
max_l (within a) never = never
max_l (within a) (within b) = within (max a b)

abbrev pub times_l : Lim → Lim → Lim
times_l never b = never
times_l (within a) never = never
times_l (within a) (within b) = within (a * b)

-- the smallest that one has
abbrev pub min_l : Lim → Lim → Lim
min_l never b = b
min_l (within a) never = within a
min_l (within a) (within b) = within (min a b)

-- "the larger of 1 and L/d rounded up"
abbrev pub own_ticks : ℕ → Float → ℕ
own_ticks d l = max 1 ((num l + (d - 1)) / d)

module _ (d : ℕ) where
  unfoldable mutual
    pub bound : Tree → Lim
    bound (node Wait n l c b ts) = within (own_ticks d l)
    bound (node WaitForever n l c b ts) = never
    bound (node Action n l c b ts) = never
    bound (node Invert n l c b ts) = first ts
    bound (node AlwaysSucceed n l c b ts) = first ts
    bound (node Timeout n l c b ts) = min_l (within (own_ticks d l)) (first ts)
    bound (node Select n l c b ts) = sum ts
    bound (node If n l c b ts) = first_and_largest ts
    bound (node Sequence n l c b ts) = sum ts
    bound (node MemorylessSequence n l c b ts) = empty ts
    bound (node MemorylessSelector n l c b ts) = empty ts
    bound (node While n l c b ts) = first ts
    bound (node WhileAll n l c b ts) = first_times_sum ts
    bound (node WhenAll n l c b ts) = largest ts
    bound (node WhenAny n l c b ts) = largest ts
    bound (node After n l c b ts) = largest ts
    bound (node Race n l c b ts) = smallest ts

    pub first : Forest → Lim
    first [] = never
    first (t ◂ ts) = bound t

    pub empty : Forest → Lim
    empty [] = within 1
    empty (t ◂ ts) = never

    pub sum : Forest → Lim
    sum [] = within 0
    sum (t ◂ ts) = sum_l (bound t) (sum ts)

    pub largest : Forest → Lim
    largest [] = within 1
    largest (t ◂ ts) = max_l (bound t) (largest ts)

    pub smallest : Forest → Lim
    smallest [] = never
    smallest (t ◂ ts) = min_l (bound t) (smallest ts)

    pub first_and_largest : Forest → Lim
    first_and_largest [] = never
    first_and_largest (t ◂ ts) = sum_l (bound t) (largest ts)

    pub first_times_sum : Forest → Lim
    first_times_sum [] = never
    first_times_sum (t ◂ ts) = times_l (bound t) (sum ts)

-- every limit is whole and at most the cap, and no After is without children
module _ (F : Format) where
  unfoldable mutual
    unfolding whole_time

    pub boundable : Tree → Bool
    boundable (node k n l c b ts) = cond (timed k) (whole_time F l) true && not (is k After && count ts == 0) && boundables ts

    pub boundables : Forest → Bool
    boundables [] = true
    boundables (t ◂ ts) = boundable t && boundables ts

-- the step: whole, 1 to the cap
abbrev pub step_allowed : Format → Float → Bool
step_allowed F d = whole_time F d && nat_le 1 (num d)

-- the largest number that is told
abbrev pub most_ticks : ℕ
most_ticks = 2 ^ 53

abbrev pub told : Lim → BoundAnswer
told never = says.Never
told (within n) = cond (nat_le n most_ticks) (says.Within n) says.Above

-- 3, then 8, then the root's answer
unfoldable pub bound_call : Format → List ℕ → List ℕ → List Float → Float → BoundAnswer
unfolding table whole_time boundable bound
bound_call F kinds ns limits d = elim (table kinds ns limits) [
  | bad p ↦ says.BadTable p
  | good t ↦ cond (step_allowed F d && boundable F t) (told (bound (num d) t)) says.NoBound
]
