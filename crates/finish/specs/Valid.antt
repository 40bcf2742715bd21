-- What every tree that started fresh and has not ended keeps to, in the parts that are in progress.
use Rattle.std.specs.Prelude.{Bool, true, false, not, ◌||◌, ℕ, zero, suc, ◌≤◌, T}
use Rattle.std.specs.Float.{Format}
use Rattle.rules.specs.declared.behavior.Kind.TheVariants.{Wait, WaitForever, Action, Invert, AlwaysSucceed, Timeout, Select, If, Sequence}
use Rattle.rules.specs.declared.behavior.Kind.TheVariants.{MemorylessSequence, MemorylessSelector, While, WhileAll, WhenAll, WhenAny, After, Race}
use Rattle.rules.specs.Tree.{Tree, node, Forest, [], ◌◂◌, marked}
use Rattle.rules.specs.Bound.{num}
use Rattle.floats.specs.Times.{W}
use Rattle.finish.specs.Enough.{unless}

-- one at least has no mark; or there is none
abbrev pub some_open : Forest → Bool
some_open [] = false
some_open (t ◂ ts) = not (marked t) || some_open ts

abbrev pub open_or_none : Forest → Bool
open_or_none [] = true
open_or_none (t ◂ ts) = some_open (t ◂ ts)

-- the body child in progress, by WhileAll's place: while the condition is due, the first
abbrev pub in_body : ℕ → ℕ
in_body zero = 0
in_body (suc p) = p

module _ (F : Format) where
  -- what a tree that has not ended keeps to
  abbrev mutual
    pub Valid : Tree → Type 0
    Valid (node Wait n l c b ts) = W F c.time × (num c.time ≤ num l)
    Valid (node WaitForever n l c b ts) = Unit {0}
    Valid (node Action n l c b ts) = Unit {0}
    Valid (node Invert n l c b ts) = ValidAt ts 0
    Valid (node AlwaysSucceed n l c b ts) = ValidAt ts 0
    Valid (node Timeout n l c b ts) = W F c.time × (num c.time ≤ num l) × ValidAt ts 0
    Valid (node Select n l c b ts) = ValidAt ts c.place
    Valid (node If n l c b ts) = ValidAt ts c.place
    Valid (node Sequence n l c b ts) = ValidAt ts c.place
    Valid (node MemorylessSequence n l c b ts) = Unit {0}
    Valid (node MemorylessSelector n l c b ts) = Unit {0}
    Valid (node While n l c b ts) = ValidLoop ts c.place
    Valid (node WhileAll n l c b ts) = ValidLoop ts (in_body c.place)
    Valid (node WhenAll n l c b ts) = ValidMarks ts × T (open_or_none ts)
    Valid (node WhenAny n l c b ts) = ValidMarks ts × T (open_or_none ts)
    Valid (node After n l c b ts) = ValidFrom ts c.place
    Valid (node Race n l c b ts) = ValidAll ts

    pub ValidAt : Forest → ℕ → Type 0
    ValidAt [] p = ⊥
    ValidAt (t ◂ ts) zero = Valid t
    ValidAt (t ◂ ts) (suc p) = ValidAt ts p

    pub ValidLoop : Forest → ℕ → Type 0
    ValidLoop [] p = ⊥
    ValidLoop (t ◂ ts) p = Valid t × ValidAt ts p

    pub ValidAll : Forest → Type 0
    ValidAll [] = Unit {0}
    ValidAll (t ◂ ts) = Valid t × ValidAll ts

    pub ValidFrom : Forest → ℕ → Type 0
    ValidFrom [] p = ⊥
    ValidFrom (t ◂ ts) zero = Valid t × ValidAll ts
    ValidFrom (t ◂ ts) (suc p) = ValidFrom ts p

    pub ValidMarks : Forest → Type 0
    ValidMarks [] = Unit {0}
    ValidMarks (t ◂ ts) = unless (marked t) (Valid t) × ValidMarks ts
