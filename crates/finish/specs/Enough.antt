-- The finish bound as a set of numbers. `Enough d s k`: k ticks of d or more are enough for a fresh tree of the shape s.
-- `Still d t k`: they are still enough for the tree t, with the cells that it has.
use Rattle.std.specs.Prelude.{Bool, true, false, ◌⊎◌, ℕ, zero, suc, ◌+◌, ◌*◌, ◌≤◌}
use Rattle.rules.specs.declared.behavior.Kind.TheVariants.{Wait, WaitForever, Action, Invert, AlwaysSucceed, Timeout, Select, If, Sequence}
use Rattle.rules.specs.declared.behavior.Kind.TheVariants.{MemorylessSequence, MemorylessSelector, While, WhileAll, WhenAll, WhenAny, After, Race}
use Rattle.rules.specs.Tree.{Tree, node, Forest, marked}
use Rattle.rules.specs.Tree
use Rattle.rules.specs.Bound.{num}
use Rattle.laws.specs.Shape.{Shape, shp, Shapes, [], ◌◂◌, shapes}

abbrev pub unless : Bool → Type 0 → Type 0
unless true X = Unit {0}
unless false X = X

module _ (d : ℕ) where
  abbrev mutual
    pub Enough : Shape → ℕ → Type 0
    Enough (shp Wait n l ts) k = (1 ≤ k) × (num l ≤ k * d)
    Enough (shp WaitForever n l ts) k = ⊥
    Enough (shp Action n l ts) k = ⊥
    Enough (shp Invert n l ts) k = EnoughFirst ts k
    Enough (shp AlwaysSucceed n l ts) k = EnoughFirst ts k
    Enough (shp Timeout n l ts) k = ((1 ≤ k) × (num l ≤ k * d)) ⊎ EnoughFirst ts k
    Enough (shp Select n l ts) k = EnoughSum ts k
    Enough (shp If n l ts) k = EnoughIf ts k
    Enough (shp Sequence n l ts) k = EnoughSum ts k
    Enough (shp MemorylessSequence n l ts) k = EnoughEmpty ts k
    Enough (shp MemorylessSelector n l ts) k = EnoughEmpty ts k
    Enough (shp While n l ts) k = EnoughFirst ts k
    Enough (shp WhileAll n l ts) k = EnoughLoop ts k
    Enough (shp WhenAll n l ts) k = EnoughMax ts k
    Enough (shp WhenAny n l ts) k = EnoughMax ts k
    Enough (shp After n l ts) k = EnoughMax ts k
    Enough (shp Race n l ts) k = EnoughMin ts k

    pub EnoughFirst : Shapes → ℕ → Type 0
    EnoughFirst [] k = ⊥
    EnoughFirst (s ◂ ss) k = Enough s k

    pub EnoughEmpty : Shapes → ℕ → Type 0
    EnoughEmpty [] k = 1 ≤ k
    EnoughEmpty (s ◂ ss) k = ⊥

    pub EnoughSum : Shapes → ℕ → Type 0
    EnoughSum [] k = Unit {0}
    EnoughSum (s ◂ ss) k = (a : ℕ) × (b : ℕ) × (a + b ≤ k) × Enough s a × EnoughSum ss b

    pub EnoughMax : Shapes → ℕ → Type 0
    EnoughMax [] k = 1 ≤ k
    EnoughMax (s ◂ ss) k = Enough s k × EnoughMax ss k

    pub EnoughMin : Shapes → ℕ → Type 0
    EnoughMin [] k = ⊥
    EnoughMin (s ◂ ss) k = Enough s k ⊎ EnoughMin ss k

    pub EnoughIf : Shapes → ℕ → Type 0
    EnoughIf [] k = ⊥
    EnoughIf (s ◂ ss) k = (a : ℕ) × (b : ℕ) × (a + b ≤ k) × Enough s a × EnoughMax ss b

    pub EnoughLoop : Shapes → ℕ → Type 0
    EnoughLoop [] k = ⊥
    EnoughLoop (s ◂ ss) k = (a : ℕ) × (b : ℕ) × (a * b ≤ k) × (1 ≤ b) × Enough s a × EnoughSum ss b

  -- the live tree
  abbrev mutual
    pub Still : Tree → ℕ → Type 0
    Still (node Wait n l c b ts) k = (1 ≤ k) × (num l ≤ num c.time + k * d)
    Still (node WaitForever n l c b ts) k = ⊥
    Still (node Action n l c b ts) k = ⊥
    Still (node Invert n l c b ts) k = StillFirst ts k
    Still (node AlwaysSucceed n l c b ts) k = StillFirst ts k
    Still (node Timeout n l c b ts) k = ((1 ≤ k) × (num l ≤ num c.time + k * d)) ⊎ StillFirst ts k
    Still (node Select n l c b ts) k = StillSum ts c.place k
    Still (node If n l c b ts) k = StillIf ts c.place k
    Still (node Sequence n l c b ts) k = StillSum ts c.place k
    Still (node MemorylessSequence n l c b ts) k = EnoughEmpty (shapes ts) k
    Still (node MemorylessSelector n l c b ts) k = EnoughEmpty (shapes ts) k
    Still (node While n l c b ts) k = StillFirst ts k
    Still (node WhileAll n l c b ts) k = StillLoop ts c.place k
    Still (node WhenAll n l c b ts) k = StillUnmarked ts k
    Still (node WhenAny n l c b ts) k = StillUnmarked ts k
    Still (node After n l c b ts) k = StillFrom ts c.place k
    Still (node Race n l c b ts) k = StillMin ts k

    pub StillFirst : Forest → ℕ → Type 0
    StillFirst Tree.[] k = ⊥
    StillFirst (Tree.◌◂◌ t ts) k = Still t k

    -- the child at the place, then the bounds of those behind it
    pub StillSum : Forest → ℕ → ℕ → Type 0
    StillSum Tree.[] p k = ⊥
    StillSum (Tree.◌◂◌ t ts) zero k = (a : ℕ) × (b : ℕ) × (a + b ≤ k) × Still t a × EnoughSum (shapes ts) b
    StillSum (Tree.◌◂◌ t ts) (suc p) k = StillSum ts p k

    pub StillAt : Forest → ℕ → ℕ → Type 0
    StillAt Tree.[] p k = ⊥
    StillAt (Tree.◌◂◌ t ts) zero k = Still t k
    StillAt (Tree.◌◂◌ t ts) (suc p) k = StillAt ts p k

    pub StillIf : Forest → ℕ → ℕ → Type 0
    StillIf Tree.[] p k = ⊥
    StillIf (Tree.◌◂◌ t ts) zero k = (a : ℕ) × (b : ℕ) × (a + b ≤ k) × Still t a × EnoughMax (shapes ts) b
    StillIf (Tree.◌◂◌ t ts) (suc p) k = (a : ℕ) × (a ≤ k) × StillAt ts p a

    pub StillUnmarked : Forest → ℕ → Type 0
    StillUnmarked Tree.[] k = 1 ≤ k
    StillUnmarked (Tree.◌◂◌ t ts) k = unless (marked t) (Still t k) × StillUnmarked ts k

    pub StillAll : Forest → ℕ → Type 0
    StillAll Tree.[] k = 1 ≤ k
    StillAll (Tree.◌◂◌ t ts) k = Still t k × StillAll ts k

    pub StillFrom : Forest → ℕ → ℕ → Type 0
    StillFrom Tree.[] p k = ⊥
    StillFrom (Tree.◌◂◌ t ts) zero k = Still t k × StillAll ts k
    StillFrom (Tree.◌◂◌ t ts) (suc p) k = StillFrom ts p k

    pub StillMin : Forest → ℕ → Type 0
    StillMin Tree.[] k = ⊥
    StillMin (Tree.◌◂◌ t ts) k = Still t k ⊎ StillMin ts k

    -- the condition is due; or a body child is in progress, and the condition is looked at when the body is through
    pub StillLoop : Forest → ℕ → ℕ → Type 0
    StillLoop Tree.[] p k = ⊥
    StillLoop (Tree.◌◂◌ t ts) zero k = (a : ℕ) × (b : ℕ) × (a * b ≤ k) × (1 ≤ b) × Still t a × EnoughSum (shapes ts) b
    StillLoop (Tree.◌◂◌ t ts) (suc p) k = (a : ℕ) × (b : ℕ) × (c : ℕ) × (a * b + c ≤ k) × (1 ≤ b) × Still t (suc a) × EnoughSum (shapes ts) b × StillSum ts p c
