-- `Shaped`: each node has the children that its kind needs, and whole limits.
use Rattle.std.specs.Float.{Format}
use Rattle.rules.specs.declared.behavior.Kind.TheVariants.{Wait, WaitForever, Action, Invert, AlwaysSucceed, Timeout, Select, If, Sequence}
use Rattle.rules.specs.declared.behavior.Kind.TheVariants.{MemorylessSequence, MemorylessSelector, While, WhileAll, WhenAll, WhenAny, After, Race}
use Rattle.laws.specs.Shape.{Shape, shp, Shapes, [], ◌◂◌}
use Rattle.floats.specs.Times.{W}

module _ (F : Format) where
  -- the children that a kind must have, and whole limits
  abbrev mutual
    pub Shaped : Shape → Type 0
    Shaped (shp Wait n l ts) = W F l
    Shaped (shp WaitForever n l ts) = Unit {0}
    Shaped (shp Action n l ts) = Unit {0}
    Shaped (shp Invert n l ts) = Shaped₁ ts
    Shaped (shp AlwaysSucceed n l ts) = Shaped₁ ts
    Shaped (shp Timeout n l ts) = W F l × Shaped₁ ts
    Shaped (shp Select n l ts) = Shaped₁ ts
    Shaped (shp If n l ts) = Shaped₃ ts
    Shaped (shp Sequence n l ts) = Shaped₁ ts
    Shaped (shp MemorylessSequence n l ts) = Shapeds ts
    Shaped (shp MemorylessSelector n l ts) = Shapeds ts
    Shaped (shp While n l ts) = Shaped₂ ts
    Shaped (shp WhileAll n l ts) = Shaped₂ ts
    Shaped (shp WhenAll n l ts) = Shapeds ts
    Shaped (shp WhenAny n l ts) = Shapeds ts
    Shaped (shp After n l ts) = Shaped₁ ts
    Shaped (shp Race n l ts) = Shapeds ts

    pub Shapeds : Shapes → Type 0
    Shapeds [] = Unit {0}
    Shapeds (s ◂ ss) = Shaped s × Shapeds ss

    -- at least 1, 2, 3 children
    pub Shaped₁ : Shapes → Type 0
    Shaped₁ [] = ⊥
    Shaped₁ (s ◂ ss) = Shaped s × Shapeds ss

    pub Shaped₂ : Shapes → Type 0
    Shaped₂ [] = ⊥
    Shaped₂ (s ◂ ss) = Shaped s × Shaped₁ ss

    pub Shaped₃ : Shapes → Type 0
    Shaped₃ [] = ⊥
    Shaped₃ (s ◂ ss) = Shaped s × Shaped₂ ss
