-- A run of bit patterns as times.
use Rattle.std.specs.Prelude.{List, [], ◌∷◌, ℕ, zero, suc, Float}
use Rattle.std.specs.Float.{binary64}
use Rattle.std.specs.Float.Ieee.{of_bits}

-- the first n patterns as times in front of what a run held, as many as both have
abbrev pub timed : ℕ → List ℕ → List Float → List Float
timed zero bs ts = ts
timed (suc n) [] ts = ts
timed (suc n) (b ∷ bs) [] = []
timed (suc n) (b ∷ bs) (t ∷ ts) = of_bits binary64 b ∷ timed n bs ts
