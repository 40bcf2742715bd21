-- Putting the working array back into the runs that a host lends.
use Rattle.std.specs.Prelude.{List, map, ◌++◌, ℕ, take, drop}
use Rattle.rules.specs.Call.{stamped}
use Rattle.work.specs.Word.{anew_of}

-- a field of the first n words put over a run
abbrev pub over : {A : Type 0} → (ℕ → A) → ℕ → List ℕ → List A → List A
over field n ws l = map field (take n ws) ++ drop n l

-- a tick's number put over a run, for each of the first n words that say that it made their node fresh
abbrev pub stamped_over : ℕ → ℕ → List ℕ → List ℕ → List ℕ
stamped_over this n ws l = stamped this (map anew_of (take n ws)) l ++ drop n l
