-- The first elements of a run put over those of another; what stands behind stays.
use Rattle.std.specs.Prelude.{List, ◌++◌, ℕ, take, drop}
use Rattle.rules.specs.Call.{Run, run}

abbrev pub onto : {A : Type 0} → ℕ → List A → List A → List A
onto n l m = take n l ++ drop n m

abbrev pub onto_cells : ℕ → Run → Run → Run
onto_cells n r s = run (onto n r.times s.times) (onto n r.places s.places) (onto n r.marks s.marks) (onto n r.sinces s.sinces)
