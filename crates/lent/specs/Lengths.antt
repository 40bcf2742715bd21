-- A run that is lent as several slices is as long as the shortest.
use Rattle.std.specs.Prelude.{◌≡◌, ℕ, min, List, length, Float}
use Rattle.std.proofs.Common.{arith}
use Rattle.rules.specs.Table.{rows}
use Rattle.rules.specs.Cells.{cells}
use Rattle.rules.specs.Call.{Run, run_length, answers}

pub rows_length : (ks ns : List ℕ) (ls : List Float) → length (rows ks ns ls) ≡ min (length ks) (min (length ns) (length ls))
unfolding rows
rows_length List.[] ns ls = omega arith
rows_length (List.◌∷◌ k ks) List.[] ls = omega arith
rows_length (List.◌∷◌ k ks) (List.◌∷◌ n ns) List.[] = omega arith
rows_length (List.◌∷◌ k ks) (List.◌∷◌ n ns) (List.◌∷◌ l ls) = omega (arith, rows_length ks ns ls)

pub answers_length : (ss : List ℕ) (ls : List Float) → length (answers ss ls) ≡ min (length ss) (length ls)
unfolding answers
answers_length List.[] ls = omega arith
answers_length (List.◌∷◌ s ss) List.[] = omega arith
answers_length (List.◌∷◌ s ss) (List.◌∷◌ l ls) = omega (arith, answers_length ss ls)

pub cells_length : (xs : List Float) (ps ms : List ℕ) → length (cells xs ps ms) ≡ min (length xs) (min (length ps) (length ms))
unfolding cells
cells_length List.[] ps ms = omega arith
cells_length (List.◌∷◌ x xs) List.[] ms = omega arith
cells_length (List.◌∷◌ x xs) (List.◌∷◌ p ps) List.[] = omega arith
cells_length (List.◌∷◌ x xs) (List.◌∷◌ p ps) (List.◌∷◌ m ms) = omega (arith, cells_length xs ps ms)

pub run_length_lem : (r : Run) → run_length r ≡ min (min (length r.times) (min (length r.places) (length r.marks))) (length r.sinces)
run_length_lem r = omega (arith, cells_length r.times r.places r.marks)
