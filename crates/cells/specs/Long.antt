-- A run of n cells or more.
use Rattle.std.specs.Prelude.{◌≡◌, true, ℕ, ◌≤◌, leb, length}
use Rattle.std.proofs.Common.{arith, leb-true}
use Rattle.rules.specs.Call.{Run, run_length}
use Rattle.lent.specs.Lengths.{run_length_lem}

pub record Long (n : ℕ) (r : Run) : Type 0 where
  pub times : n ≤ length r.times
  pub places : n ≤ length r.places
  pub marks : n ≤ length r.marks
  pub sinces : n ≤ length r.sinces

-- a run that is found long enough
pub long : (n : ℕ) (r : Run) → leb n (run_length r) ≡ true → Long n r
long n r e =
    let h = leb-true n (run_length r) e in
    let m = run_length_lem r in
    record { times = omega arith; places = omega arith; marks = omega arith; sinces = omega arith }
