-- A quotient of 0: what is divided is less than 256.
use native.Mathlib.Omega.{arith}
use Rattle.work.specs.Word.{below_of, place_of, mark_of}
use Rattle.shown.proofs.state_in.Goals as goal

pub returns : goal.returns
unfolding below_of place_of mark_of
returns c = λ e. record { place = omega arith; mark = omega arith; below = omega arith }
