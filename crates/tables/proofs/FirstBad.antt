-- The check of the answers goes over pairs of a status and a leftover.
use mathlib.Core.Path.{◌≡◌, refl}
use mathlib.Core.Bool.{Bool, true, false, not, cond}
use mathlib.Core.List.{List}
use Prim.Native.Nat.{ℕ, suc}
use native.Mathlib.Numerals.{add-one}
use lib.Ieee.{Float}
use Rattle.std.specs.Prelude.{Option, Some}
use Rattle.std.specs.List.{position_from, zip}
use Rattle.rules.specs.Cells.{Found, faulty}
use Rattle.rules.specs.Call.{answer_allowed, bad_answer}
use Rattle.tables.specs.Checks.{answered_of, first_bad}

abbrev pub bad_pair : ℕ × Float → Bool
bad_pair p = not (answer_allowed p.0 p.1)

one : (b : Bool) (i : ℕ) {x y : Option ℕ} → x ≡ y → cond (not b) (Some i) x ≡ cond b y (Some i)
one true i e = e
one false i e = refl

answered : (b : Bool) (i : ℕ) (r : Found) → answered_of (cond b r (faulty i)) ≡ cond b (answered_of r) (Some i)
answered true i r = refl
answered false i r = refl

from : (i : ℕ) (ss : List ℕ) (ls : List Float) → position_from bad_pair i (zip ss ls) ≡ answered_of (bad_answer i ss ls)
unfolding bad_answer
from i List.[] ls = refl
from i (List.◌∷◌ s ss) List.[] = refl
from i (List.◌∷◌ s ss) (List.◌∷◌ l ls) =
    rw (answered (answer_allowed s l) i (bad_answer (suc i) ss ls), add-one i) (one (answer_allowed s l) i (from (suc i) ss ls))

pub first : (ss : List ℕ) (ls : List Float) → position_from bad_pair 0 (zip ss ls) ≡ first_bad ss ls
unfolding first_bad
first ss ls = from 0 ss ls
