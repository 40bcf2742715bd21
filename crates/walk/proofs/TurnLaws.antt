-- What visits the children, and what the turns of the drivers share.
use mathlib.Core.Path.{◌≡◌}
use mathlib.Core.List.{List}
use Prim.Native.Nat.{ℕ, ◌+◌, ◌-◌, ◌≤◌, ◌<◌}
use native.Mathlib.Omega.{arith}
use lib.Ieee.{Float, binary64}
use Rattle.work.specs.declared.reads.Reads.{Reads}
use Rattle.work.specs.Flat.{Out, Visitor, lent_in, visiting}

abbrev pub visitor : Reads → ℕ → Visitor
visitor reads = visiting binary64 (lent_in reads)

-- n turns, of which i are over
pub some_left : {n i : ℕ} → i < n → 0 < n - i
some_left h = omega arith

pub one_less : {n i : ℕ} → i < n → n - (i + 1) ≡ n - i - 1
one_less h = omega arith

-- where more than the child was passed
pub farther : {stop q next r : ℕ} → q < stop → q < next → next ≤ r → stop - r < stop - q
farther h n l = omega arith

pub turns_left : {stop q k : ℕ} → q < stop → stop - q ≤ k → 0 < k
turns_left h g = omega arith

-- a visit to what was left as it was
pub as_it_was : (v : Visitor) (q : ℕ) (dt : Float) {ws ws₁ : List ℕ} {ts ts₁ : List Float} {o : Out} → (ws₁ ≡ ws) × (ts₁ ≡ ts) → v q dt ws₁ ts₁ ≡ o → v q dt ws ts ≡ o
as_it_was v q dt e g = rw (← e.0, ← e.1) g
