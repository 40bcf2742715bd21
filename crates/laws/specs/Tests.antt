-- Going by a test.
use Rattle.std.specs.Prelude.{◌≡◌, refl, Bool, true, false, ℕ, ◌≤◌, ◌<◌, ltb}
use Rattle.std.proofs.Common.{ltb-true, ltb-false}

pub either : {A : Type 0} (b : Bool) → (b ≡ true → A) → (b ≡ false → A) → A
either true f g = f refl
either false f g = g refl

-- a number is below another, or not
pub below_or_not : {A : Type 0} (p n : ℕ) → (ltb p n ≡ true → p < n → A) → (ltb p n ≡ false → n ≤ p → A) → A
below_or_not p n f g = either (ltb p n) (λ e. f e (ltb-true p n e)) (λ e. g e (ltb-false p n e))
