-- The number of a kind tells the kind, and each number up to 16 is one.
use Rattle.std.specs.Prelude.{◌≡◌, ℕ, zero, suc, ◌<◌, ◌≤◌, Bool, true, false, ◌&&◌, nat_eq, nat_lt, refl}
use Rattle.std.proofs.Math.Bool.{and-eq-true_iff}
use Rattle.std.proofs.Common.{arith, ltb-true, ltb-false, eqb-true}
use Rattle.rules.specs.declared.behavior.Kind.{Kind}
use Rattle.rules.specs.declared.behavior.Kind.TheVariants.{Wait, WaitForever, Action, Invert, AlwaysSucceed, Timeout, Select, If, Sequence}
use Rattle.rules.specs.declared.behavior.Kind.TheVariants.{MemorylessSequence, MemorylessSelector, While, WhileAll, WhenAll, WhenAny, After, Race}
use Rattle.rules.specs.Kinds.{code, kind_of}

pub kind_code : (k : Kind) → kind_of (code k) ≡ k
unfolding kind_of
kind_code Wait = refl
kind_code WaitForever = refl
kind_code Action = refl
kind_code Invert = refl
kind_code AlwaysSucceed = refl
kind_code Timeout = refl
kind_code Select = refl
kind_code If = refl
kind_code Sequence = refl
kind_code MemorylessSequence = refl
kind_code MemorylessSelector = refl
kind_code While = refl
kind_code WhileAll = refl
kind_code WhenAll = refl
kind_code WhenAny = refl
kind_code After = refl
kind_code Race = refl

-- what a test finds of each number below n
abbrev all_below : ℕ → (ℕ → Bool) → Bool
all_below zero p = true
all_below (suc n) p = p n && all_below n p

below_is : (n : ℕ) (p : ℕ → Bool) (x : ℕ) → all_below n p ≡ true → x < n → p x ≡ true
below_is zero p x h l = absurd (omega arith)
below_is (suc n) p x h l = let both = (and-eq-true_iff (p n) (all_below n p)).0 h in go (nat_lt x n) refl both.0 (below_is n p x both.1)
  where
    go : (b : Bool) → nat_lt x n ≡ b → p n ≡ true → (x < n → p x ≡ true) → p x ≡ true
    go true e last rest = rest (ltb-true x n e)
    go false e last rest = let same : x ≡ n = omega (arith, ltb-false x n e) in rw same last

pub code_kind : (x : ℕ) → x ≤ 16 → code (kind_of x) ≡ x
unfolding kind_of
code_kind x h = eqb-true (code (kind_of x)) x (below_is 17 (λ (x : ℕ). nat_eq (code (kind_of x)) x) x refl (omega arith))

pub code_small : (k : Kind) → code k < 256
code_small Wait = omega arith
code_small WaitForever = omega arith
code_small Action = omega arith
code_small Invert = omega arith
code_small AlwaysSucceed = omega arith
code_small Timeout = omega arith
code_small Select = omega arith
code_small If = omega arith
code_small Sequence = omega arith
code_small MemorylessSequence = omega arith
code_small MemorylessSelector = omega arith
code_small While = omega arith
code_small WhileAll = omega arith
code_small WhenAll = omega arith
code_small WhenAny = omega arith
code_small After = omega arith
code_small Race = omega arith
