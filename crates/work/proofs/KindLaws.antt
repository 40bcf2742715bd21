-- The kinds that decorate.
use mathlib.Core.Path.{◌≡◌}
use mathlib.Core.Bool.{Bool, true, false}
use Prim.Native.Nat.{ℕ}
use native.Mathlib.Omega.{arith}
use Rattle.rules.specs.declared.behavior.Kind.{Kind}
use Rattle.rules.specs.declared.behavior.Kind.TheVariants.{Wait, WaitForever, Action, Invert, AlwaysSucceed, Timeout, Select, If, Sequence}
use Rattle.rules.specs.declared.behavior.Kind.TheVariants.{MemorylessSequence, MemorylessSelector, While, WhileAll, WhenAll, WhenAny, After, Race}
use Rattle.work.specs.Flat.{is_decorator}

no : ◌≡◌ {A = Bool} false true → ⊥
no e = let z : ◌≡◌ {A = ℕ} 0 1 = cc in omega arith

pub decorator_case : (P : Kind → Type 0) → P Invert → P AlwaysSucceed → P Timeout → (k : Kind) → is_decorator k ≡ true → P k
decorator_case P a b c Invert h = a
decorator_case P a b c AlwaysSucceed h = b
decorator_case P a b c Timeout h = c
decorator_case P a b c Wait h = absurd (no h)
decorator_case P a b c WaitForever h = absurd (no h)
decorator_case P a b c Action h = absurd (no h)
decorator_case P a b c Select h = absurd (no h)
decorator_case P a b c If h = absurd (no h)
decorator_case P a b c Sequence h = absurd (no h)
decorator_case P a b c MemorylessSequence h = absurd (no h)
decorator_case P a b c MemorylessSelector h = absurd (no h)
decorator_case P a b c While h = absurd (no h)
decorator_case P a b c WhileAll h = absurd (no h)
decorator_case P a b c WhenAll h = absurd (no h)
decorator_case P a b c WhenAny h = absurd (no h)
decorator_case P a b c After h = absurd (no h)
decorator_case P a b c Race h = absurd (no h)
