-- The loops' budget never ends a walk: each turn takes one fuel at least, so every budget above the fuel gives the same.
use Rattle.std.specs.Prelude.{◌≡◌, Float}
use Prim.Native.Nat.{ℕ, ◌<◌}
use Rattle.std.specs.Float.{Format}
use Rattle.rules.specs.declared.behavior.Kind.{Kind}
use Rattle.rules.specs.declared.event.Event.{Event}
use Rattle.rules.specs.Tree.{Cell, Forest}
use Rattle.rules.specs.Outcome.{world}
use Rattle.rules.specs.State.{rule, tick}
use Rattle.laws.specs.Alone.{Answers}
use Rattle.laws.proofs.Alone.{tick_spends}
use Rattle.laws.specs.PairRules.{rule_with}
use Rattle.laws.specs.Budget.{rule_budget}

-- of the rules' own ticks
pub tick_budget : (F : Format) (d b : ℕ) (k : Kind) (n : ℕ) (l : Float) (c : Cell) (e : Event) (ts : Forest) (f : ℕ) (ans : Answers) → f < b
    → rule F (tick F d) k n l c e ts (world f ans) ≡ rule_with b F (tick F d) k n l c e ts (world f ans)
tick_budget F d = rule_budget F (tick F d) (tick_spends F d)
