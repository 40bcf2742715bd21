-- Answer 7 only ever means fuel: the walk would make visit fuel + 1. Each visit takes one of the fuel, so that visit is the one that finds none
-- left; the rules are `short` there, and in clauses that no accepted cell leads to: a child that is not there, a place past its range, the depth
-- and the loops' budget. So that the two can be told apart, that one visit gets an outcome of its own.
use Rattle.std.specs.Prelude.{◌≡◌, Float}
use Rattle.std.proofs.Math.Path.{refl}
use Rattle.std.proofs.Common.{ap}
use Prim.Native.Nat.{ℕ, zero, suc}
use Rattle.std.specs.Float.{Format}
use Rattle.rules.specs.declared.event.Event.{Event}
use Rattle.rules.specs.declared.answer.Answer.{Answer}
use Rattle.rules.specs.declared.answer.Answer.TheVariants.{Ticked, Asked, Finished, BadTable, TooShort, BadTime, BadAnswer, OutOfFuel, BadCell, NoRoom}
use Rattle.rules.specs.Tree.{Tree, node}
use Rattle.rules.specs.Outcome.{World, world, Out, done, asks, short, Ticker, ◌▸◌}
use Rattle.rules.specs.State.{rule, tick}
use Rattle.rules.specs.Table.{most_deep}
use Rattle.rules.specs.Call.{answers, cleaned_event}
use Rattle.laws.specs.View.{Call, start_of, walk}
use Rattle.laws.specs.PairRules.{leave}

-- ---- the rules' tick, with `out` for the outcome of a visit that finds no fuel left
unfoldable pub tick_or : Out Tree → Format → ℕ → Ticker
tick_or out F zero t e w = short
tick_or out F (suc d) t e (world zero ans) = out
tick_or out F (suc d) (node k n l c b ts) e (world (suc f) ans) = rule F (tick_or out F d) k n l c e ts (world f ans) ▸ leave k n l

-- with `short` it is the rules' own
pub is_tick : (F : Format) (d : ℕ) (t : Tree) (e : Event) (w : World) → tick_or short F d t e w ≡ tick F d t e w
unfolding tick_or tick
is_tick F zero t e w = refl
is_tick F (suc d) t e (world zero ans) = refl
is_tick F (suc d) (node k n l c b ts) e (world (suc f) ans) = ap (λ (child : Ticker). rule F child k n l c e ts (world f ans) ▸ leave k n l) (λ i t' e' w'. is_tick F d t' e' w' i)

-- the outcome o with `out` in place of `short`
abbrev pub instead : Out Tree → Out Tree → Out Tree
instead out (done s r t w) = done s r t w
instead out (asks n x) = asks n x
instead out short = out

-- ---- the walk of a call
abbrev pub walk_or : Format → Out Tree → Tree → Call → Out Tree
walk_or F out t a = tick_or out F most_deep (start_of t a) (cleaned_event a.given'.event) (world a.given'.fuel (answers a.given'.statuses a.given'.leftovers))

-- 7: the visit that finds no fuel left is met, and its outcome, whichever, is that of the walk. 0 and 1: it is not met
abbrev pub ByFuel : Format → Call → Tree → Answer → Type 0
ByFuel F a t OutOfFuel = (n : ℕ) (x : Float) → walk_or F (asks n x) t a ≡ asks n x
ByFuel F a t (Ticked s r v u) = (n : ℕ) (x : Float) → walk_or F (asks n x) t a ≡ walk F t a
ByFuel F a t (Asked m y) = (n : ℕ) (x : Float) → walk_or F (asks n x) t a ≡ walk F t a
ByFuel F a t Finished = ⊥
ByFuel F a t (BadTable p) = ⊥
ByFuel F a t TooShort = ⊥
ByFuel F a t BadTime = ⊥
ByFuel F a t (BadAnswer i) = ⊥
ByFuel F a t (BadCell p) = ⊥
ByFuel F a t NoRoom = ⊥
