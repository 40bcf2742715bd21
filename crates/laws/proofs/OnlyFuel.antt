-- Answer 7 only ever means fuel: the walk would make visit fuel + 1. Each visit takes one of the fuel, so that visit is the one that finds none
-- left; the rules are `short` there, and in clauses that no accepted cell leads to: a child that is not there, a place past its range, the depth
-- and the loops' budget. So that the two can be told apart, that one visit gets an outcome of its own.
use Rattle.std.specs.Prelude.{◌≡◌, T, Float}
use Rattle.std.proofs.Math.Path.{refl}
use Rattle.std.proofs.Common.{sym, subst}
use Prim.Native.Nat.{ℕ}
use Rattle.std.specs.Float.{Format}
use Rattle.rules.specs.declared.event.Event.{Event}
use Rattle.rules.specs.declared.answer.Answer.TheVariants.{OutOfFuel}
use Rattle.rules.specs.Tree.{Tree}
use Rattle.rules.specs.Outcome.{dt, World, world, Out, done, asks, short}
use Rattle.rules.specs.State.{tick}
use Rattle.rules.specs.Table.{most_deep, good, table}
use Rattle.rules.specs.Cells.{elapsed}
use Rattle.rules.specs.Call.{Left, answers, cleaned_event, walked}
use Rattle.laws.specs.Shape.{shape, size_of, depth_of_lem}
use Rattle.laws.specs.Tables.{tabled}
use Rattle.laws.specs.View.{Call, left_by, held_by, start_of, walk, start_shape, Walked, Why, View, walking, refusing, view}
use Rattle.laws.specs.Walks.{walks}
use Rattle.laws.specs.Pair.{Sim, goes, ends}
use Rattle.laws.specs.PairDrivers.{Visited}
use Rattle.laws.specs.Live.{Live, tabled_right}
use Rattle.laws.specs.LiveTicks.{EWorld}
use Rattle.laws.specs.CellsGood.{event_elapsed, answers_elapsed, live_of}
use Rattle.laws.proofs.Beside.{Fits, beside, tick_beside}
use Rattle.laws.specs.OnlyFuel.{tick_or, instead, walk_or, ByFuel}

module _ (n : ℕ) (x : Float) (F : Format) where
  pub only_fuel : (d : ℕ) (t : Tree) (e : Event) (w : World) → Fits d (shape t) → Live t → T (elapsed (dt e)) → EWorld w → tick_or (asks n x) F d t e w ≡ instead (asks n x) (tick F d t e w)
  only_fuel d t e w s v ev wv = on (tick F d t e w) (tick_or (asks n x) F d t e w) (tick_beside n x F d t e (w, wv) s v ev)
    where
      on : (o o' : Out Tree) → Sim (beside n x F) (size_of (shape t)) (w, wv) (Visited (beside n x F) (w, wv) t) o o' → o' ≡ instead (asks n x) o
      on o o' (goes s' r t' q h y) = refl
      on o o' (ends (done s' r t' w') u' h) = absurd h
      on o o' (ends (asks m y) u' h) = h
      on o o' (ends short u' h) = h

pub walk_or_lem : (F : Format) (a : Call) (t : Tree) → Walked a t → (n : ℕ) (x : Float) → walk_or F (asks n x) t a ≡ instead (asks n x) (walk F t a)
walk_or_lem F a t w n x =
    let g = a.given' in
    let r = tabled g.kinds g.ns g.limits t w.table_good in
    only_fuel n x F most_deep (start_of t a) (cleaned_event g.event) (world g.fuel (answers g.statuses g.leftovers))
    (rw (start_shape t a) (tabled_right t r.0, rw (depth_of_lem t) at r.1)) (live_of (start_of t a) w.cells_good.0 w.cells_good.1)
    (event_elapsed g.event w.time_good) (answers_elapsed 0 w.answers_good.0 g.statuses g.leftovers w.answers_good.1)

pub by_fuel : (F : Format) (a : Call) (t : Tree) → Walked a t → ByFuel F a t (left_by F a).answer
by_fuel F a t w = subst (λ (l : Left). ByFuel F a t l.answer) (sym (walks F a t w)) (on (walk F t a) refl (walk_or_lem F a t w))
  where
    on : (o : Out Tree) → walk F t a ≡ o → ((n : ℕ) (x : Float) → walk_or F (asks n x) t a ≡ instead (asks n x) o) → ByFuel F a t (walked a.given' (held_by t a.given') o).answer
    on (done s r t' (world f ans)) q h = rw (← q) at h
    on (asks m y) q h = rw (← q) at h
    on short q h = h

-- so a call is answered 7 only where that visit ends its walk
pub seven_is_fuel : (F : Format) (a : Call) → (left_by F a).answer ≡ OutOfFuel
    → (t : Tree) × (table a.given'.kinds a.given'.ns a.given'.limits ≡ good t) × ((n : ℕ) (x : Float) → walk_or F (asks n x) t a ≡ asks n x)
seven_is_fuel F a q = on (left_by F a) (view F a) q
  where
    on : (l : Left) → View F a l → l.answer ≡ OutOfFuel
        → (t : Tree) × (table a.given'.kinds a.given'.ns a.given'.limits ≡ good t) × ((n : ℕ) (x : Float) → walk_or F (asks n x) t a ≡ asks n x)
    on l (refusing b y) e = absurd (subst (Why a) e y)
    on l (walking t w) e = (t, w.table_good, subst (ByFuel F a t) q (by_fuel F a t w))
