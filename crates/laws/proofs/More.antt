-- More fuel and more answers never change what a walk has done: the fuel added is left over, and the answers added are left behind.
use Rattle.std.specs.Prelude.{◌≡◌, refl, List, Float, ◌++◌}
use Prim.Native.Nat.{ℕ, zero, suc, ◌+◌}
use Rattle.std.specs.Float.{Format}
use Rattle.rules.specs.declared.behavior.Kind.TheVariants.{Action}
use Rattle.rules.specs.declared.event.Event.{Event}
use Rattle.rules.specs.Tree.{Cell, Tree, node, Forest}
use Rattle.rules.specs.Outcome.{dt, World, world, Out, done, asks, short, Ticker}
use Rattle.rules.specs.State.{rule, tick}
use Rattle.laws.specs.Shape.{shape, shapes, size_of}
use Rattle.std.proofs.Common.{suc-add, arith}
use Rattle.laws.specs.Pair.{Of, Sim, goes, ends}
use Rattle.laws.specs.PairDrivers.{Alike, Any, any_each}
use Rattle.laws.specs.PairRules.{Acts}
use Rattle.laws.proofs.PairRules.{visit_pair}
use Rattle.laws.specs.Alone.{Answers}
use Rattle.laws.proofs.Budget.{tick_budget}
use Rattle.laws.specs.More.{Grown, growing}

module _ (k : ℕ) (more : Answers) where
  module _ (F : Format) where
    grown : {A : Type 0} (n : ℕ) (w : World) (P : Of (growing k more F) A) (o o' : Out A) → Sim (growing k more F) n w P o o' → Grown k more o o'
    grown n w P o o' (goes s r a (world f ans) h x) = refl
    grown n w P o o' (ends (done s r a v) u' h) = absurd h
    grown n w P o o' (ends (asks m x) u' h) = h
    grown n w P o o' (ends short u' h) = h

    acts : Acts (growing k more F)
    unfolding rule
    acts child child' n l c e ts m (world f List.[]) P x = ends (asks n (dt e)) (rule F child' Action n l c e ts (world (f + k) more)) (none child' n l c e ts f)
      where
        none : (child' : Ticker) (n : ℕ) (l : Float) (c : Cell) (e : Event) (ts : Forest) (f : ℕ) → more ≡ List.[] → rule F child' Action n l c e ts (world (f + k) more) ≡ asks n (dt e)
        none child' n l c e ts f h = rw h
    acts child child' n l c e ts m (world f (List.◌∷◌ a ans)) P x = goes a.0 a.1 (c, ts) (world f ans) tt (x, tt)

    tick_grows : (d : ℕ) → Alike (growing k more F) Any (tick F d) (tick F d)
    unfolding tick
    tick_grows zero t e w u v ev = ends short short (λ h. refl)
    tick_grows (suc d) t e (world zero ans) u v ev = ends short (tick F (suc d) t e (world (0 + k) (ans ++ more))) (none t e ans)
      where
        none : (t : Tree) (e : Event) (ans : Answers) → k ≡ 0 → tick F (suc d) t e (world (0 + k) (ans ++ more)) ≡ short
        none t e ans h = rw h
    tick_grows (suc d) (node kd n l c b ts) e (world (suc f) ans) u v ev =
        rw (suc-add f k) (visit_pair (growing k more F) acts Any (tick F d) (tick F d) (tick_grows d) (suc (f + k)) kd n l c b ts e (world (suc f) ans) (world f ans)
        (tick_budget F d (suc (f + k)) kd n l c e ts f ans (omega arith)) (tick_budget F d (suc (f + k)) kd n l c e ts (f + k) (ans ++ more) (omega arith))
        tt tt (λ h i j. tt) (any_each (shapes ts)) tt tt)

    pub tick_more : (d : ℕ) (t : Tree) (e : Event) (f : ℕ) (ans : Answers) → Grown k more (tick F d t e (world f ans)) (tick F d t e (world (f + k) (ans ++ more)))
    tick_more d t e f ans = grown (size_of (shape t)) (world f ans) _ (tick F d t e (world f ans)) (tick F d t e (world (f + k) (ans ++ more))) (tick_grows d t e (world f ans) tt tt tt)
