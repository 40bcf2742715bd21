-- One tick keeps cells allowed: of a tree that may be ticked, whatever it answers, the tree that it leaves may be ticked again.
use Rattle.std.specs.Prelude.{T}
use Prim.Native.Nat.{ℕ, zero, suc}
use Rattle.std.proofs.Common.{arith}
use Rattle.std.specs.Float.{Format}
use Rattle.rules.specs.declared.event.Event.{Event}
use Rattle.rules.specs.Tree.{Tree, node}
use Rattle.rules.specs.Outcome.{dt, World, world, Out, done, asks, short}
use Rattle.rules.specs.State.{tick}
use Rattle.rules.specs.Cells.{elapsed}
use Rattle.laws.specs.Shape.{Shapes, shape, shapes, size_of}
use Rattle.laws.specs.Shape
use Rattle.laws.specs.Live.{Live, Right, Rights}
use Rattle.laws.specs.Pair.{Pairing, Sim, goes, ends}
use Rattle.laws.specs.PairDrivers.{Each, Visited, Alike}
use Rattle.laws.specs.PairRules.{rule_with_lem}
use Rattle.laws.proofs.PairRules.{visit_pair}
use Rattle.laws.specs.LiveTicks.{EWorld, living, living_acts, LiveAfter}

rights_each : (ss : Shapes) → Rights ss → Each Right ss
rights_each Shape.[] h = tt
rights_each (Shape.◌◂◌ s ss) h = (h.0, rights_each ss h.1)

-- ---- the rules' own ticks, of any depth
abbrev walking : (F : Format) → Pairing F
walking F = living (λ A o. Unit {0}) (λ A B o k h. tt) F

module _ (F : Format) where
  tick_lives : (d : ℕ) → Alike (walking F) Right (tick F d) (tick F d)
  unfolding tick
  tick_lives zero t e w s v ev = ends short short tt
  tick_lives (suc d) t e (world zero ans, wv) s v ev = ends short short tt
  tick_lives (suc d) (node k n l c b ts) e (world (suc f) ans, wv) s v ev =
      visit_pair (walking F) (living_acts (λ A o. Unit {0}) (λ A B o k h. tt) F) Right (tick F d) (tick F d) (tick_lives d) (suc f) k n l c b ts e (world (suc f) ans, wv) (world f ans, wv)
      (rule_with_lem F (tick F d) k n l c e ts f ans) (rule_with_lem F (tick F d) k n l c e ts f ans) (omega arith) (omega arith) (λ h i j. tt) (rights_each (shapes ts) s.3)
      ((s.0, s.1, s.2), v, omega arith) ev

  pub tick_live : (d : ℕ) (t : Tree) (e : Event) (w : World) → Right (shape t) → Live t → T (elapsed (dt e)) → EWorld w → LiveAfter (tick F d t e w)
  tick_live d t e w s v ev wv = on (tick F d t e w) (tick F d t e w) (tick_lives d t e (w, wv) s v ev)
    where
      on : (o o' : Out Tree) → Sim (walking F) (size_of (shape t)) (w, wv) (Visited (walking F) (w, wv) t) o o' → LiveAfter o
      on o o' (goes s' r t' q h x) = (q.1, x.2, x.1.0)
      on o o' (ends (done s' r t' w') u' h) = absurd h
      on o o' (ends (asks n x) u' h) = tt
      on o o' (ends short u' h) = tt
