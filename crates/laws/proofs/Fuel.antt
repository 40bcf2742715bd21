-- Without While and WhileAll, fuel equal to the node count is never too little: for every event, all cells that are accepted and all answers.
use Rattle.std.specs.Prelude.{◌≡◌, refl, Bool, true, false, not, ◌||◌, List, T, Float}
use Prim.Native.Nat.{ℕ, zero, suc, ◌+◌, ◌≤◌, ◌<◌}
use Rattle.std.proofs.Common.{not-suc-le-zero, le_of_suc-le-suc}
use Rattle.std.proofs.Math.Nat.{le_refl}
use native.Mathlib.Omega.{arith}
use Rattle.std.specs.Float.{Format}
use Rattle.rules.specs.declared.behavior.Kind.{Kind}
use Rattle.rules.specs.declared.behavior.Kind.TheVariants.{While, WhileAll}
use Rattle.rules.specs.declared.status.Status.{Status}
use Rattle.rules.specs.declared.event.Event.{Event}
use Rattle.rules.specs.Kinds.{is}
use Rattle.rules.specs.Tree.{Tree, node, size}
use Rattle.rules.specs.Outcome.{dt, World, world, Out, done, asks, short, ◌▸◌}
use Rattle.rules.specs.State.{rule, tick}
use Rattle.laws.specs.Shape.{Shape, shp, Shapes, shape, shapes, size_of, size_of_lem, depth_of, depths_of}
use Rattle.laws.specs.Shape
use Rattle.laws.specs.Alone.{max_left, max_right}
use Rattle.laws.specs.Live.{Live, any_time, Rights}
use Rattle.laws.specs.LiveTicks.{fuel_in}
use Rattle.laws.specs.Pair.{Terms, Pairing, Sim, goes, ends}
use Rattle.laws.specs.PairDrivers.{Each, Visited, Alike}
use Rattle.laws.specs.PairRules.{rule_with_lem, LoopsOf, Acts}
use Rattle.laws.proofs.PairRules.{visit_pair}
use Rattle.laws.specs.Fuel.{no_loop, NoLoopsIn, Plain}

plain_each : (h : ℕ) (ss : Shapes) → Rights ss → depths_of ss ≤ h → NoLoopsIn ss → Each (Plain h) ss
plain_each h Shape.[] r d n = tt
plain_each h (Shape.◌◂◌ s ss) r d n = ((r.0, max_left (depth_of s) (depths_of ss) h d, n.0), plain_each h ss r.1 (max_right (depth_of s) (depths_of ss) h d) n.1)

-- places are looked at, and times are not
abbrev placing : (F : Format) → Terms F
placing F = record {
  Known = λ X. X;
  known = λ x. x;
  map = λ f x. f x;
  both = λ x y. (x, y);
  time = λ x. true;
  none_passed = tt;
  most = tt;
  least = λ x y h g. tt;
  limit = λ l h. tt;
  sum = λ x y h g. tt;
  past = λ l x h g e. tt;
}

-- too little, for n nodes
abbrev Less : {A : Type 0} → ℕ → World → Out A → Type 0
Less n w (done s r a w') = ⊥
Less n w (asks i x) = Unit {0}
Less n w short = fuel_in w < n

less_then : {A B : Type 0} (n : ℕ) (w : World) (o : Out A) (k : Status → Float → A → World → Out B) → Less n w o → Less n w (o ▸ k)
less_then n w (done s r a w') k h = absurd h
less_then n w (asks i x) k h = tt
less_then n w short k h = h

less_back : {A : Type 0} (m n : ℕ) (w w' : World) (o : Out A) → fuel_in w ≤ fuel_in w' + m → Less n w' o → Less (m + n) w o
less_back m n w w' (done s r a v) g h = absurd h
less_back m n w w' (asks i x) g h = tt
less_back m n w w' short g h = omega arith

less_upto : {A : Type 0} (m n : ℕ) (w : World) (o : Out A) → m ≤ n → Less m w o → Less n w o
less_upto m n w (done s r a v) u h = absurd h
less_upto m n w (asks i x) u h = tt
less_upto m n w short u h = omega arith

module _ (F : Format) where
  -- through trees of n nodes at most n of the fuel are used
  abbrev counting : Pairing F
  counting = record {
    terms = placing F;
    Worlds = World;
    first = λ w m. m w;
    second = λ w m. m w;
    fuel = fuel_in;
    Reach = λ n w w'. (fuel_in w ≤ fuel_in w' + n) × (fuel_in w' ≤ fuel_in w);
    stays = λ n w. (omega arith, le_refl (fuel_in w));
    onward = λ m n w w' w'' h g. (omega arith, omega arith);
    spends = λ n w w' h. h.1;
    Stop = λ n w o o'. Less n w o;
    stop_then = λ n w o o' k k' h. less_then n w o k h;
    stop_back = λ m n w w' o o' g h. less_back m n w w' o g.0 h;
    stop_short = λ n w h. absurd h;
    Upto = λ m n. m ≤ n;
    upto = λ m n h. h;
    reach_upto = λ m n w w' u h. (omega arith, h.1);
    stop_upto = λ m n w o o' u h. less_upto m n w o u h;
    first_then = λ w m k. refl;
    second_then = λ w m k. refl;
  }

  acts : Acts counting
  unfolding rule
  acts child child' n l c e ts m (world f List.[]) P x = ends (asks n (dt e)) (asks n (dt e)) tt
  acts child child' n l c e ts m (world f (List.◌∷◌ a ans)) P x = goes a.0 a.1 (c, ts) (world f ans) (omega arith, le_refl f) (x, tt)

  unlooped : (k : Kind) → T (no_loop k) → LoopsOf counting k
  unlooped k h g = on (is k While || is k WhileAll) h g
    where
      on : (b : Bool) → T (not b) → T b → (m n : ℕ) → m ≤ n
      on true h g = absurd h
      on false h g = absurd g

  tick_ample : (d : ℕ) → Alike counting (Plain d) (tick F d) (tick F d)
  unfolding tick
  tick_ample zero (node k n l c b ts) e w s v ev = absurd (not-suc-le-zero s.1)
  tick_ample (suc d) (node k n l c b ts) e (world zero ans) s v ev = ends short short (omega arith)
  tick_ample (suc d) (node k n l c b ts) e (world (suc f) ans) s v ev =
      visit_pair counting acts (Plain d) (tick F d) (tick F d) (tick_ample d) (suc f) k n l c b ts e (world (suc f) ans) (world f ans) (rule_with_lem F (tick F d) k n l c e ts f ans)
      (rule_with_lem F (tick F d) k n l c e ts f ans) (omega arith, omega arith) (omega arith) (unlooped k s.2.0) (plain_each d (shapes ts) s.0.3 (le_of_suc-le-suc s.1) s.2.1)
      ((s.0.0, s.0.1, s.0.2), v, omega arith) ev

  -- fuel equal to the node count, or more, does not end in `short`
  pub never_short : (depth : ℕ) (t : Tree) (e : Event) (f : ℕ) (ans : List (Status × Float)) → Plain depth (shape t) → Live t → size t ≤ f → tick F depth t e (world f ans) ≡ short → ⊥
  never_short depth t e f ans p v h q = on (tick F depth t e (world f ans)) (tick F depth t e (world f ans)) (tick_ample depth t e (world f ans) p (any_time t v) tt) q
    where
      on : (o o' : Out Tree) → Sim counting (size_of (shape t)) (world f ans) (Visited counting (world f ans) t) o o' → o ≡ short → ⊥
      on o o' (goes s r t' w g x) e = let z : ◌≡◌ {A = ℕ} 0 1 = cc in omega arith
      on o o' (ends (done s r t' w) u' g) e = g
      on o o' (ends (asks i x) u' g) e = let z : ◌≡◌ {A = ℕ} 0 1 = cc in omega arith
      on o o' (ends short u' g) e = omega (arith, size_of_lem t)
