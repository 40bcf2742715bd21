-- One walk beside itself: a tick keeps shape and mark, takes its fuel and its answers from the front; and how deep the tickers may go does not
-- matter for a tree that is no deeper.
use Rattle.std.specs.Prelude.{◌≡◌, refl, List, Float}
use Rattle.std.proofs.Common.{le_refl, le_of_suc-le-suc, not-suc-le-zero, arith}
use Prim.Native.Nat.{ℕ, zero, suc, ◌≤◌}
use Rattle.std.specs.Float.{Format}
use Rattle.rules.specs.declared.behavior.Kind.{Kind}
use Rattle.rules.specs.declared.status.Status.{Status}
use Rattle.rules.specs.declared.event.Event.{Event}
use Rattle.rules.specs.Tree.{Cell, Tree, node, Forest, depth}
use Rattle.rules.specs.Outcome.{dt, World, world, Out, done, asks, short, Ticker, ◌▸◌}
use Rattle.rules.specs.State.{Next, rule, tick}
use Rattle.laws.specs.Shape.{Shape, Shapes, shape, shapes, size_of, sizes_of}
use Rattle.laws.specs.Shape
use Rattle.laws.specs.Shape.{depth_of, depths_of, depth_of_lem}
use Rattle.laws.specs.Pair.{Of, Sim, goes, ends}
use Rattle.laws.specs.PairDrivers.{Same, Each, Visited, Alike, Any, any_each}
use Rattle.laws.specs.PairRules.{rule_with_lem, leave, Acts}
use Rattle.laws.proofs.PairRules.{rule_pair, visit_pair}
use Rattle.laws.specs.Alone.{Answers, alone, AfterTick, max_left, max_right, Less}

module _ (F : Format) where
  -- the two outcomes are one
  alike_is : {A : Type 0} (n : ℕ) (w : World) (P : Of (alone F) A) (o o' : Out A) → Sim (alone F) n w P o o' → o ≡ o'
  alike_is n w P o o' (goes s r a w' h x) = refl
  alike_is n w P o o' (ends u u' h) = h.0

  alike_after : {A : Type 0} (n : ℕ) (w : World) (P : Of (alone F) A) (Q : A → Type 0) (o o' : Out A)
      → ((s : Status) (r : Float) (a : A) (w' : World) → P s r a w' → Q a)
      → Sim (alone F) n w P o o'
      → AfterTick w Q o
  alike_after n w P Q o o' f (goes s r a w' h x) = (h, f s r a w' x)
  alike_after n w P Q o o' f (ends (done s r a w') u' h) = absurd h.1
  alike_after n w P Q o o' f (ends (asks m x) u' h) = tt
  alike_after n w P Q o o' f (ends short u' h) = tt

  acts : Acts (alone F)
  unfolding rule
  acts child child' n l c e ts m (world f List.[]) P x = ends (asks n (dt e)) (asks n (dt e)) (refl, tt)
  acts child child' n l c e ts m (world f (List.◌∷◌ a ans)) P x = goes a.0 a.1 (c, ts) (world f ans) (le_refl f, (List.◌∷◌ a List.[], refl)) (x, tt)

  -- the visit of a node, from the fuel that is left for its children
  visit : (D : Shape → Type 0) (child child' : Ticker) → Alike (alone F) D child child' → (k : Kind) (n : ℕ) (l : Float) (c : Cell) (b : ℕ) (ts : Forest) (e : Event) (f : ℕ) (ans : Answers)
      → Each D (shapes ts)
      → Sim (alone F) (size_of (shape (node k n l c b ts))) (world (suc f) ans) (Visited (alone F) (world (suc f) ans) (node k n l c b ts))
      (rule F child k n l c e ts (world f ans) ▸ leave k n l) (rule F child' k n l c e ts (world f ans) ▸ leave k n l)
  visit D child child' g k n l c b ts e f ans d = visit_pair (alone F) acts D child child' g (suc f) k n l c b ts e (world (suc f) ans) (world f ans)
      (rule_with_lem F child k n l c e ts f ans) (rule_with_lem F child' k n l c e ts f ans) (omega arith, (List.[], refl)) tt (λ h i j. tt) d tt tt

  -- ---- every tree
  tick_alone : (d : ℕ) → Alike (alone F) Any (tick F d) (tick F d)
  unfolding tick
  tick_alone zero t e w u v ev = ends short short (refl, tt)
  tick_alone (suc d) t e (world zero ans) u v ev = ends short short (refl, tt)
  tick_alone (suc d) (node k n l c b ts) e (world (suc f) ans) u v ev = visit Any (tick F d) (tick F d) (tick_alone d) k n l c b ts e f ans (any_each (shapes ts))

  -- a tick keeps shape and mark, and takes fuel and answers from what it is given
  pub tick_keeps : (d : ℕ) (t : Tree) (e : Event) (w : World) → AfterTick w (Same t) (tick F d t e w)
  tick_keeps d t e w = alike_after (size_of (shape t)) w _ (Same t) (tick F d t e w) (tick F d t e w) (λ s r t' q x. x.0) (tick_alone d t e w tt tt tt)

  less_of : (f : ℕ) (ans : Answers) (k : Kind) (n : ℕ) (l : Float) (o : Out Next) → AfterTick (world f ans) (λ x. Unit {0}) o → Less F (suc f) (o ▸ leave k n l)
  less_of f ans k n l (done s r x (world f' ans')) h = omega arith
  less_of f ans k n l (asks m x) h = tt
  less_of f ans k n l short h = tt

  pub tick_spends : (d : ℕ) (t : Tree) (e : Event) (f : ℕ) (ans : Answers) → Less F f (tick F d t e (world f ans))
  unfolding tick
  tick_spends zero t e f ans = tt
  tick_spends (suc d) t e zero ans = tt
  tick_spends (suc d) (node k n l c b ts) e (suc f) ans = less_of f ans k n l (rule F (tick F d) k n l c e ts (world f ans)) (rw (rule_with_lem F (tick F d) k n l c e ts f ans)
      (alike_after (sizes_of (shapes ts)) (world f ans) _ (λ x. Unit {0}) _ _ (λ s r x q y. tt)
      (rule_pair (alone F) acts Any (tick F d) (tick F d) (tick_alone d) (suc f) k n l c e ts (world f ans) (λ h i j. tt) (any_each (shapes ts)) tt tt)))

  -- ---- trees no deeper than d and d'
  abbrev Within : ℕ → ℕ → Shape → Type 0
  Within d d' s = (depth_of s ≤ d) × (depth_of s ≤ d')

  within_each : (d d' : ℕ) (ss : Shapes) → depths_of ss ≤ d → depths_of ss ≤ d' → Each (Within d d') ss
  within_each d d' Shape.[] h g = tt
  within_each d d' (Shape.◌◂◌ s ss) h g = (
    (max_left (depth_of s) (depths_of ss) d h, max_left (depth_of s) (depths_of ss) d' g),
    within_each d d' ss (max_right (depth_of s) (depths_of ss) d h) (max_right (depth_of s) (depths_of ss) d' g),
  )

  tick_within : (d d' : ℕ) → Alike (alone F) (Within d d') (tick F d) (tick F d')
  unfolding tick
  tick_within zero d' (node k n l c b ts) e w u v ev = absurd (not-suc-le-zero u.0)
  tick_within (suc d) zero (node k n l c b ts) e w u v ev = absurd (not-suc-le-zero u.1)
  tick_within (suc d) (suc d') t e (world zero ans) u v ev = ends short short (refl, tt)
  tick_within (suc d) (suc d') (node k n l c b ts) e (world (suc f) ans) u v ev =
      visit (Within d d') (tick F d) (tick F d') (tick_within d d') k n l c b ts e f ans (within_each d d' (shapes ts) (le_of_suc-le-suc u.0) (le_of_suc-le-suc u.1))

  -- the depth that a tick may go down to does not matter for a tree that is no deeper
  pub depth_free : (d d' : ℕ) (t : Tree) (e : Event) (w : World) → depth t ≤ d → depth t ≤ d' → tick F d t e w ≡ tick F d' t e w
  depth_free d d' t e w h g = alike_is (size_of (shape t)) w _ (tick F d t e w) (tick F d' t e w) (tick_within d d' t e w (rw (← (depth_of_lem t)) h, rw (← (depth_of_lem t)) g) tt tt)
