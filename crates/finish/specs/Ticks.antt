-- One tick, of every kind: it keeps a tree valid, and a tick of d or more lowers the number of ticks that are still enough.
use Rattle.std.specs.Prelude.{◌≡◌, refl, List, Float}
use Rattle.std.proofs.Common.{subst, inr, arith}
use Prim.Native.Nat.{ℕ, zero, suc, ◌+◌, ◌*◌, ◌≤◌}
use Rattle.std.specs.Float.{Format}
use Rattle.rules.specs.declared.behavior.Kind.{Kind}
use Rattle.rules.specs.declared.behavior.Kind.TheVariants.{Wait, WaitForever, Action, Invert, AlwaysSucceed, Timeout, Select, If, Sequence}
use Rattle.rules.specs.declared.behavior.Kind.TheVariants.{MemorylessSequence, MemorylessSelector, While, WhileAll, WhenAll, WhenAny, After, Race}
use Rattle.rules.specs.declared.status.Status.{Status}
use Rattle.rules.specs.declared.status.Status.TheVariants.{Running, Success, Failure}
use Rattle.rules.specs.declared.event.Event.{Event}
use Rattle.rules.specs.declared.event.Event.TheVariants.{Update, Other}
use Rattle.rules.specs.Tree.{Cell, with_place, Tree, node, Forest, [], ◌◂◌}
use Rattle.rules.specs.Outcome.{dt, World, world, Out, done, asks, short, Ticker, ◌▸◌, exchanging}
use Rattle.rules.specs.State.{rule, tick}
use Rattle.rules.specs.Bound.{num}
use Rattle.floats.specs.Times.{W}
use Rattle.laws.specs.Pair.{nothing, Pairing, Known, Sim, goes, ends, back, stay, after}
use Rattle.laws.specs.PairDrivers.{Same}
use Rattle.laws.specs.PairRules.{rule_with, rule_with_lem, leave}
use Rattle.laws.specs.Alone.{NotDone, stop_on, AfterTick}
use Rattle.laws.proofs.Alone.{tick_keeps}
use Rattle.laws.specs.Shape.{Shape, shp, Shapes, shape, shapes}
use Rattle.laws.specs.Shape
use Rattle.finish.specs.Shaped.{Shaped, Shapeds, Shaped₁}
use Rattle.finish.specs.Enough.{EnoughSum, Still, StillSum, StillLoop}
use Rattle.finish.specs.Valid.{Valid}
use Rattle.finish.specs.Ranks.{still_pos, stillsum_pos}
use Rattle.finish.specs.Post.{WWorld, WEvent, Q, TickC, TickQ, NodeC, Holds, claim_map, exchange_holds, Good, exchanging_good}
use Rattle.finish.specs.Sequences.{seq_good, mem_good}
use Rattle.finish.specs.Whens.{when_good, race_good}
use Rattle.finish.specs.Afters.{after_good}
use Rattle.finish.specs.Whiles.{body_good, Turn, loop_good}
use Rattle.finish.specs.Waits.{wait_good, timeout_good}
use Rattle.finish.specs.Ifs.{if_good}

module _ (F : Format) (d : ℕ) where
  shaped_all : (ss : Shapes) → Shaped₁ F ss → Shapeds F ss
  shaped_all Shape.[] h = absurd h
  shaped_all (Shape.◌◂◌ s ss) h = h

  loop_turn : (e : Event) (c : Tree) (ts : Forest) (p j : ℕ) → d ≤ num (dt e) → StillLoop d (c ◂ ts) p (suc j) → Turn F d e c ts p j
  loop_turn e c ts zero j full x = pick x.0 x.1 x.2 x.3 x.4 x.5
    where
      pick : (a b : ℕ) → a * b ≤ suc j → 1 ≤ b → Still d c a → EnoughSum d (shapes ts) b → Turn F d e c ts 0 j
      pick zero b h k y z = absurd (still_pos F d c y)
      pick (suc a) b h k y z = (a, b, omega arith, k, y, z)
  loop_turn e c ts (suc p) j full x = pick x.0 x.1 x.2 x.3 x.4 x.5 x.6 x.7
    where
      pick : (a b m : ℕ) → a * b + m ≤ suc j → 1 ≤ b → Still d c (suc a) → EnoughSum d (shapes ts) b → StillSum d ts p m → Turn F d e c ts (suc p) j
      pick a b zero h k y z u = absurd (stillsum_pos F d ts p u)
      pick a b (suc m) h k y z u = (a, b, m, omega arith, k, y, z, inr (full, u))

  -- ---- a rule, by its kind, in whichever worlds it walks. `unasked`: a walk that is short is let be; `acts`: what an action is answered is whole
  module _ (R : Pairing F) (unasked : Known R ⊥) (child : Ticker) (g : Good R d child)
      (acts : (n : ℕ) (l : Float) (c : Cell) (b : ℕ) (ts : Forest) (e : Event) (p : R.Worlds) → Holds R (NodeC F d Action n l c b ts e) p (λ w. rule F child Action n l c e ts w)) where
    rule_good : (m : ℕ) (k : Kind) (n : ℕ) (l : Float) (c : Cell) (b : ℕ) (ts : Forest) (y : Float) (p : R.Worlds) → Shaped F (shp k n l (shapes ts)) → Valid F (node k n l c b ts) → W F y
        → Holds R (NodeC F d k n l c b ts (Update y)) p (λ w. rule_with m F child k n l c (Update y) ts w)
    unfolding rule_with
    rule_good m Action n l c b ts y p s v ev = acts n l c b ts (Update y) p
    rule_good m Invert n l c b [] y p s v ev = absurd s
    rule_good m Invert n l c b (t ◂ ts) y p s v ev = after R (g t (Update y) p s.0 v ev) elim [
      | Running ↦ λ r t' p' q. stay R q.1
      | Success ↦ λ r t' p' q. stay R q.1
      | Failure ↦ λ r t' p' q. stay R q.1
    ]
    rule_good m AlwaysSucceed n l c b [] y p s v ev = absurd s
    rule_good m AlwaysSucceed n l c b (t ◂ ts) y p s v ev = after R (g t (Update y) p s.0 v ev) elim [
      | Running ↦ λ r t' p' q. stay R q.1
      | Success ↦ λ r t' p' q. stay R q.1
      | Failure ↦ λ r t' p' q. stay R q.1
    ]
    rule_good m Wait n l c b ts y p s v ev = wait_good F d R child g n l c b ts (Update y) p s v.0 v.1 ev
    rule_good m WaitForever n l c b ts y p s v ev = stay R (tt, λ full j z. absurd z)
    rule_good m Timeout n l c b [] y p s v ev = absurd s.1
    rule_good m Timeout n l c b (t ◂ ts) y p s v ev = timeout_good F d R child g n l c b t ts (Update y) p s.0 v.0 v.1 s.1.0 v.2 ev
    rule_good m If n l c b ts y p s v ev = claim_map R (λ z. (with_place z.0 c, z.1)) (λ z k dn. (k, dn)) (if_good F d R unasked child g c.place ts y p s v ev)
    rule_good m Sequence n l c b ts y p s v ev =
        claim_map R (λ z. (with_place z.0 c, z.1)) (λ z k dn. (k.1, dn)) (seq_good F d R child g (Update y) ts c.place p (shaped_all (shapes ts) s) v ev)
    rule_good m Select n l c b ts y p s v ev =
        claim_map R (λ z. (with_place z.0 c, z.1)) (λ z k dn. (k.1, dn))
        (exchange_holds R (seq_good F d R (exchanging child) (exchanging_good R d child g) (Update y) ts c.place p (shaped_all (shapes ts) s) v ev))
    rule_good m MemorylessSequence n l c b ts y p s v ev = claim_map R (λ us. (c, us)) (λ us k dn. (k, dn)) (mem_good F d R child g y ts p s ev)
    rule_good m MemorylessSelector n l c b ts y p s v ev = claim_map R (λ us. (c, us)) (λ us k dn. (k, dn))
        (exchange_holds R (mem_good F d R (exchanging child) (exchanging_good R d child g) y ts p s ev))
    rule_good m While n l c b [] y p s v ev = absurd s
    rule_good m While n l c b (t ◂ ts) y p s v ev = after R (g t (Update y) p s.0 v.0 ev) elim [
      | Running ↦ λ r t' p' q. claim_map R (λ z. (with_place z.0 c, t' ◂ z.1))
          (λ z k dn. ((q.1.0, k), λ full j x. q.1.1 full j x)) (body_good F d R unasked child g m y ts c.place p' (shaped_all (shapes ts) s.1) v.1 ev)
      | Success ↦ λ r t' p' q. stay R q.1
      | Failure ↦ λ r t' p' q. stay R q.1
    ]
    rule_good m WhileAll n l c b [] y p s v ev = absurd s
    rule_good m WhileAll n l c b (t ◂ ts) y p s v ev = claim_map R (λ z. (with_place z.0 c, z.1)) (λ z k dn. (k, λ full j x. dn full j (loop_turn (Update y) t ts c.place j full x)))
        (loop_good F d R unasked child g m y y t ts c.place p s.0 (shaped_all (shapes ts) s.1) v ev ev)
    rule_good m WhenAll n l c b ts y p s v ev = claim_map R (λ us. (c, us)) (λ us k dn. (k, dn)) (when_good F d R child g (Update y) ts p s v.0 v.1 ev)
    rule_good m WhenAny n l c b ts y p s v ev = claim_map R (λ us. (c, us)) (λ us k dn. (k, dn))
        (exchange_holds R (when_good F d R (exchanging child) (exchanging_good R d child g) (Update y) ts p s v.0 v.1 ev))
    rule_good m After n l c b ts y p s v ev =
        claim_map R (λ z. (with_place z.0 c, z.1)) (λ z k dn. (k, dn)) (after_good F d R child g (Update y) ts c.place p (shaped_all (shapes ts) s) v ev)
    rule_good m Race n l c b ts y p s v ev = claim_map R (λ us. (c, us)) (λ us k dn. (k, dn)) (race_good F d R child g (Update y) ts p s v ev)

    visit_good : (m : ℕ) (k : Kind) (n : ℕ) (l : Float) (c : Cell) (b : ℕ) (ts : Forest) (y : Float) (p : R.Worlds) → Shaped F (shp k n l (shapes ts)) → Valid F (node k n l c b ts) → W F y
        → Holds R (TickC F d (Update y) (node k n l c b ts)) p (λ w. rule_with m F child k n l c (Update y) ts w ▸ leave k n l)
    visit_good m k n l c b ts y p s v ev = after R (rule_good m k n l c b ts y p s v ev) elim [
      | Running ↦ λ r x q z. stay R z
      | Success ↦ λ r x q z. stay R z
      | Failure ↦ λ r x q z. stay R z
    ]

  -- ---- one walk, whose answers are whole
  abbrev watching : Pairing F
  watching = record {
    terms = nothing F;
    Worlds = (w : World) × WWorld F w;
    first = λ p m. m p.0;
    second = λ p m. m p.0;
    fuel = λ p. 0;
    Reach = λ n p q. Unit {0};
    stays = λ n p. tt;
    onward = λ m n p q r h i. tt;
    spends = λ n p q h. tt;
    Stop = λ n p o o'. (o ≡ o') × NotDone o;
    stop_then = λ n p o o' k k' h. stop_on o o' k k' h;
    stop_back = λ m n p q o o' h i. i;
    stop_short = λ n p h. (refl, tt);
    Upto = λ m n. Unit {0};
    upto = λ m n h. tt;
    reach_upto = λ m n p q u h. tt;
    stop_upto = λ m n p o o' u h. h;
    first_then = λ p m k. refl;
    second_then = λ p m k. refl;
  }

  acts : (child : Ticker) (n : ℕ) (l : Float) (c : Cell) (b : ℕ) (ts : Forest) (e : Event) (p : watching.Worlds)
      → Holds watching (NodeC F d Action n l c b ts e) p (λ w. rule F child Action n l c e ts w)
  unfolding rule
  acts child n l c b ts e (world f List.[], wv) = ends (asks n (dt e)) (asks n (dt e)) (refl, tt)
  acts child n l c b ts e (world f (List.◌∷◌ a ans), wv) = goes a.0 a.1 (c, ts) (world f ans, wv.1) tt (on a.0)
    where
      on : (s : Status) → Q F (NodeC F d Action n l c b ts e) s a.1 (c, ts)
      on Running = (tt, λ full j z. absurd z)
      on Success = wv.0
      on Failure = wv.0

  -- shape and mark stay, as they do in every tick
  same_too : (e : Event) (t : Tree) (w : World) (p : watching.Worlds) (o o' : Out Tree) → Sim watching 0 p (λ s r t' q. Q F (TickC F d e t) s r t') o o' → AfterTick w (Same t) o
      → Sim watching 0 p (λ s r t' q. TickQ F d e t s r t') o o'
  same_too e t w p o o' (goes s r t' q h x) k = goes s r t' q h (k.1, x)
  same_too e t w p o o' (ends u u' h) k = ends u u' h

  tick_good : (depth : ℕ) → Good watching d (tick F depth)
  unfolding tick
  tick_good zero t e p s v ev = ends short short (refl, tt)
  tick_good (suc depth) t e (world zero ans, wv) s v ev = ends short short (refl, tt)
  tick_good (suc depth) (node k n l c b ts) Other (world (suc f) ans, wv) s v ev = absurd ev
  tick_good (suc depth) (node k n l c b ts) (Update y) (world (suc f) ans, wv) s v ev =
      same_too (Update y) (node k n l c b ts) (world (suc f) ans) (world (suc f) ans, wv) _ _
      (rw (rule_with_lem F (tick F depth) k n l c (Update y) ts f ans)
      (back watching {m = 0} {q = (world f ans, wv)} tt (visit_good watching tt (tick F depth) (tick_good depth) (acts (tick F depth)) (suc f) k n l c b ts y (world f ans, wv) s v ev)))
      (tick_keeps F (suc depth) (node k n l c b ts) (Update y) (world (suc f) ans))

  -- what is told of a tick that is done
  abbrev Told : Event → Tree → Out Tree → Type 0
  Told e t (done s r t' w) = TickQ F d e t s r t'
  Told e t (asks n x) = Unit {0}
  Told e t short = Unit {0}

  pub tick_told : (depth : ℕ) (t : Tree) (e : Event) (w : World) (s : Status) (r : Float) (t' : Tree) (w' : World) → Shaped F (shape t) → Valid F t → WEvent F e → WWorld F w
      → tick F depth t e w ≡ done s r t' w' → TickQ F d e t s r t'
  tick_told depth t e w s r t' w' sh v ev wv q = subst (Told e t) q (on (tick F depth t e w) (tick F depth t e w) (tick_good depth t e (w, wv) sh v ev))
    where
      on : (o o' : Out Tree) → Sim watching 0 (w, wv) (λ s r t' q. TickQ F d e t s r t') o o' → Told e t o
      on o o' (goes s r t' q h x) = x
      on o o' (ends (done s r t' w') u' h) = absurd h.1
      on o o' (ends (asks n x) u' h) = tt
      on o o' (ends short u' h) = tt
