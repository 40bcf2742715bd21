-- A flat outcome that says what an outcome of the rules says.
use Rattle.std.specs.Prelude.{◌≡◌, refl, Bool, true, false, cond, not, List, ℕ, suc, ◌+◌, ◌≤◌, ◌<◌, Float, get_or, drop}
use Rattle.std.proofs.Common.{ap, ◌∙◌, arith}
use Rattle.rules.specs.declared.status.Status.{Status}
use Rattle.rules.specs.declared.status.Status.TheVariants.{Running, Success, Failure}
use Rattle.rules.specs.declared.event.Event.{Event}
use Rattle.rules.specs.declared.event.Event.TheVariants.{Update, Other}
use Rattle.rules.specs.Tree.{zero_time, Tree, Forest, ◌◂◌}
use Rattle.rules.specs.Outcome.{event_of, rest, World, world, Out, done, asks, short, Ticker, ◌▸◌, exchange, exchanging}
use Rattle.rules.specs.Call.{answers}
use Rattle.work.specs.declared.result.Seen.TheVariants.{Stopped}
use Rattle.work.specs.Array.{asked_of}
use Rattle.work.specs.Flat.{out, Step, Visitor, seen_as, and_then, turn_out, turning}
use Rattle.work.specs.Flat as flat
use Rattle.refine.specs.Runs.{asked_in}
use Rattle.refine.specs.Stand.{Given}
use Rattle.refine.specs.Frame.{Frame, nodes_in, words_in, times_in, First, All, full_length}

-- how a value stands in the words, by the fuel left and the answers used, and in the times; and what holds of it
pub record View (G : Given) (A : Type 0) : Type 1 where
  pub good : A → Type 0
  pub words : A → ℕ → ℕ → List ℕ
  pub times : A → List Float

-- fewer of the fuel than `most` are left, and the answers used and the fuel left are no more than the fuel at the start
pub record Spent (G : Given) (most f u : ℕ) : Type 0 where
  pub burnt : f < most
  pub few : u + f ≤ G.fuel

-- a result
pub record Went {G : Given} {A : Type 0} (most : ℕ) (S : View G A) (s : Status) (r : Float) (a : A) (f : ℕ) (ans : List (Status × Float)) (o : flat.Out) : Type 0 where
  pub used : ℕ
  pub left : ans ≡ drop used (answers G.statuses G.leftovers)
  pub spent : Spent G most f used
  pub good : S.good a
  pub is : o ≡ out (seen_as s) r (S.words a f used) (S.times a)

-- a stop: only its leftover and the place that asks are said
pub record Stop (x : Float) (place : ℕ) (o : flat.Out) : Type 0 where
  pub words : List ℕ
  pub times : List Float
  pub asked : asked_of words ≡ place
  pub is : o ≡ out Stopped x words times

pub record Asked (G : Given) (m : ℕ) (x : Float) (o : flat.Out) : Type 0 where
  pub place : ℕ
  pub within : place < G.nodes
  pub number : get_or G.ns place 0 ≡ m
  pub stop : Stop x (suc place) o

abbrev pub Sim : {G : Given} {A : Type 0} → ℕ → View G A → Out A → flat.Out → Type 0
Sim most S (done s r a (world f ans)) o = Went most S s r a f ans o
Sim {G = G} most S (asks m x) o = Asked G m x o
Sim most S short o = Stop zero_time 0 o

abbrev pub world_at : Given → ℕ → ℕ → World
world_at G f u = world f (drop u (answers G.statuses G.leftovers))

abbrev pub event : Given → Float → Event
event G x = event_of G.update x

pub rest_event : (G : Given) (x r : Float) → rest r (event G x) ≡ event G r
rest_event G x r = same G.update
  where
    same : (b : Bool) → rest r (event_of b x) ≡ event_of b r
    same true = refl
    same false = refl

-- what keeps a stop
stop_kept : (x : Float) (n : ℕ) (o : flat.Out) (g : flat.Out → flat.Out)
    → ((ws : List ℕ) (ts : List Float) → g (out Stopped x ws ts) ≡ out Stopped x ws ts)
    → Stop x n o
    → Stop x n (g o)
stop_kept x n o g k e = record { words = e.words; times = e.times; asked = e.asked; is = ap g e.is ∙ k e.words e.times }

-- Success and Failure exchanged, or not
abbrev pub turn : {A : Type 0} → Bool → Out A → Out A
turn true o = exchange o
turn false o = o

abbrev pub turn_tick : Bool → Ticker → Ticker
turn_tick true child = exchanging child
turn_tick false child = child

module _ {G : Given} where
  asked_kept : (m : ℕ) (x : Float) (o : flat.Out) (g : flat.Out → flat.Out)
      → ((ws : List ℕ) (ts : List Float) → g (out Stopped x ws ts) ≡ out Stopped x ws ts)
      → Asked G m x o
      → Asked G m x (g o)
  asked_kept m x o g k e = record { place = e.place; within = e.within; number = e.number; stop = stop_kept x (suc e.place) o g k e.stop }

  pub went : {A : Type 0} {most : ℕ} {S : View G A} {s : Status} {r : Float} {a : A} {f : ℕ} (u : ℕ) {ws : List ℕ} {ts : List Float}
      → Spent G most f u
      → S.good a
      → ws ≡ S.words a f u
      → ts ≡ S.times a
      → Went most S s r a f (drop u (answers G.statuses G.leftovers)) (out (seen_as s) r ws ts)
  went {s = s} {r = r} u e g ew et = record { used = u; left = refl; spent = e; good = g; is = λ i. out (seen_as s) r (ew i) (et i) }

  pub still : {most f u : ℕ} → Spent G most f u → Spent G (suc most) f u
  still e = record { burnt = omega (arith, e.burnt); few = e.few }

  pub unspent : (f u : ℕ) → u + f ≤ G.fuel → Spent G (suc f) f u
  unspent f u e = record { burnt = omega arith; few = e }

  -- what follows
  pub sim_bind : {A B : Type 0} (S : View G A) (most : ℕ) (W : View G B) (most' : ℕ) (o : Out A) (o' : flat.Out) (k : Status → Float → A → World → Out B) (k' : Status → Float → Step)
      → Sim most S o o'
      → ((s : Status) (r : Float) (a : A) (f u : ℕ) → S.good a → Spent G most f u → Sim most' W (k s r a (world_at G f u)) (k' s r (S.words a f u) (S.times a)))
      → Sim most' W (o ▸ k) (and_then o' k')
  sim_bind S most W most' (done Running r a (world f ans)) o' k k' e h = rw (e.left, e.is) (h Running r a f e.used e.good e.spent)
  sim_bind S most W most' (done Success r a (world f ans)) o' k k' e h = rw (e.left, e.is) (h Success r a f e.used e.good e.spent)
  sim_bind S most W most' (done Failure r a (world f ans)) o' k k' e h = rw (e.left, e.is) (h Failure r a f e.used e.good e.spent)
  sim_bind S most W most' (asks m x) o' k k' e h = asked_kept m x o' (λ o. and_then o k') (λ ws ts. refl) e
  sim_bind S most W most' short o' k k' e h = stop_kept zero_time 0 o' (λ o. and_then o k') (λ ws ts. refl) e

  -- a part's outcome is put back into the whole, and the lists stay as they are
  pub sim_keep : {A B : Type 0} (S : View G A) (most : ℕ) (W : View G B) (most' : ℕ) (o : Out A) (o' : flat.Out) (m : A → B)
      → Sim most S o o'
      → most ≤ most'
      → ((a : A) (f u : ℕ) → S.good a → W.good (m a) × (S.words a f u ≡ W.words (m a) f u) × (S.times a ≡ W.times (m a)))
      → Sim most' W (o ▸ λ s r a w. done s r (m a) w) o'
  sim_keep S most W most' (done s r a (world f ans)) o' m e n h =
      let z = h a f e.used e.good in
      record {
        used = e.used;
        left = e.left;
        spent = record { burnt = omega (arith, e.spent.burnt); few = e.spent.few };
        good = z.0;
        is = e.is ∙ λ i. out (seen_as s) r (z.1 i) (z.2 i);
      }
  sim_keep S most W most' (asks m x) o' k e n h = e
  sim_keep S most W most' short o' m e n h = e

  -- the same outcome, said of values in another way
  pub sim_same : {A : Type 0} (S W : View G A) (most most' : ℕ) (o : Out A) (o' : flat.Out)
      → Sim most S o o'
      → most ≤ most'
      → ((a : A) (f u : ℕ) → S.good a → W.good a × (S.words a f u ≡ W.words a f u) × (S.times a ≡ W.times a))
      → Sim most' W o o'
  sim_same S W most most' (done s r a (world f ans)) o' e n h = sim_keep S most W most' (done s r a (world f ans)) o' (λ a. a) e n h
  sim_same S W most most' (asks m x) o' e n h = e
  sim_same S W most most' short o' e n h = e

  pub sim_more : {A : Type 0} (S : View G A) (most most' : ℕ) (o : Out A) (o' : flat.Out) → Sim most S o o' → most ≤ most' → Sim most' S o o'
  sim_more S most most' o o' e n = sim_same S S most most' o o' e n λ a f u g. (g, refl, refl)

  module _ {A : Type 0} (S : View G A) (most : ℕ) where
    pub sim_either : (b : Bool) (x y : Out A) (x' y' : flat.Out) → Sim most S x x' → Sim most S y y' → Sim most S (elim b [ true ↦ x | false ↦ y ]) (cond b x' y')
    sim_either true x y x' y' u v = u
    sim_either false x y x' y' u v = v

    pub sim_unless : (b : Bool) (x y : Out A) (x' y' : flat.Out) → Sim most S x x' → Sim most S y y' → Sim most S (elim b [ true ↦ x | false ↦ y ]) (cond (not b) y' x')
    sim_unless true x y x' y' u v = u
    sim_unless false x y x' y' u v = v

    -- on an update, and on an other event
    pub sim_event : (z : Float) (x : Out A) (y : Out A) (x' y' : flat.Out)
        → (((r : Float) → Update r ≡ event G r) → Sim most S x x')
        → Sim most S y y'
        → Sim most S (elim (event G z) [ Update _ ↦ x | Other ↦ y ]) (cond G.update x' y')
    sim_event z x y x' y' u v = by G.update u
      where
        by : (b : Bool) → (((r : Float) → Update r ≡ event_of b r) → Sim most S x x') → Sim most S (elim (event_of b z) [ Update _ ↦ x | Other ↦ y ]) (cond b x' y')
        by true u = u (λ r. refl)
        by false u = v

  -- ---- Success and Failure exchanged, or not
  turn_went : {A : Type 0} {most : ℕ} {S : View G A} {s : Status} (x : Bool) (s' : Status) {r : Float} {a : A} {f : ℕ} {ans : List (Status × Float)} {o : flat.Out}
      → flat.turned x (seen_as s) ≡ seen_as s'
      → Went most S s r a f ans o
      → Went most S s' r a f ans (turn_out x o)
  turn_went {S = S} x s' {r = r} {a = a} {f = f} k e =
      record { used = e.used; left = e.left; spent = e.spent; good = e.good; is = ap (turn_out x) e.is ∙ λ i. out (k i) r (S.words a f e.used) (S.times a) }

  pub sim_turn : {A : Type 0} (S : View G A) (most : ℕ) (x : Bool) (o : Out A) (o' : flat.Out) → Sim most S o o' → Sim most S (turn x o) (turn_out x o')
  sim_turn S most true (done Running r a (world f ans)) o' e = turn_went true Running refl e
  sim_turn S most true (done Success r a (world f ans)) o' e = turn_went true Failure refl e
  sim_turn S most true (done Failure r a (world f ans)) o' e = turn_went true Success refl e
  sim_turn S most false (done Running r a (world f ans)) o' e = turn_went false Running refl e
  sim_turn S most false (done Success r a (world f ans)) o' e = turn_went false Success refl e
  sim_turn S most false (done Failure r a (world f ans)) o' e = turn_went false Failure refl e
  sim_turn S most true (asks m x) o' e = asked_kept m x o' (turn_out true) (λ ws ts. refl) e
  sim_turn S most false (asks m x) o' e = asked_kept m x o' (turn_out false) (λ ws ts. refl) e
  sim_turn S most true short o' e = stop_kept zero_time 0 o' (turn_out true) (λ ws ts. refl) e
  sim_turn S most false short o' e = stop_kept zero_time 0 o' (turn_out false) (λ ws ts. refl) e

  module _ {d : ℕ} where
    -- too little fuel
    pub stopped_in : (fr : Frame G d) (ts : Forest) → All fr ts → (f u : ℕ) → Stop zero_time 0 (out Stopped zero_time (words_in fr ts f u) (times_in fr ts))
    stopped_in fr ts vs f u = record { words = words_in fr ts f u; times = times_in fr ts; asked = asked_in (nodes_in fr ts) (full_length fr ts vs) G.update f u; is = refl }

    -- a step on the trees of a frame
    abbrev pub on : Frame G d → Forest → ℕ → ℕ → Step → flat.Out
    on fr ts f u step = step (words_in fr ts f u) (times_in fr ts)

    -- a tree before us, and all trees of a frame
    abbrev pub tree : Frame G d → Forest → View G Tree
    tree fr us = record { good = λ t. First fr t; words = λ t f u. words_in fr (t ◂ us) f u; times = λ t. times_in fr (t ◂ us) }

    abbrev pub trees : Frame G d → View G Forest
    trees fr = record { good = λ ts. All fr ts; words = λ ts f u. words_in fr ts f u; times = λ ts. times_in fr ts }

-- ---- the visitor does at q what the ticker does to the tree that stands there, before us
abbrev pub Ticks : Given → ℕ → Ticker → Visitor → Type 0
Ticks G d child v = (fr : Frame G d) (t : Tree) (us : Forest) (x : Float) (f u : ℕ)
    → All fr (t ◂ us)
    → u + f ≤ G.fuel
    → Sim f (tree fr us) (child t (event G x) (world_at G f u)) (on fr (t ◂ us) f u (v fr.q x))

-- with no fuel there is no visit
abbrev pub Dry : Ticker → Type 0
Dry child = (t : Tree) (e : Event) (ans : List (Status × Float)) → child t e (world 0 ans) ≡ short

pub ticks_turn : (G : Given) (d : ℕ) (child : Ticker) (v : Visitor) (x : Bool) → Ticks G d child v → Ticks G d (turn_tick x child) (turning x v)
ticks_turn G d child v true g fr t us y f u vs e = sim_turn (tree fr us) f true (child t (event G y) (world_at G f u)) _ (g fr t us y f u vs e)
ticks_turn G d child v false g fr t us y f u vs e = sim_turn (tree fr us) f false (child t (event G y) (world_at G f u)) _ (g fr t us y f u vs e)

-- what follows a visit
pub sim_visit : (G : Given) (d : ℕ) (child : Ticker) (v : Visitor) → Ticks G d child v → {B : Type 0} (W : View G B) (fr : Frame G d) (t : Tree) (us : Forest) (x : Float) (f u : ℕ)
    (k : Status → Float → Tree → World → Out B) (k' : Status → Float → Step)
    → All fr (t ◂ us)
    → u + f ≤ G.fuel
    → ((s : Status) (r : Float) (t' : Tree) (f' u' : ℕ) → First fr t' → Spent G f f' u' → Sim (suc f) W (k s r t' (world_at G f' u')) (on fr (t' ◂ us) f' u' (k' s r)))
    → Sim (suc f) W (child t (event G x) (world_at G f u) ▸ k) (and_then (on fr (t ◂ us) f u (v fr.q x)) k')
sim_visit G d child v g W fr t us x f u k k' vs e h = sim_bind (tree fr us) f W (suc f) (child t (event G x) (world_at G f u)) _ k k' (g fr t us x f u vs e) h
