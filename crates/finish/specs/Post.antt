-- What is shown of each outcome of a tick: an end has a whole leftover; a tree that goes on is valid, and a tick of d or more lowers the number of
-- ticks that are still enough. That shape and mark stay is known of every tick.
use Rattle.std.specs.Prelude.{List, ℕ, suc, ◌≤◌, Float}
use Rattle.std.specs.Float.{Format}
use Rattle.rules.specs.declared.behavior.Kind.{Kind}
use Rattle.rules.specs.declared.status.Status.{Status}
use Rattle.rules.specs.declared.status.Status.TheVariants.{Running, Success, Failure}
use Rattle.rules.specs.declared.event.Event.{Event}
use Rattle.rules.specs.declared.event.Event.TheVariants.{Update, Other}
use Rattle.rules.specs.Tree.{Cell, Tree, node, Forest}
use Rattle.rules.specs.Outcome.{dt, World, world, Out, done, Ticker, ◌▸◌, exchange, exchanging, byte}
use Rattle.rules.specs.State.{Next}
use Rattle.rules.specs.Bound.{num}
use Rattle.floats.specs.Times.{W}
use Rattle.laws.specs.Shape.{shape}
use Rattle.laws.specs.PairDrivers.{Same}
use Rattle.laws.specs.Pair.{Pairing, Both, weak, stay, after}
use Rattle.laws.specs.PairRules.{exchange_pair}
use Rattle.finish.specs.Shaped.{Shaped}
use Rattle.finish.specs.Enough.{Still}
use Rattle.finish.specs.Valid.{Valid}

-- what is claimed of a thing that goes on: it is valid, and a tick takes something from it
pub record Claim (A : Type 0) : Type 1 where
  pub valid : A → Type 0
  pub down : A → Type 0

module _ (F : Format) where
  -- the answers' leftovers are whole
  abbrev pub WAll : List (Status × Float) → Type 0
  WAll List.[] = Unit {0}
  WAll (List.◌∷◌ a ans) = W F a.1 × WAll ans

  abbrev pub WWorld : World → Type 0
  WWorld (world f ans) = WAll ans

  abbrev pub WEvent : Event → Type 0
  WEvent (Update x) = W F x
  WEvent Other = ⊥

  -- an end has a whole leftover; what goes on is valid, and goes down
  abbrev pub Q : {A : Type 0} → Claim A → Status → Float → A → Type 0
  Q c Running r a = c.valid a × c.down a
  Q c Success r a = W F r
  Q c Failure r a = W F r

  module _ (d : ℕ) where
    -- of a thing a, and the number of ticks that it needs: a full tick lowers it
    abbrev pub ticking : {A : Type 0} → (A → Type 0) → (A → ℕ → Type 0) → Event → A → Claim A
    ticking K L e a = record { valid = K; down = λ a'. d ≤ num (dt e) → (j : ℕ) → L a (suc j) → L a' j }

    -- of a tree; and a tick keeps its shape and its mark
    abbrev pub TickC : Event → Tree → Claim Tree
    TickC e t = ticking (Valid F) (Still d) e t

    abbrev pub TickQ : Event → Tree → Status → Float → Tree → Type 0
    TickQ e t s r t' = Same t t' × Q (TickC e t) s r t'

    -- of the cell and the children that a rule leaves: those of a node that goes on
    abbrev pub running : Kind → ℕ → Float → Next → Tree
    running k n l x = node k n l x.0 (byte Running) x.1

    abbrev pub NodeC : Kind → ℕ → Float → Cell → ℕ → Forest → Event → Claim Next
    NodeC k n l c b ts e = record {
      valid = λ x. Valid F (running k n l x);
      down = λ x. d ≤ num (dt e) → (j : ℕ) → Still d (node k n l c b ts) (suc j) → Still d (running k n l x) j;
    }

-- ---- in whichever worlds it walks
module _ {F : Format} (R : Pairing F) where
  abbrev pub Holds : {A : Type 0} → Claim A → R.Worlds → (World → Out A) → Type 0
  Holds c p o = Both R 0 p (λ s r a q. Q F c s r a) o o

  -- what is done with an outcome, with no more visits
  pub claim_map : {A B : Type 0} {c : Claim A} {c' : Claim B} {p : R.Worlds} {o : World → Out A} (f : A → B) → ((a : A) → c.valid a → c.down a → c'.valid (f a) × c'.down (f a))
      → Holds c p o → Holds c' p (λ w. o w ▸ λ s r a w'. done s r (f a) w')
  claim_map f k h = after R h elim [
    | Running ↦ λ r a q x. stay R (k a x.0 x.1)
    | Success ↦ λ r a q x. stay R x
    | Failure ↦ λ r a q x. stay R x
  ]

  pub claim_weak : {A : Type 0} {c c' : Claim A} {p : R.Worlds} {o : World → Out A} → ((a : A) → c.valid a → c.down a → c'.valid a × c'.down a) → Holds c p o → Holds c' p o
  claim_weak k h = weak R h elim [
    | Running ↦ λ r a q x. k a x.0 x.1
    | Success ↦ λ r a q x. x
    | Failure ↦ λ r a q x. x
  ]

  pub exchange_holds : {A : Type 0} {c : Claim A} {p : R.Worlds} {o : World → Out A} → Holds c p o → Holds c p (λ w. exchange (o w))
  exchange_holds h = exchange_pair R h elim [
    | Running ↦ λ r a q x. x
    | Success ↦ λ r a q x. x
    | Failure ↦ λ r a q x. x
  ]

  module _ (d : ℕ) where
    abbrev pub Good : Ticker → Type 0
    Good child = (t : Tree) (e : Event) (p : R.Worlds) → Shaped F (shape t) → Valid F t → WEvent F e → Both R 0 p (λ s r t' q. TickQ F d e t s r t') (λ w. child t e w) (λ w. child t e w)

    pub exchanging_good : (child : Ticker) → Good child → Good (exchanging child)
    exchanging_good child g t e p s v ev = exchange_pair R (g t e p s v ev) elim [
      | Running ↦ λ r t' q x. x
      | Success ↦ λ r t' q x. x
      | Failure ↦ λ r t' q x. x
    ]
