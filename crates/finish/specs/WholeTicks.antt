-- What demand 3 asks of a history of calls, and of it alone of those that were answered 0.
use Rattle.std.specs.Prelude.{List, ℕ, ◌≤◌, T, take, Float}
use Rattle.std.specs.Float.{Format}
use Rattle.rules.specs.declared.status.Status.{Status}
use Rattle.rules.specs.declared.event.Event.{Event}
use Rattle.rules.specs.declared.event.Event.TheVariants.{Update, Other}
use Rattle.rules.specs.Tree.{Tree}
use Rattle.rules.specs.Call.{answers, cleaned_event}
use Rattle.rules.specs.Bound.{num, whole_time}
use Rattle.laws.specs.View.{Call}
use Rattle.laws.specs.History.{Standing, TakesUp}
use Rattle.laws.specs.Invariant.{AllAsked}
use Rattle.floats.specs.Times.{whole_W}
use Rattle.finish.specs.Post.{WAll}

-- an update with a whole time from d to the cap: 2 ^ 40, of f32 2 ^ 20
abbrev pub WholeEvent : Format → ℕ → Event → Type 0
WholeEvent F d (Update x) = T (whole_time F x) × (d ≤ num x)
WholeEvent F d Other = ⊥

-- whole leftovers, up to the cap
abbrev pub WholeAnswers : Format → List (Status × Float) → Type 0
WholeAnswers F List.[] = Unit {0}
WholeAnswers F (List.◌∷◌ a rest) = T (whole_time F a.1) × WholeAnswers F rest

-- a tick or a restart of the tree t that was carried out, after what stood, and used so many of its answers
pub record WholeTick (F : Format) (t : Tree) (d : ℕ) (st : Standing) (a : Call) (used : ℕ) : Type 0 where
  pub takes_up : TakesUp t st a
  pub whole_time : WholeEvent F d (cleaned_event a.given'.event)
  pub whole_leftovers : WholeAnswers F (take used (answers a.given'.statuses a.given'.leftovers))

-- each call answered 0 is such a one, and all other calls are free
abbrev pub WholeHistory : Format → Tree → ℕ → Standing → List Call → Type 0
WholeHistory F t d = AllAsked F (WholeTick F t d)

pub whole_all : (F : Format) (ans : List (Status × Float)) → WholeAnswers F ans → WAll F ans
whole_all F List.[] h = tt
whole_all F (List.◌∷◌ a ans) h = (whole_W F a.1 h.0, whole_all F ans h.1)
