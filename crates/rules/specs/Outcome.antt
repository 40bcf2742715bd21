-- What a visit is given and what it gives: document 01, "One tick", its first two paragraphs.
use Rattle.std.specs.Prelude.{ℕ, Bool, true, false, cond, List, pos, ◌==◌, Float}
use Rattle.std.specs.Float.{fin, Format, binary32, binary64}
use Rattle.std.specs.Float.Ieee.{lt}
use Rattle.rules.specs.declared.status.Status.{Status}
use Rattle.rules.specs.declared.status.Status.TheVariants.{Running, Success, Failure}
use Rattle.rules.specs.declared.event.Event.{Event}
use Rattle.rules.specs.declared.event.Event.TheVariants.{Update, Other}
use Rattle.rules.specs.Tree.{zero_time, Tree}

-- an update carries its dt; of an other event dt is not looked at
abbrev pub event_of : Bool → Float → Event
event_of true x = Update x
event_of false x = Other

-- the dt that an event carries, 0 for an other event; and the event with the rest for its dt
abbrev pub dt : Event → Float
dt (Update x) = x
dt Other = zero_time

abbrev pub rest : Float → Event → Event
rest r (Update x) = Update r
rest r Other = Other

-- the fuel and the answers that are left
pub data World : Type 0 where
  world : ℕ → List (Status × Float) → World

-- done STATUS LEFTOVER NEXT WORLD; an action that found no answer left, with its number and dt; too little fuel
pub data Out (A : Type 0) : Type 0 where
  done : Status → Float → A → World → Out A
  asks : ℕ → Float → Out A
  short : Out A

-- what ticks a node
abbrev pub Ticker : Type 0
Ticker = Tree → Event → World → Out Tree

infixl 20 ◌▸◌
-- what follows once a child has answered; nothing follows a question or too little fuel
abbrev pub ◌▸◌ : {A B : Type 0} → Out A → (Status → Float → A → World → Out B) → Out B
done s r a w ▸ k = k s r a w
asks n x ▸ k = asks n x
short ▸ k = short

-- "Running" means (Running, 0)
abbrev pub waiting : {A : Type 0} → A → World → Out A
waiting a w = done Running zero_time a w

-- "Success and Failure exchanged"
abbrev pub exchanged : Status → Status
exchanged Running = Running
exchanged Success = Failure
exchanged Failure = Success

abbrev pub exchange : {A : Type 0} → Out A → Out A
exchange o = o ▸ λ s r a w. done (exchanged s) r a w

abbrev pub exchanging : Ticker → Ticker
exchanging child t e w = exchange (child t e w)

abbrev pub always_succeed : Status → Status
always_succeed Running = Running
always_succeed Success = Success
always_succeed Failure = Success

-- a format's largest finite number, and the smaller of two times
abbrev pub largest : Format → Float
largest binary32 = fin false 16777215 (pos 104)
largest binary64 = fin false 9007199254740991 (pos 971)

abbrev pub smaller : Float → Float → Float
smaller x y = cond (lt y x) y x

-- the board's byte of a status
abbrev pub byte : Status → ℕ
byte Running = 1
byte Success = 2
byte Failure = 3

-- the status of an answer's number, 1 to 3; a larger one, which every tick refuses, is taken for the last
abbrev pub status_of : ℕ → Status
status_of n = cond (n == 1) Running (cond (n == 2) Success Failure)
