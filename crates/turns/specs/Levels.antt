-- What an open node does with the result of the child that it waits for. Each driver goes on as in `work/specs/Flat`.
use Rattle.std.specs.Prelude.{◌≡◌, Bool, true, false, cond, not, ℕ, ◌+◌, ◌-◌, ◌≤◌, ◌<◌, eqb, Float}
use Rattle.std.specs.Float.{Format}
use Rattle.rules.specs.declared.behavior.Kind.{Kind}
use Rattle.rules.specs.declared.behavior.Kind.TheVariants.{Wait, WaitForever, Action, Invert, AlwaysSucceed, Timeout, Select, If, Sequence}
use Rattle.rules.specs.declared.behavior.Kind.TheVariants.{MemorylessSequence, MemorylessSelector, While, WhileAll, WhenAll, WhenAny, After, Race}
use Rattle.work.specs.Flat.{Out, out, Lent, Step, Visitor, and_then, turn_out, turning, decorated}
use Rattle.work.specs.Flat.{sequence_on, memoryless_on, when_all_on, race_on, after_on, while_on, while_holds, while_all_on, while_all_holds, if_on}
use Rattle.work.specs.Flat.{sequence_go, memoryless_go, when_all_go, race_go, after_go, while_go, while_body, while_all_go, chosen}
use Rattle.turns.specs.declared.level.Level.{Level}
use Rattle.turns.specs.declared.level.Turn.{Turn}
use Rattle.turns.specs.declared.level.Turn.TheVariants.{Due, Done}

abbrev pub entered_level : Kind → ℕ → Float → Level
entered_level k p dt = record { kind = k; node = p; child = 0; next = 0; stop = 0; index = 0; count = 0; whole = dt; rest = dt }

-- what fits into an entry, and into the numbers of a driver
pub record Fine (e : Level) : Type 0 where
  pub node_in : e.node < e.child
  pub child_in : e.child < 256
  pub next_in : e.next ≤ 256
  pub stop_in : e.stop ≤ 256
  pub index_in : e.index ≤ 255 + e.child

-- a node that was just entered
pub record Entered (e : Level) : Type 0 where
  pub node_in : e.node < 256
  pub next_zero : e.next ≡ 0
  pub stop_zero : e.stop ≡ 0
  pub index_zero : e.index ≡ 0
  pub count_zero : e.count ≡ 0

-- the driver's own: what it makes of an outcome of the child
abbrev pub Resumed : Type 0
Resumed = Visitor → Level → Out → Out

abbrev pub sequence_resumed : Bool → Resumed
sequence_resumed x v e o = turn_out x (and_then (turn_out x o) (sequence_on e.node e.stop (sequence_go (turning x v) e.node e.stop 256) e.child e.index))

abbrev pub memoryless_resumed : Bool → Resumed
memoryless_resumed x v e o = turn_out x (and_then (turn_out x o) (memoryless_on e.stop (memoryless_go (turning x v) e.stop 256) e.child e.next))

abbrev pub when_all_resumed : Bool → Resumed
when_all_resumed x v e o =
    turn_out x (and_then (turn_out x o) (when_all_on (when_all_go (turning x v) e.stop e.whole 256) e.child e.next (not (eqb e.count 0)) e.rest))

abbrev pub race_resumed : Resumed
race_resumed v e o = and_then o (race_on (race_go v e.stop e.whole 256) e.next)

abbrev pub after_resumed : Resumed
after_resumed v e o = and_then o (after_on e.node (after_go v e.node e.stop e.whole 256) e.next e.index (not (eqb e.count 0)) e.rest)

-- no turn is left before the condition; `next` is where the body begins
abbrev pub while_resumed : Resumed
while_resumed v e o = cond (eqb e.count 0)
    (and_then o (while_holds (while_body v e.node e.whole)))
    (and_then o (while_on e.node e.stop e.next (while_go v e.node e.stop e.next (e.count - 1)) e.child e.index))

abbrev pub while_all_resumed : Resumed
while_all_resumed v e o =
    let again = while_all_go v e.node e.stop e.next e.whole e.count in
    cond (eqb e.index 0)
    (and_then o (while_all_holds e.node (again e.next 1 e.rest)))
    (and_then o (while_all_on e.node e.stop e.next again e.child e.index))

abbrev pub if_resumed : Resumed
if_resumed v e o = cond (eqb e.index 0) (and_then o (if_on (chosen v e.node e.stop))) o

abbrev pub decorator_resumed : Format → Lent → Resumed
decorator_resumed F T v e o = and_then o (decorated F T e.node e.whole)

-- by the kind
module _ (F : Format) (T : Lent) (v : Visitor) where
  abbrev pub resumed_as : Kind → Level → Out → Out
  resumed_as Wait e o = o
  resumed_as WaitForever e o = o
  resumed_as Action e o = o
  resumed_as Invert e o = decorator_resumed F T v e o
  resumed_as AlwaysSucceed e o = decorator_resumed F T v e o
  resumed_as Timeout e o = decorator_resumed F T v e o
  resumed_as If e o = if_resumed v e o
  resumed_as Sequence e o = sequence_resumed false v e o
  resumed_as Select e o = sequence_resumed true v e o
  resumed_as MemorylessSequence e o = memoryless_resumed false v e o
  resumed_as MemorylessSelector e o = memoryless_resumed true v e o
  resumed_as While e o = while_resumed v e o
  resumed_as WhileAll e o = while_all_resumed v e o
  resumed_as WhenAll e o = when_all_resumed false v e o
  resumed_as WhenAny e o = when_all_resumed true v e o
  resumed_as After e o = after_resumed v e o
  resumed_as Race e o = race_resumed v e o

  abbrev pub resumed_by : Level → Out → Out
  resumed_by e o = resumed_as e.kind e o

-- a turn: the child's visit, and what is made of it; or a result
abbrev pub goes : Resumed → Visitor → Turn → Step
goes r v (Due n x) ws ts = r v n (v n.child x ws ts)
goes r v (Done r') ws ts = out r'.seen r'.left ws ts

-- what holds of the level whose child is due
abbrev pub IfDue : (Level → Type 0) → Turn → Type 0
IfDue P (Due n x) = P n
IfDue P (Done r) = Unit {0}

-- the level n comes behind e: the node and its kind stay, and the child that is due is fine
pub record Stays (e n : Level) : Type 0 where
  pub kind : n.kind ≡ e.kind
  pub node : n.node ≡ e.node
  pub fine : Fine n

-- a turn of the level e
abbrev pub Keeps : Level → Turn → Type 0
Keeps e = IfDue (Stays e)

-- the child that is due ends behind its place; only drivers that go on by `next` say so
abbrev pub Behind : Turn → Type 0
Behind = IfDue (λ n. n.child < n.next)

-- the body of a loop, which begins at `next`, stands behind the node; of a While once it has turns
abbrev pub InBody : Turn → Type 0
InBody = IfDue (λ n. 0 < n.count → n.node < n.next)

abbrev pub Bodied : Turn → Type 0
Bodied = IfDue (λ n. n.node < n.next)

-- what a driver needs of `next`, by its kind
abbrev pub Ready : Kind → Level → Type 0
Ready Wait e = Unit {0}
Ready WaitForever e = Unit {0}
Ready Action e = Unit {0}
Ready Invert e = Unit {0}
Ready AlwaysSucceed e = Unit {0}
Ready Timeout e = Unit {0}
Ready If e = Unit {0}
Ready Sequence e = Unit {0}
Ready Select e = Unit {0}
Ready MemorylessSequence e = e.child < e.next
Ready MemorylessSelector e = e.child < e.next
Ready While e = 0 < e.count → e.node < e.next
Ready WhileAll e = e.node < e.next
Ready WhenAll e = e.child < e.next
Ready WhenAny e = e.child < e.next
Ready After e = e.child < e.next
Ready Race e = e.child < e.next

-- what holds of an open node
pub record Sound (e : Level) : Type 0 where
  pub fine : Fine e
  pub ready : Ready e.kind e

-- the level n comes behind e: the node and its kind stay, and the level of a child that is due is sound
pub record StaysSound (e n : Level) : Type 0 where
  pub kind : n.kind ≡ e.kind
  pub node : n.node ≡ e.node
  pub sound : Sound n

-- a turn of the level e
abbrev pub KeepsSound : Level → Turn → Type 0
KeepsSound e = IfDue (StaysSound e)
