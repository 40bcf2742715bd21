-- One tick, rule by rule: document 01, "One tick". Each rule is given the ticker of the node's children, and says the node's cell and children before and after.
use Rattle.std.specs.Prelude.{ℕ, zero, suc, true, false, List, Float}
use Rattle.std.specs.Float.{Format}
use Rattle.std.specs.Float.Ieee.{add, sub, le}
use Rattle.rules.specs.declared.behavior.Kind.{Kind}
use Rattle.rules.specs.declared.behavior.Kind.TheVariants.{Wait, WaitForever, Action, Invert, AlwaysSucceed, Timeout, Select, If, Sequence}
use Rattle.rules.specs.declared.behavior.Kind.TheVariants.{MemorylessSequence, MemorylessSelector, While, WhileAll, WhenAll, WhenAny, After, Race}
use Rattle.rules.specs.declared.status.Status.{Status}
use Rattle.rules.specs.declared.status.Status.TheVariants.{Running, Success, Failure}
use Rattle.rules.specs.declared.event.Event.{Event}
use Rattle.rules.specs.declared.event.Event.TheVariants.{Update, Other}
use Rattle.rules.specs.Tree.{Cell, with_time, with_place, node, Forest, [], ◌◂◌, fresh}
use Rattle.rules.specs.Outcome.{dt, rest, World, world, Out, done, asks, short, Ticker, ◌▸◌, waiting, exchanged, exchange, exchanging, always_succeed, largest, byte}
use Rattle.rules.specs.Sequence.{sequence_at, memoryless}
use Rattle.rules.specs.WhenAll.{when_all, race_from, after_at}
use Rattle.rules.specs.Loops.{budget, while_body, while_all}

abbrev pub Next : Type 0
Next = Cell × Forest

-- the driver's place goes into the cell
abbrev pub at_place : Cell → Out (ℕ × Forest) → Out Next
at_place c o = o ▸ λ s r x w. done s r (with_place x.0 c, x.1) w

-- the cell stays
abbrev pub in_cell : Cell → Out Forest → Out Next
in_cell c o = o ▸ λ s r ts w. done s r (c, ts) w

-- Invert, AlwaysSucceed: change the status only; leftover passes
abbrev pub only : Ticker → (Status → Status) → Cell → Event → Forest → World → Out Next
only child change c e [] w = short
only child change c e (t ◂ ts) w = child t e w ▸ λ s r t' w'. done (change s) r (c, t' ◂ ts) w'

-- Wait and Timeout: the time that has passed, against the limit
abbrev pub time_passes : {A : Type 0} → Format → Float → Float → (Float → Out A) → (Float → Out A) → Out A
time_passes F now limit ends waits = elim (le limit now) [ true ↦ ends (sub F now limit) | false ↦ waits now ]

-- If: the condition, then the chosen branch, whose whole result passes
abbrev pub if_at : Ticker → ℕ → Event → Forest → World → Out (ℕ × Forest)
if_at child zero e (c ◂ a ◂ b ◂ ts) w = child c e w ▸ λ s r c' w'. elim s [
  | Running ↦ done Running r (0, c' ◂ a ◂ b ◂ ts) w'
  | Success ↦ child (fresh a) (rest r e) w' ▸ λ s'' r'' a' w''. done s'' r'' (1, fresh c' ◂ a' ◂ b ◂ ts) w''
  | Failure ↦ child (fresh b) (rest r e) w' ▸ λ s'' r'' b' w''. done s'' r'' (2, fresh c' ◂ a ◂ b' ◂ ts) w''
]
if_at child (suc zero) e (c ◂ a ◂ b ◂ ts) w = child a e w ▸ λ s r a' w'. done s r (1, c ◂ a' ◂ b ◂ ts) w'
if_at child (suc (suc zero)) e (c ◂ a ◂ b ◂ ts) w = child b e w ▸ λ s r b' w'. done s r (2, c ◂ a ◂ b' ◂ ts) w'
if_at child (suc (suc (suc p))) e (c ◂ a ◂ b ◂ ts) w = short
if_at child p e [] w = short
if_at child p e (c ◂ []) w = short
if_at child p e (c ◂ a ◂ []) w = short

unfoldable pub rule : Format → Ticker → Kind → ℕ → Float → Cell → Event → Forest → World → Out Next
unfolding sequence_at memoryless when_all race_from after_at while_body while_all add sub le fresh
rule F child Action n l c e ts (world f List.[]) = asks n (dt e)
rule F child Action n l c e ts (world f (List.◌∷◌ a ans)) = done a.0 a.1 (c, ts) (world f ans)
rule F child Invert n l c e ts w = only child exchanged c e ts w
rule F child AlwaysSucceed n l c e ts w = only child always_succeed c e ts w
rule F child Wait n l c (Update y) ts w = time_passes F (add F c.time y) l (λ r. done Success r (with_time l c, ts) w) (λ x. waiting (with_time x c, ts) w)
rule F child Wait n l c Other ts w = waiting (c, ts) w
rule F child WaitForever n l c e ts w = waiting (c, ts) w
rule F child Timeout n l c e [] w = short
rule F child Timeout n l c e (t ◂ ts) w = child t e w ▸ λ s r t' w'. elim s [
  | Running ↦ let now = add F c.time (dt e) in time_passes F now l (λ r'. done Failure r' (with_time now c, t' ◂ ts) w') (λ x. waiting (with_time x c, t' ◂ ts) w')
  | Success ↦ done Success r (c, t' ◂ ts) w'
  | Failure ↦ done Failure r (c, t' ◂ ts) w'
]
rule F child If n l c e ts w = at_place c (if_at child c.place e ts w)
rule F child Sequence n l c e ts w = at_place c (sequence_at child c.place e ts w)
rule F child Select n l c e ts w = at_place c (exchange (sequence_at (exchanging child) c.place e ts w))
rule F child MemorylessSequence n l c e ts w = in_cell c (memoryless child e ts w)
rule F child MemorylessSelector n l c e ts w = in_cell c (exchange (memoryless (exchanging child) e ts w))
rule F child While n l c e [] w = short
rule F child While n l c e (t ◂ ts) w = child t e w ▸ λ s r t' w'. elim s [
  | Running ↦ while_body child (budget w) c.place e ts w' ▸ λ s'' r'' y w''. done s'' r'' (with_place y.0 c, t' ◂ y.1) w''
  | Success ↦ done Success r (c, t' ◂ ts) w'
  | Failure ↦ done Failure r (c, t' ◂ ts) w'
]
rule F child WhileAll n l c e [] w = short
rule F child WhileAll n l c e (t ◂ ts) w = at_place c (while_all child (budget w) e c.place e t ts w)
rule F child WhenAll n l c e ts w = in_cell c (when_all child (largest F) e ts w)
rule F child WhenAny n l c e ts w = in_cell c (exchange (when_all (exchanging child) (largest F) e ts w))
rule F child After n l c e ts w = at_place c (after_at child (largest F) c.place e ts w)
rule F child Race n l c e ts w = in_cell c (race_from child e ts w)

-- a visit: it takes one of the fuel, and leaves its status on the board. `depth` bounds how far down the tree goes.
unfoldable pub tick : Format → ℕ → Ticker
unfolding rule
tick F zero t e w = short
tick F (suc depth) t e (world zero ans) = short
tick F (suc depth) (node k n l c b ts) e (world (suc f) ans) = rule F (tick F depth) k n l c e ts (world f ans) ▸ λ s r x w. done s r (node k n l x.0 (byte s) x.1) w
