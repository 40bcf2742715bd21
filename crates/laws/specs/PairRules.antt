-- Two walks side by side through the rule of each kind. The loops' budget is any number here: `rule_with` is the rule with that number for it.
use Rattle.std.specs.Prelude.{◌≡◌, Bool, true, false, cond, ◌||◌, List, ℕ, suc, ◌<◌, T, Float}
use Rattle.std.proofs.Math.Path.{refl, sym}
use Rattle.std.proofs.Common.{ap, ◌∙◌, eqb→eq}
use Rattle.std.specs.Float.{Format}
use Rattle.rules.specs.declared.behavior.Kind.{Kind}
use Rattle.rules.specs.declared.behavior.Kind.TheVariants.{Action}
use Rattle.rules.specs.declared.behavior.Kind.TheVariants.{While, WhileAll}
use Rattle.rules.specs.declared.status.Status.{Status}
use Rattle.rules.specs.declared.status.Status.TheVariants.{Running, Success, Failure}
use Rattle.rules.specs.declared.event.Event.{Event}
use Rattle.rules.specs.Kinds.{code, kind_of, children, marks_children, is}
use Rattle.rules.specs.Codes.{kind_code}
use Rattle.rules.specs.Tree.{Cell, with_place, Forest, [], ◌◂◌, Tree, node}
use Rattle.rules.specs.Outcome.{World, world, Out, done, short, Ticker, ◌▸◌, exchanged, exchange, byte}
use Rattle.rules.specs.Loops.{while_body, while_all}
use Rattle.rules.specs.State.{Next, at_place, rule}
use Rattle.rules.specs.Table.{count_allowed, limit_allowed}
use Rattle.laws.specs.Shape.{shapes, count_of}
use Rattle.laws.specs.Live.{choose, LiveCellBy}
use Rattle.laws.specs.Pair.{Pairing, Known, Time, Of, Both, stay, after}
use Rattle.laws.specs.PairDrivers.{Livelies, Marked}

abbrev pub while_with : ℕ → Ticker → Cell → Event → Forest → World → Out Next
while_with b child c e [] w = short
while_with b child c₀ e (c ◂ ts) w = child c e w ▸ λ s r c' w'. elim s [
  | Running ↦ while_body child b c₀.place e ts w' ▸ λ s'' r'' y w''. done s'' r'' (with_place y.0 c₀, c' ◂ y.1) w''
  | Success ↦ done Success r (c₀, c' ◂ ts) w'
  | Failure ↦ done Failure r (c₀, c' ◂ ts) w'
]

abbrev pub while_all_with : ℕ → Ticker → Cell → Event → Forest → World → Out Next
while_all_with b child c e [] w = short
while_all_with b child c₀ e (c ◂ ts) w = at_place c₀ (while_all child b e c₀.place e c ts w)

unfoldable pub rule_with : ℕ → Format → Ticker → Kind → ℕ → Float → Cell → Event → Forest → World → Out Next
unfolding rule
rule_with b F child k n l c e ts w = cond (is k While) (while_with b child c e ts w) (cond (is k WhileAll) (while_all_with b child c e ts w) (rule F child k n l c e ts w))

is_kind : (k k' : Kind) → T (is k k') → k ≡ k'
is_kind k k' h = sym (kind_code k) ∙ ap kind_of (eqb→eq (code k) (code k') h) ∙ kind_code k'

-- the rules' own budget is one more than the fuel
module _ (F : Format) (child : Ticker) where
  while_with_lem : (n : ℕ) (l : Float) (c : Cell) (e : Event) (ts : Forest) (f : ℕ) (ans : List (Status × Float))
      → rule F child While n l c e ts (world f ans) ≡ while_with (suc f) child c e ts (world f ans)
  unfolding rule
  while_with_lem n l c e [] f ans = refl
  while_with_lem n l c e (t ◂ ts) f ans = refl

  while_all_with_lem : (n : ℕ) (l : Float) (c : Cell) (e : Event) (ts : Forest) (f : ℕ) (ans : List (Status × Float))
      → rule F child WhileAll n l c e ts (world f ans) ≡ while_all_with (suc f) child c e ts (world f ans)
  unfolding rule
  while_all_with_lem n l c e [] f ans = refl
  while_all_with_lem n l c e (t ◂ ts) f ans = refl

  pub rule_with_lem : (k : Kind) (n : ℕ) (l : Float) (c : Cell) (e : Event) (ts : Forest) (f : ℕ) (ans : List (Status × Float))
      → rule F child k n l c e ts (world f ans) ≡ rule_with (suc f) F child k n l c e ts (world f ans)
  unfolding rule_with
  rule_with_lem k n l c e ts f ans = on (is k While) (is_kind k While) (is k WhileAll) (is_kind k WhileAll)
    where
      own : Out Next
      own = rule F child k n l c e ts (world f ans)

      on : (x : Bool) → (T x → k ≡ While) → (y : Bool) → (T y → k ≡ WhileAll)
          → own ≡ cond x (while_with (suc f) child c e ts (world f ans)) (cond y (while_all_with (suc f) child c e ts (world f ans)) own)
      on true p y q = rw (p tt) (while_with_lem n l c e ts f ans)
      on false p true q = rw (q tt) (while_all_with_lem n l c e ts f ans)
      on false p false q = refl

-- what a tick does once its rule is done
abbrev pub leave : Kind → ℕ → Float → Status → Float → Next → World → Out Tree
leave k n l s r x w = done s r (node k n l x.0 (byte s) x.1) w

-- what a table says of a node itself
abbrev pub NodeRight : Kind → ℕ → Float → Forest → Type 0
NodeRight k n l ts = T (count_allowed k n) × (children k n ≡ count_of (shapes ts)) × T (limit_allowed k l)

-- ---- what is left of a node by its rule, and what is asked of it
module _ {F : Format} (R : Pairing F) where
  abbrev pub NextOf : Kind → ℕ → Next → Type 0
  NextOf k n x = LiveCellBy R.terms.time k n x.0 × choose (marks_children k) (Marked R x.1) (Livelies R x.1)

  -- the mark stays, and the children's shapes
  abbrev pub KeptNext : Kind → ℕ → Cell → Forest → Of R Next
  KeptNext k n c ts s r x q = (x.0.mark ≡ c.mark) × (shapes x.1 ≡ shapes ts) × Known R (NextOf k n x) × Time R r

  -- the two walks do alike at an action, which keeps cell and children
  abbrev pub Acts : Type 1
  Acts = (child child' : Ticker) (n : ℕ) (l : Float) (c : Cell) (e : Event) (ts : Forest) (m : ℕ) (p : R.Worlds) (P : Next → Type 0) → P (c, ts)
      → Both R m p (λ s r x q. P x × Time R r) (λ w. rule F child Action n l c e ts w) (λ w. rule F child' Action n l c e ts w)

  -- the nodes of a loop are not counted
  abbrev pub LoopsOf : Kind → Type 0
  LoopsOf k = T (is k While || is k WhileAll) → (m n : ℕ) → R.Upto m n

  -- what is asked where a rule begins, with the budget b for its loops
  abbrev pub Begins : Kind → ℕ → Float → Cell → Forest → R.Worlds → ℕ → Type 0
  Begins k n l c ts p b = Known R (NodeRight k n l ts × NextOf k n (c, ts) × (R.fuel p < b))

  -- Success and Failure exchanged
  pub exchange_pair : {A : Type 0} {m : ℕ} {p : R.Worlds} {P : Of R A} {o o' : World → Out A} → Both R m p P o o'
      → ((s : Status) (r : Float) (a : A) (q : R.Worlds) → P s r a q → P (exchanged s) r a q) → Both R m p P (λ w. exchange (o w)) (λ w. exchange (o' w))
  exchange_pair h f = after R h λ s r a q x. stay R (f s r a q x)
