-- The driver of each kind, by the arm of a `match` that has it.
use mathlib.Core.Path.{◌≡◌, refl, ap, sym, ◌∙◌}
use mathlib.Core.Bool.{Bool}
use mathlib.Core.List.{List, [], ◌∷◌}
use types.Run.{OneOf}
use denote.Enum.Declared.{tag_of}
use Prim.Native.Nat.{ℕ}
use lib.Ieee.{Float, Format, binary64}
use Rattle.rules.specs.declared.behavior.Kind.{Kind}
use Rattle.rules.specs.Kinds.{kind_of}
use Rattle.rules.specs.Outcome.{largest}
use Rattle.rules.proofs.Arms.{arm}
use Rattle.rules.specs.contracts.behavior.Kind.{the_type}
use Rattle.work.specs.declared.result.Seen.{Seen}
use Rattle.work.specs.Flat.{Out, out, Lent, lent, Visitor, turn_out, turning, exchanges_of}
use Rattle.work.specs.Flat.{if_node, sequence, memoryless, when_all, race, after, while_loop, while_all, by_kind, visit}
use Rattle.turns.specs.declared.level.Level.{Level}
use Rattle.turns.specs.declared.level.Turn.{Turn}
use Rattle.turns.specs.declared.level.Turn.TheVariants.{Due, Done}
use Rattle.turns.specs.Levels.{Keeps, Resumed, goes, entered_level, resumed_as, resumed_by}
use Rattle.turns.specs.Levels.{sequence_resumed, memoryless_resumed, when_all_resumed, race_resumed, after_resumed, while_resumed, while_all_resumed, if_resumed}

-- a kind's driver: how it enters its node, and what it makes of a child's outcome
pub record Driven (g : Format → Lent → Visitor → Visitor) (f : Format → Lent → Resumed) (k : Kind) : Type 0 where
  pub enters : (F : Format) (T : Lent) (v : Visitor) (p : ℕ) (dt : Float) (ws : List ℕ) (ts : List Float) → by_kind F T v k p dt ws ts ≡ g F T v p dt ws ts
  pub resumes : (F : Format) (T : Lent) (v : Visitor) (e : Level) (o : Out) → resumed_as F T v k e o ≡ f F T v e o

own : (k : Kind) → Driven (λ F T v. by_kind F T v k) (λ F T v. resumed_as F T v k) k
own k = record { enters = λ F T v p dt ws ts. refl; resumes = λ F T v e o. refl }

-- ---- each arm's driver
abbrev turned_by : Bool → (Visitor → Visitor) → Visitor → Visitor
turned_by x d v p dt ws ts = turn_out x (d (turning x v) p dt ws ts)

module _ (k : Kind) where
  pub if_driver : OneOf (7 ∷ []) (tag_of the_type k) → Driven (λ F T. if_node) (λ F T. if_resumed) k
  unfolding kind_of by_kind
  if_driver h = arm (Driven (λ F T. if_node) (λ F T. if_resumed)) (7 ∷ []) k h (own _, tt)

  pub while_driver : OneOf (11 ∷ []) (tag_of the_type k) → Driven (λ F T. while_loop) (λ F T. while_resumed) k
  unfolding kind_of by_kind
  while_driver h = arm (Driven (λ F T. while_loop) (λ F T. while_resumed)) (11 ∷ []) k h (own _, tt)

  pub while_all_driver : OneOf (12 ∷ []) (tag_of the_type k) → Driven (λ F T. while_all) (λ F T. while_all_resumed) k
  unfolding kind_of by_kind
  while_all_driver h = arm (Driven (λ F T. while_all) (λ F T. while_all_resumed)) (12 ∷ []) k h (own _, tt)

  pub after_driver : OneOf (15 ∷ []) (tag_of the_type k) → Driven (λ F T v. after v (largest F)) (λ F T. after_resumed) k
  unfolding kind_of by_kind
  after_driver h = arm (Driven (λ F T v. after v (largest F)) (λ F T. after_resumed)) (15 ∷ []) k h (own _, tt)

  pub race_driver : OneOf (16 ∷ []) (tag_of the_type k) → Driven (λ F T. race) (λ F T. race_resumed) k
  unfolding kind_of by_kind
  race_driver h = arm (Driven (λ F T. race) (λ F T. race_resumed)) (16 ∷ []) k h (own _, tt)

  -- two kinds, of which one exchanges Success and Failure
  module _ (x : Bool) (e : x ≡ exchanges_of k) where
    pub sequence_driver : OneOf (6 ∷ 8 ∷ []) (tag_of the_type k) → Driven (λ F T. turned_by x sequence) (λ F T. sequence_resumed x) k
    unfolding kind_of by_kind
    sequence_driver h = rw e (arm (λ k. let x = exchanges_of k in Driven (λ F T. turned_by x sequence) (λ F T. sequence_resumed x) k)
        (6 ∷ 8 ∷ []) k h (own _, (own _, tt)))

    pub memoryless_driver : OneOf (9 ∷ 10 ∷ []) (tag_of the_type k) → Driven (λ F T. turned_by x memoryless) (λ F T. memoryless_resumed x) k
    unfolding kind_of by_kind
    memoryless_driver h = rw e (arm (λ k. let x = exchanges_of k in Driven (λ F T. turned_by x memoryless) (λ F T. memoryless_resumed x) k)
        (9 ∷ 10 ∷ []) k h (own _, (own _, tt)))

    pub when_all_driver : OneOf (13 ∷ 14 ∷ []) (tag_of the_type k) → Driven (λ F T. turned_by x (λ v. when_all v (largest F))) (λ F T. when_all_resumed x) k
    unfolding kind_of by_kind
    when_all_driver h = rw e (arm (λ k. let x = exchanges_of k in Driven (λ F T. turned_by x (λ v. when_all v (largest F))) (λ F T. when_all_resumed x) k)
        (13 ∷ 14 ∷ []) k h (own _, (own _, tt)))

-- ---- a turn of a driver
module _ {g : Format → Lent → Visitor → Visitor} {f : Format → Lent → Resumed} (e : Level) (d : Driven g f e.kind) where
  goes_on : (t : Turn) → Keeps e t → (F : Format) (T : Lent) (v : Visitor) (ws : List ℕ) (ts : List Float) → goes (f F T) v t ws ts ≡ goes (resumed_by F T) v t ws ts
  goes_on (Due n x) k F T v ws ts =
      let o = v n.child x ws ts in
      sym (d.resumes F T v n o) ∙ ap (λ (x : Kind). resumed_as F T v x n o) (sym k.kind)
  goes_on (Done r) k F T v ws ts = refl

  -- the child has given a result; a driver that visits children itself does so as `visit` does
  abbrev Resumes : List Float → Turn → Seen → Float → List ℕ → List Float → List ℕ → List Float → (Format → Lent → Resumed) → Type 0
  Resumes limits t s l ws ts ws₁ ts₁ g = (a : List ℕ) (b : List Float) (tk : Visitor)
      → let T = lent limits a b in let v = visit binary64 T tk in g binary64 T v e (out s l ws ts) ≡ goes (g binary64 T) v t ws₁ ts₁

  module _ (limits : List Float) (s : Seen) (l : Float) (ws : List ℕ) (ts : List Float) (t : Turn) (k : Keeps e t) (ws₁ : List ℕ) (ts₁ : List Float) where
    pub visited_by : Resumes limits t s l ws ts ws₁ ts₁ f → Resumes limits t s l ws ts ws₁ ts₁ resumed_by
    visited_by h a b tk = let T = lent limits a b in let v = visit binary64 T tk in d.resumes binary64 T v e (out s l ws ts) ∙ h a b tk ∙ goes_on t k binary64 T v ws₁ ts₁

-- the node is entered
module _ {g : Format → Lent → Visitor → Visitor} {f : Format → Lent → Resumed} {k : Kind} {p : ℕ} {dt : Float} {e : Level}
    (i : e ≡ entered_level k p dt) (d : Driven g f k) (t : Turn) (keeps : Keeps e t) where
  pub opened_by : (ws : List ℕ) (ts : List Float) (ws₁ : List ℕ) (ts₁ : List Float)
      → ((T : Lent) (v : Visitor) → g binary64 T v e.node e.whole ws ts ≡ goes (f binary64 T) v t ws₁ ts₁)
      → (T : Lent) (v : Visitor) → by_kind binary64 T v k p dt ws ts ≡ goes (resumed_by binary64 T) v t ws₁ ts₁
  opened_by ws ts ws₁ ts₁ h T v =
      let own : Keeps (entered_level k p dt) t = rw i at keeps in
      d.enters binary64 T v p dt ws ts ∙ (rw i at (h T v)) ∙ goes_on _ d t own binary64 T v ws₁ ts₁
