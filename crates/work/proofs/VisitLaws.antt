-- What a visit gave, and what is made of it.
use mathlib.Core.Path.{◌≡◌, refl, ap}
use mathlib.Core.Bool.{Bool, true, false, not}
use mathlib.Core.List.{List, [], ◌∷◌}
use types.Run.{miss}
use Prim.Native.Nat.{ℕ, zero, suc, ◌-◌}
use native.Mathlib.Numerals.{sub-one}
use lib.Ieee.{Float, Format}
use lib.ListN.{set}
use borrow.Author.Tests.{eq-eqb, ne_eqb}
use Rattle.rules.specs.declared.behavior.Kind.{Kind}
use Rattle.rules.specs.declared.status.Status.{Status}
use Rattle.rules.specs.declared.status.Status.TheVariants as status
use Rattle.rules.specs.Tree.{zero_time}
use Rattle.work.specs.declared.result.Seen.{Seen}
use Rattle.work.specs.declared.result.Seen.TheVariants.{Stopped, Running, Success, Failure}
use Rattle.work.specs.contracts.result.Seen.{the_type}
use denote.Enum.Bare.{sameb}
use Rattle.work.specs.Word.{kind_in}
use Rattle.work.specs.Array.{word_at, fuel_of, set_seen}
use Rattle.work.specs.Flat.{Out, out, Lent, Visitor, seen_as, seen_no, turned, turn_out, is_leaf, seen}
use Rattle.work.proofs.Laws.{Among}
use Rattle.work.specs.Flat.{visit_leaf, visit, by_kind, tick}

-- a status: the walk has not stopped
abbrev pub Gave : Seen → Type 0
Gave s = (t : Status) × (s ≡ seen_as t)

pub seen_stopped : (p : ℕ) (s : Seen) (l : Float) (ws : List ℕ) (ts : List Float) → s ≡ Stopped → seen p (out s l ws ts) ≡ out s l ws ts
seen_stopped p s l ws ts e = rw e

seen_gave : (p : ℕ) (t : Status) (l : Float) (ws : List ℕ) (ts : List Float) → seen p (out (seen_as t) l ws ts) ≡ out (seen_as t) l (set_seen ws p (seen_no (seen_as t))) ts
seen_gave p status.Running l ws ts = refl
seen_gave p status.Success l ws ts = refl
seen_gave p status.Failure l ws ts = refl

pub seen_put : (p : ℕ) (s : Seen) (l : Float) (ws ws' : List ℕ) (ts : List Float) → Gave s → ws' ≡ set_seen ws p (seen_no s) → seen p (out s l ws ts) ≡ out s l ws' ts
seen_put p s l ws ws' ts g e = rw (e, g.1) (seen_gave p g.0 l ws ts)

-- what a test for a stop tells
pub stopped_told : (s : Seen) (b : Bool) → b ≡ sameb the_type s Stopped → b ≡ true → s ≡ Stopped
stopped_told Stopped b e f = refl
stopped_told Running b e f = absurd (cc)
stopped_told Success b e f = absurd (cc)
stopped_told Failure b e f = absurd (cc)

pub gave_unless : (s : Seen) (b : Bool) → b ≡ sameb the_type s Stopped → b ≡ false → Gave s
gave_unless Stopped b e f = absurd (cc)
gave_unless Running b e f = (status.Running, refl)
gave_unless Success b e f = (status.Success, refl)
gave_unless Failure b e f = (status.Failure, refl)

-- a child that has ended, or a walk that has stopped
abbrev pub NotRunning : Seen → Type 0
NotRunning Stopped = Unit {0}
NotRunning Running = ⊥
NotRunning Success = Unit {0}
NotRunning Failure = Unit {0}

-- what a test for another status than Running tells
pub not_running_unless : (s : Seen) (b : Bool) → b ≡ not (sameb the_type s Running) → b ≡ true → NotRunning s
not_running_unless Stopped b e f = tt
not_running_unless Running b e f = cc
not_running_unless Success b e f = tt
not_running_unless Failure b e f = tt

pub running_told : (s : Seen) (b : Bool) → b ≡ not (sameb the_type s Running) → b ≡ false → s ≡ Running
running_told Stopped b e f = absurd (cc)
running_told Running b e f = refl
running_told Success b e f = absurd (cc)
running_told Failure b e f = absurd (cc)

-- Success or Failure
pub gave_ended : (s : Seen) → Among (2 ∷ 3 ∷ []) s → Gave s
gave_ended Stopped h = absurd (miss (2 ∷ 3 ∷ []) 0 tt h)
gave_ended Running h = absurd (miss (2 ∷ 3 ∷ []) 1 tt h)
gave_ended Success h = (status.Success, refl)
gave_ended Failure h = (status.Failure, refl)

pub ended_told : (s : Seen) → Among (2 ∷ 3 ∷ []) s → NotRunning s
ended_told Stopped h = tt
ended_told Running h = miss (2 ∷ 3 ∷ []) 1 tt h
ended_told Success h = tt
ended_told Failure h = tt

-- what was seen, once a `match` has told it
pub told_as : {o : Out} {s t : Seen} {l : Float} {ws : List ℕ} {ts : List Float} → o ≡ out s l ws ts → s ≡ t → o ≡ out t l ws ts
told_as e f = cc

-- exchanged twice
pub turned_back : (x : Bool) (s t : Seen) → turned x s ≡ t → turned x t ≡ s
turned_back true Stopped t e = rw (← e)
turned_back true Running t e = rw (← e)
turned_back true Success t e = rw (← e)
turned_back true Failure t e = rw (← e)
turned_back false Stopped t e = rw (← e)
turned_back false Running t e = rw (← e)
turned_back false Success t e = rw (← e)
turned_back false Failure t e = rw (← e)

-- a driver's outcome, exchanged or not
pub turn_out_lem : (x : Bool) (o : Out) (s t : Seen) (l : Float) (ws : List ℕ) (ts : List Float) → o ≡ out t l ws ts → turned x s ≡ t → turn_out x o ≡ out s l ws ts
turn_out_lem x o s t l ws ts e f = rw e (ap (λ (u : Seen). out u l ws ts) (turned_back x s t f))

-- a visit, exchanged or not
pub turn_visit : (x : Bool) (o : Out) (s t : Seen) (l : Float) (ws : List ℕ) (ts : List Float) → o ≡ out s l ws ts → turned x s ≡ t → turn_out x o ≡ out t l ws ts
turn_visit x o s t l ws ts e f = rw e (ap (λ (u : Seen). out u l ws ts) f)

module _ (F : Format) (T : Lent) (p : ℕ) (dt : Float) (ws : List ℕ) (ts : List Float) where
  pub visit_leaf_lem : (tk : Visitor) (k : Kind) (o : Out) → k ≡ kind_in (word_at ws p) → is_leaf k ≡ true → visit_leaf F T k p dt ws ts ≡ o → visit F T tk p dt ws ts ≡ o
  unfolding visit
  visit_leaf_lem tk k o e h g = rw (← e, h) g

  pub visit_node : (tk : Visitor) (k : Kind) (o : Out) → k ≡ kind_in (word_at ws p) → is_leaf k ≡ false → tk p dt ws ts ≡ o → visit F T tk p dt ws ts ≡ o
  unfolding visit
  visit_node tk k o e h g = rw (← e, h) g

  pub tick_zero : (d : ℕ) → d ≡ 0 → tick F T d p dt ws ts ≡ out Stopped zero_time ws ts
  unfolding tick
  tick_zero d e = rw e

  pub tick_spent : (d : ℕ) → fuel_of ws ≡ 0 → tick F T d p dt ws ts ≡ out Stopped zero_time ws ts
  unfolding tick
  tick_spent zero e = refl
  tick_spent (suc d) e = rw (eq-eqb (fuel_of ws) 0 e)

  pub tick_on : (d : ℕ) (k : Kind) (o o' : Out) → (d ≡ 0 → ⊥) → (fuel_of ws ≡ 0 → ⊥) → k ≡ kind_in (word_at ws p)
      → by_kind F T (visit F T (tick F T (d - 1))) k p dt (set ws 256 (fuel_of ws - 1)) ts ≡ o → seen p o ≡ o' → tick F T d p dt ws ts ≡ o'
  unfolding tick
  tick_on zero k o o' n f e g h = absurd (n refl)
  tick_on (suc d) k o o' n f e g h = rw (ne_eqb (fuel_of ws) 0 f, ← e, ← sub-one (suc d), g) h
