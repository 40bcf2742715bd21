-- One law for each path of the when-all drivers.
use mathlib.Core.Path.{◌≡◌, refl, sym}
use mathlib.Core.Bool.{Bool, true, false, ◌&&◌}
use mathlib.Core.List.{List}
use Prim.Native.Nat.{ℕ, zero, suc, ◌+◌, ◌-◌, ◌≤◌, ◌<◌}
use native.Mathlib.Omega.{arith}
use lib.Ieee.{Float, binary64, lt}
use borrow.Author.Tests.{lt-ltb, le-ltb, le-leb, lt-leb, eq-eqb, ne_eqb}
use Rattle.rules.specs.Tree.{zero_time}
use Rattle.rules.specs.Outcome.{smaller}
use Rattle.work.specs.declared.result.Seen.{Seen}
use Rattle.work.specs.declared.result.Seen.TheVariants.{Stopped, Running, Success, Failure}
use Rattle.work.specs.Word.{place_of, mark_of}
use Rattle.work.specs.Array.{word_at, passed, end_of, set_place, set_mark, fresh_words, fresh_times, child_from}
use Rattle.work.specs.Flat.{Out, out, Lent, Visitor, turning, tick, visiting}
use Rattle.work.proofs.VisitLaws.{NotRunning, turn_visit}
use Rattle.leaves.specs.Waiting.{Waiting, none, more}
use Rattle.leaves.proofs.WaitLaws.{passed_on}
use Rattle.work.specs.Flat.{when_all_go, when_all, race_go, race, after_over, after_go, after}

in_turn : (a b : Bool) → a && b ≡ true → a ≡ true
in_turn true b e = refl
in_turn false b e = e

module _ (v : Visitor) (stop : ℕ) (dt : Float) (q : ℕ) (all : Bool) (least : Float) (ws : List ℕ) (ts : List Float) where
  pub when_all_over : (k : ℕ) → stop ≤ q → all ≡ true → when_all_go v stop dt k q all least ws ts ≡ out Success least ws ts
  unfolding when_all_go
  when_all_over zero h e = rw e
  when_all_over (suc k) h e = rw (le-ltb q stop h, e)

  pub when_some_over : (k : ℕ) → stop ≤ q → all ≡ false → when_all_go v stop dt k q all least ws ts ≡ out Running zero_time ws ts
  unfolding when_all_go
  when_some_over zero h e = rw e
  when_some_over (suc k) h e = rw (le-ltb q stop h, e)

  module _ (d : q < stop) (m : ℕ) (a : m ≡ mark_of (word_at ws q)) where
    pub when_marked : (k : ℕ) → stop - q ≤ k → (m ≡ 0 → ⊥) → (next : ℕ) → next ≡ end_of ws q → q < next
        → (o : Out) → ((j : ℕ) → stop - next ≤ j → when_all_go v stop dt j next all least ws ts ≡ o) → when_all_go v stop dt k q all least ws ts ≡ o
    unfolding when_all_go
    when_marked zero h n next f g o r = absurd (omega arith)
    when_marked (suc k) h n next f g o r = rw (lt-ltb q stop d, ← a, ne_eqb m 0 n, ← f) (r k (omega arith))

    module _ (z : m ≡ 0) (l : Float) (ws₁ : List ℕ) (ts₁ : List Float) where
      pub when_stopped : (k : ℕ) → stop - q ≤ k → v q dt ws ts ≡ out Stopped l ws₁ ts₁ → when_all_go v stop dt k q all least ws ts ≡ out Stopped l ws₁ ts₁
      unfolding when_all_go
      when_stopped zero h e = absurd (omega arith)
      when_stopped (suc k) h e = rw (lt-ltb q stop d, ← a, eq-eqb m 0 z, e)

      pub when_failed : (k : ℕ) → stop - q ≤ k → v q dt ws ts ≡ out Failure l ws₁ ts₁ → when_all_go v stop dt k q all least ws ts ≡ out Failure l ws₁ ts₁
      unfolding when_all_go
      when_failed zero h e = absurd (omega arith)
      when_failed (suc k) h e = rw (lt-ltb q stop d, ← a, eq-eqb m 0 z, e)

      pub when_running : (k : ℕ) → stop - q ≤ k → v q dt ws ts ≡ out Running l ws₁ ts₁ → (next : ℕ) → next ≡ end_of ws q → q < next
          → (o : Out) → ((j : ℕ) → stop - next ≤ j → when_all_go v stop dt j next false least ws₁ ts₁ ≡ o) → when_all_go v stop dt k q all least ws ts ≡ o
      unfolding when_all_go
      when_running zero h e next f g o r = absurd (omega arith)
      when_running (suc k) h e next f g o r = rw (lt-ltb q stop d, ← a, eq-eqb m 0 z, e, ← f) (r k (omega arith))

      pub when_success : (k : ℕ) → stop - q ≤ k → v q dt ws ts ≡ out Success l ws₁ ts₁ → (next : ℕ) → next ≡ end_of ws q → q < next
          → (ws₂ : List ℕ) (ts₂ : List Float) → ws₂ ≡ fresh_words q (next - q) ws₁ → ts₂ ≡ fresh_times q (next - q) ts₁
          → (ws₃ : List ℕ) → ws₃ ≡ set_mark ws₂ q → (least₃ : Float) → least₃ ≡ smaller least l
          → (o : Out) → ((j : ℕ) → stop - next ≤ j → when_all_go v stop dt j next all least₃ ws₃ ts₂ ≡ o) → when_all_go v stop dt k q all least ws ts ≡ o
      unfolding when_all_go
      when_success zero h e next f g ws₂ ts₂ c i ws₃ w least₃ y o r = absurd (omega arith)
      when_success (suc k) h e next f g ws₂ ts₂ c i ws₃ w least₃ y o r = rw (lt-ltb q stop d, ← a, eq-eqb m 0 z, e, ← f, ← c, ← i, ← w, ← y) (r k (omega arith))

module _ (v : Visitor) (p : ℕ) (dt : Float) (ws : List ℕ) (ts : List Float) (stop : ℕ) (a : stop ≡ end_of ws p) where
  pub when_empty : (top : Float) → stop ≤ p + 1 → (l : Float) → l ≡ passed ws dt → when_all v top p dt ws ts ≡ out Success l ws ts
  unfolding when_all
  when_empty top h l e = rw (← a, le-leb stop (p + 1) h, ← e)

  pub when_start : (top : Float) → p + 1 < stop → (o : Out) → when_all_go v stop dt 256 (p + 1) true top ws ts ≡ o → when_all v top p dt ws ts ≡ o
  unfolding when_all
  when_start top h o g = rw (← a, lt-leb stop (p + 1) h) g

  pub race_start : (o : Out) → race_go v stop dt 256 (p + 1) ws ts ≡ o → race v p dt ws ts ≡ o
  unfolding race
  race_start o g = rw (← a) g

  pub after_start : (top : Float) (i q : ℕ) → i ≡ place_of (word_at ws p) → q ≡ child_from ws stop i (p + 1) → (o : Out)
      → after_go v p stop dt 256 q i true top ws ts ≡ o → after v top p dt ws ts ≡ o
  unfolding after
  after_start top i q b d o g = rw (← a, ← b, ← d) g

module _ (v : Visitor) (stop : ℕ) (dt : Float) (q : ℕ) (ws : List ℕ) (ts : List Float) where
  pub race_over : (k : ℕ) → stop ≤ q → race_go v stop dt k q ws ts ≡ out Running zero_time ws ts
  unfolding race_go
  race_over zero h = refl
  race_over (suc k) h = rw (le-ltb q stop h)

  module _ (d : q < stop) (l : Float) (ws₁ : List ℕ) (ts₁ : List Float) where
    pub race_running : (k : ℕ) → stop - q ≤ k → v q dt ws ts ≡ out Running l ws₁ ts₁ → (next : ℕ) → next ≡ end_of ws q → q < next
        → (o : Out) → ((j : ℕ) → stop - next ≤ j → race_go v stop dt j next ws₁ ts₁ ≡ o) → race_go v stop dt k q ws ts ≡ o
    unfolding race_go
    race_running zero h e next f g o r = absurd (omega arith)
    race_running (suc k) h e next f g o r = rw (lt-ltb q stop d, e, ← f) (r k (omega arith))

    pub race_ended : (k : ℕ) → stop - q ≤ k → (s : Seen) → NotRunning s → v q dt ws ts ≡ out s l ws₁ ts₁ → race_go v stop dt k q ws ts ≡ out s l ws₁ ts₁
    unfolding race_go
    race_ended zero h s n e = absurd (omega arith)
    race_ended (suc k) h Stopped n e = rw (lt-ltb q stop d, e)
    race_ended (suc k) h Running n e = absurd n
    race_ended (suc k) h Success n e = rw (lt-ltb q stop d, e)
    race_ended (suc k) h Failure n e = rw (lt-ltb q stop d, e)

-- many visits at once: what follows the last follows the first
module _ (T : Lent) (depth stop : ℕ) (dt : Float) where
  pub when_waiting : (any : Bool) (least : Float) {q r : ℕ} {ws ws₁ : List ℕ} {ts ts₁ : List Float} → Waiting T.limits dt q r ws ts ws₁ ts₁ → (q < r → r ≤ stop)
      → (o : Out)
      → ((j : ℕ) → stop - r ≤ j → when_all_go (turning any (visiting binary64 T depth)) stop dt j r false least ws₁ ts₁ ≡ o)
      → (k : ℕ) → stop - q ≤ k → when_all_go (turning any (visiting binary64 T depth)) stop dt k q false least ws ts ≡ o
  when_waiting any least none h o e k g = e k g
  when_waiting any least (more {q = q} end mark v w) h o e k g =
      let l = passed_on w in
      let b = h (omega arith) in
      when_running _ stop dt q false least _ _ (omega arith) 0 (sym mark) refl zero_time _ _ k g
      (turn_visit any _ _ _ _ _ _ (v T.statuses T.leftovers (tick binary64 T depth)) refl) (q + 1) (sym end) (omega arith) o
      (when_waiting any least w (λ x. b) o e)

  pub race_waiting : {q r : ℕ} {ws ws₁ : List ℕ} {ts ts₁ : List Float} → Waiting T.limits dt q r ws ts ws₁ ts₁ → (q < r → r ≤ stop)
      → (o : Out) → ((j : ℕ) → stop - r ≤ j → race_go (visiting binary64 T depth) stop dt j r ws₁ ts₁ ≡ o)
      → (k : ℕ) → stop - q ≤ k → race_go (visiting binary64 T depth) stop dt k q ws ts ≡ o
  race_waiting none h o e k g = e k g
  race_waiting (more {q = q} end mark v w) h o e k g =
      let l = passed_on w in
      let b = h (omega arith) in
      race_running _ stop dt q _ _ (omega arith) zero_time _ _ k g (v T.statuses T.leftovers (tick binary64 T depth)) (q + 1) (sym end) (omega arith) o
      (race_waiting w (λ x. b) o e)

module _ (v : Visitor) (p stop : ℕ) (dt : Float) (q i : ℕ) (none : Bool) (least : Float) (ws : List ℕ) (ts : List Float) where
  pub after_all_over : (k : ℕ) → stop ≤ q → none ≡ true → (ws₁ : List ℕ) → ws₁ ≡ set_place ws p i → after_go v p stop dt k q i none least ws ts ≡ out Success least ws₁ ts
  unfolding after_go after_over
  after_all_over zero h e ws₁ f = rw (e, f)
  after_all_over (suc k) h e ws₁ f = rw (le-ltb q stop h, e, f)

  pub after_some_over : (k : ℕ) → stop ≤ q → none ≡ false → (ws₁ : List ℕ) → ws₁ ≡ set_place ws p i
      → after_go v p stop dt k q i none least ws ts ≡ out Running zero_time ws₁ ts
  unfolding after_go after_over
  after_some_over zero h e ws₁ f = rw (e, f)
  after_some_over (suc k) h e ws₁ f = rw (le-ltb q stop h, e, f)

  module _ (d : q < stop) (l : Float) (ws₁ : List ℕ) (ts₁ : List Float) where
    pub after_stopped : (k : ℕ) → stop - q ≤ k → (s : Seen) → s ≡ Stopped → v q dt ws ts ≡ out s l ws₁ ts₁ → after_go v p stop dt k q i none least ws ts ≡ out s l ws₁ ts₁
    unfolding after_go
    after_stopped zero h s n e = absurd (omega arith)
    after_stopped (suc k) h s n e = rw (lt-ltb q stop d, e, n)

    pub after_failed : (k : ℕ) → stop - q ≤ k → (s : Seen) → s ≡ Failure → v q dt ws ts ≡ out s l ws₁ ts₁ → (ws₂ : List ℕ) → ws₂ ≡ set_place ws₁ p i
        → after_go v p stop dt k q i none least ws ts ≡ out s l ws₂ ts₁
    unfolding after_go
    after_failed zero h s n e ws₂ f = absurd (omega arith)
    after_failed (suc k) h s n e ws₂ f = rw (lt-ltb q stop d, e, n, f)

    pub after_late : (k : ℕ) → stop - q ≤ k → v q dt ws ts ≡ out Success l ws₁ ts₁ → none && lt l least ≡ false → (ws₂ : List ℕ) → ws₂ ≡ set_place ws₁ p i
        → (r : Float) → r ≡ smaller least l → after_go v p stop dt k q i none least ws ts ≡ out Failure r ws₂ ts₁
    unfolding after_go
    after_late zero h e n ws₂ f r c = absurd (omega arith)
    after_late (suc k) h e n ws₂ f r c = rw (lt-ltb q stop d, e, n, f, c)

    module _ (next : ℕ) (b : next ≡ end_of ws q) (g : q < next) (o : Out) where
      pub after_running : (k : ℕ) → stop - q ≤ k → v q dt ws ts ≡ out Running l ws₁ ts₁
          → ((j : ℕ) → stop - next ≤ j → after_go v p stop dt j next i false zero_time ws₁ ts₁ ≡ o) → after_go v p stop dt k q i none least ws ts ≡ o
      unfolding after_go
      after_running zero h e r = absurd (omega arith)
      after_running (suc k) h e r = rw (lt-ltb q stop d, e, ← b) (r k (omega arith))

      pub after_sooner : (k : ℕ) → stop - q ≤ k → v q dt ws ts ≡ out Success l ws₁ ts₁ → none && lt l least ≡ true
          → ((j : ℕ) → stop - next ≤ j → after_go v p stop dt j next (i + 1) none l ws₁ ts₁ ≡ o) → after_go v p stop dt k q i none least ws ts ≡ o
      unfolding after_go
      after_sooner zero h e n r = absurd (omega arith)
      after_sooner (suc k) h e n r = rw (lt-ltb q stop d, e, n, ← b) (rw (in_turn none (lt l least) n) at (r k (omega arith)))
