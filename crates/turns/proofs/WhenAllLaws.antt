-- The turns that a driver still has do not matter, as long as there are enough of them: 256 may stand for what is left of 256.
use mathlib.Core.Path.{◌≡◌, refl, sym, ap, ◌∙◌}
use mathlib.Core.Bool.{Bool, true, false, cond, not, ◌&&◌}
use mathlib.Core.List.{List}
use Prim.Native.Nat.{ℕ, zero, suc, ◌+◌, ◌-◌, ◌≤◌, ◌<◌}
use native.Mathlib.Decide.{dec_lt}
use native.Mathlib.Omega.{arith}
use borrow.Author.Tests.{lt-ltb, le-ltb, le-leb, lt-leb, eq-eqb, ne_eqb}
use lib.Dec.{eqb}
use Rattle.std.specs.Int.{from_bool}
use lib.Ieee.{Float, binary64, lt}
use Rattle.rules.specs.declared.status.Status.{Status}
use Rattle.rules.specs.declared.status.Status.TheVariants as status
use Rattle.rules.specs.Tree.{zero_time}
use Rattle.rules.specs.Outcome.{smaller}
use Rattle.work.specs.declared.result.Seen.TheVariants.{Running, Success}
use Rattle.work.specs.Word.{mark_of, place_of, with_mark}
use Rattle.work.specs.Array.{word_at, fuel_of, end_of, passed, set_place, set_mark, fresh_words, child_from}
use Rattle.work.specs.Flat.{Out, out, Step, Visitor, Lent, lent, visit, and_then, waiting, turned, turn_out, turning, when_all_on, race_on, after_on}
use Rattle.work.specs.Flat.{when_all_go, when_all, race_go, race, after_over, after_go, after}
use Rattle.work.specs.declared.result.Visit.{Visit}
use Rattle.work.proofs.VisitLaws.{turn_visit}
use Rattle.leaves.specs.Waiting.{Waiting}
use Rattle.leaves.specs.Waiting as w
use Rattle.leaves.proofs.WaitLaws.{passed_on}
use Rattle.turns.specs.declared.level.Level.{Level}
use Rattle.turns.specs.Levels.{Fine, when_all_resumed, race_resumed}
use Rattle.turns.proofs.FuelLaws.{fuel_set, fuel_waiting, then_alike}
use Rattle.turns.proofs.TurnLaws.{end_past, fuel_freshed}

-- a bool that is kept as a count comes back
counted : (b : Bool) (n : ℕ) → n ≡ from_bool b → not (eqb n 0) ≡ b
counted true n e = rw e
counted false n e = rw e

-- ---- Race
race_on_alike : (f g : ℕ → Step) (next : ℕ) → ((ws : List ℕ) (ts : List Float) → f next ws ts ≡ g next ws ts)
    → (s : Status) (l : Float) (ws : List ℕ) (ts : List Float) → race_on f next s l ws ts ≡ race_on g next s l ws ts
race_on_alike f g next h status.Running l ws ts = h ws ts
race_on_alike f g next h status.Success l ws ts = refl
race_on_alike f g next h status.Failure l ws ts = refl

module _ (v : Visitor) (stop : ℕ) (dt : Float) where
  pub race_over : (k q : ℕ) (ws : List ℕ) (ts : List Float) → stop ≤ q → race_go v stop dt k q ws ts ≡ out Running zero_time ws ts
  unfolding race_go
  race_over zero q ws ts h = refl
  race_over (suc k) q ws ts h = rw (le-ltb q stop h)

  race_one : (k q : ℕ) (ws : List ℕ) (ts : List Float) → q < stop → race_go v stop dt (suc k) q ws ts ≡ and_then (v q dt ws ts) (race_on (race_go v stop dt k) (end_of ws q))
  unfolding race_go
  race_one k q ws ts h = rw (lt-ltb q stop h)

  race_steady : stop ≤ 256 → (k j q : ℕ) (ws : List ℕ) (ts : List Float) → stop - q ≤ k → stop - q ≤ j → race_go v stop dt k q ws ts ≡ race_go v stop dt j q ws ts
  race_steady s zero j q ws ts a b = race_over zero q ws ts (omega arith) ∙ sym (race_over j q ws ts (omega arith))
  race_steady s (suc k) zero q ws ts a b = race_over (suc k) q ws ts (omega arith) ∙ sym (race_over zero q ws ts (omega arith))
  race_steady s (suc k) (suc j) q ws ts a b = elim (dec_lt q stop) [
    | yes l ↦
        let e : q < end_of ws q = end_past ws q (omega arith) in
        race_one k q ws ts l
        ∙ then_alike (v q dt ws ts) (race_on (race_go v stop dt k) (end_of ws q)) (race_on (race_go v stop dt j) (end_of ws q))
        (race_on_alike (race_go v stop dt k) (race_go v stop dt j) (end_of ws q) (λ ws' ts'. race_steady s k j (end_of ws q) ws' ts' (omega arith) (omega arith)))
        ∙ sym (race_one j q ws ts l)
    | no l ↦ race_over (suc k) q ws ts (omega arith) ∙ sym (race_over (suc j) q ws ts (omega arith))
  ]

  pub race_due : stop ≤ 256 → (q next : ℕ) (ws : List ℕ) (ts : List Float) → q < stop → next ≡ end_of ws q
      → race_go v stop dt 256 q ws ts ≡ and_then (v q dt ws ts) (race_on (race_go v stop dt 256) next)
  race_due s q next ws ts h e = rw e (race_steady s 256 257 q ws ts (omega arith) (omega arith) ∙ race_one 256 q ws ts h)

pub race_start : (v : Visitor) (p stop : ℕ) (dt : Float) (ws : List ℕ) (ts : List Float) (o : Out) → stop ≡ end_of ws p → race_go v stop dt 256 (p + 1) ws ts ≡ o → race v p dt ws ts ≡ o
unfolding race
race_start v p stop dt ws ts o a g = rw (← a) g

-- ---- WhenAll
when_on_alike : (f g : ℕ → Bool → Float → Step) (q next : ℕ) (all : Bool) (least : Float)
    → ((all : Bool) (least : Float) (ws : List ℕ) (ts : List Float) → f next all least ws ts ≡ g next all least ws ts)
    → (s : Status) (l : Float) (ws : List ℕ) (ts : List Float) → when_all_on f q next all least s l ws ts ≡ when_all_on g q next all least s l ws ts
when_on_alike f g q next all least h status.Running l ws ts = h false least ws ts
when_on_alike f g q next all least h status.Success l ws ts = h all (smaller least l) _ _
when_on_alike f g q next all least h status.Failure l ws ts = refl

module _ (v : Visitor) (stop : ℕ) (dt : Float) where
  when_over : (k q : ℕ) (all : Bool) (least : Float) (ws : List ℕ) (ts : List Float) → stop ≤ q
      → when_all_go v stop dt k q all least ws ts ≡ cond all (out Success least ws ts) (waiting ws ts)
  unfolding when_all_go
  when_over zero q all least ws ts h = refl
  when_over (suc k) q all least ws ts h = rw (le-ltb q stop h)

  when_one : (k q : ℕ) (all : Bool) (least : Float) (ws : List ℕ) (ts : List Float) → q < stop → mark_of (word_at ws q) ≡ 0
      → when_all_go v stop dt (suc k) q all least ws ts ≡ and_then (v q dt ws ts) (when_all_on (when_all_go v stop dt k) q (end_of ws q) all least)
  unfolding when_all_go
  when_one k q all least ws ts h m = rw (lt-ltb q stop h, eq-eqb (mark_of (word_at ws q)) 0 m)

  when_skip : (k q : ℕ) (all : Bool) (least : Float) (ws : List ℕ) (ts : List Float) → q < stop → (mark_of (word_at ws q) ≡ 0 → ⊥)
      → when_all_go v stop dt (suc k) q all least ws ts ≡ when_all_go v stop dt k (end_of ws q) all least ws ts
  unfolding when_all_go
  when_skip k q all least ws ts h m = rw (lt-ltb q stop h, ne_eqb (mark_of (word_at ws q)) 0 m)

  when_steady : stop ≤ 256 → (k j q : ℕ) (all : Bool) (least : Float) (ws : List ℕ) (ts : List Float) → stop - q ≤ k → stop - q ≤ j
      → when_all_go v stop dt k q all least ws ts ≡ when_all_go v stop dt j q all least ws ts
  when_steady s zero j q all least ws ts a b = when_over zero q all least ws ts (omega arith) ∙ sym (when_over j q all least ws ts (omega arith))
  when_steady s (suc k) zero q all least ws ts a b = when_over (suc k) q all least ws ts (omega arith) ∙ sym (when_over zero q all least ws ts (omega arith))
  when_steady s (suc k) (suc j) q all least ws ts a b = elim (dec_lt q stop) [
    | yes l ↦
        let e : q < end_of ws q = end_past ws q (omega arith) in
        elim (dec_lt 0 (mark_of (word_at ws q))) [
          | yes m ↦
              let n : mark_of (word_at ws q) ≡ 0 → ⊥ = λ z. omega arith in
              when_skip k q all least ws ts l n
              ∙ when_steady s k j (end_of ws q) all least ws ts (omega arith) (omega arith)
              ∙ sym (when_skip j q all least ws ts l n)
          | no m ↦
              let z : mark_of (word_at ws q) ≡ 0 = omega arith in
              when_one k q all least ws ts l z
              ∙ then_alike (v q dt ws ts) (when_all_on (when_all_go v stop dt k) q (end_of ws q) all least) (when_all_on (when_all_go v stop dt j) q (end_of ws q) all least)
              (when_on_alike (when_all_go v stop dt k) (when_all_go v stop dt j) q (end_of ws q) all least
              (λ all' least' ws' ts'. when_steady s k j (end_of ws q) all' least' ws' ts' (omega arith) (omega arith)))
              ∙ sym (when_one j q all least ws ts l z)
        ]
    | no l ↦ when_over (suc k) q all least ws ts (omega arith) ∙ sym (when_over (suc j) q all least ws ts (omega arith))
  ]

  -- a child that is marked is passed over
  pub when_marked : stop ≤ 256 → (q next m : ℕ) (all : Bool) (least : Float) (ws : List ℕ) (ts : List Float) → q < stop → m ≡ mark_of (word_at ws q) → (m ≡ 0 → ⊥)
      → next ≡ end_of ws q → when_all_go v stop dt 256 q all least ws ts ≡ when_all_go v stop dt 256 next all least ws ts
  when_marked s q next m all least ws ts h a n e =
      rw e (when_steady s 256 257 q all least ws ts (omega arith) (omega arith) ∙ when_skip 256 q all least ws ts h (rw a at n))

  when_due : stop ≤ 256 → (q next : ℕ) (all : Bool) (least : Float) (ws : List ℕ) (ts : List Float) → q < stop → mark_of (word_at ws q) ≡ 0 → next ≡ end_of ws q
      → when_all_go v stop dt 256 q all least ws ts ≡ and_then (v q dt ws ts) (when_all_on (when_all_go v stop dt 256) q next all least)
  when_due s q next all least ws ts h m e =
      rw e (when_steady s 256 257 q all least ws ts (omega arith) (omega arith) ∙ when_one 256 q all least ws ts h m)

-- ---- Waits that are visited at once: what follows the last follows the first
module _ (T : Lent) (tk : Visitor) (stop : ℕ) (dt : Float) (s : stop ≤ 256) where
  abbrev visitor : Visitor
  visitor = visit binary64 T tk

  when_waiting : (x : Bool) (least : Float) {q r : ℕ} {ws ws₁ : List ℕ} {ts ts₁ : List Float} → Waiting T.limits dt q r ws ts ws₁ ts₁ → (q < r → r ≤ stop)
      → when_all_go (turning x visitor) stop dt 256 q false least ws ts ≡ when_all_go (turning x visitor) stop dt 256 r false least ws₁ ts₁
  when_waiting x least w.none h = refl
  when_waiting x least (w.more {q = q} {ws = ws} {ts = ts} end mark v w) h =
      let l = passed_on w in
      let d = h (omega arith) in
      when_due (turning x visitor) stop dt s q (q + 1) false least ws ts (omega arith) mark (sym end)
      ∙ ap (λ (o : Out). and_then o (when_all_on (when_all_go (turning x visitor) stop dt 256) q (q + 1) false least)) (turn_visit x _ _ Running _ _ _ (v T.statuses T.leftovers tk) refl)
      ∙ when_waiting x least w (λ y. d)

  race_waiting : {q r : ℕ} {ws ws₁ : List ℕ} {ts ts₁ : List Float} → Waiting T.limits dt q r ws ts ws₁ ts₁ → (q < r → r ≤ stop)
      → race_go visitor stop dt 256 q ws ts ≡ race_go visitor stop dt 256 r ws₁ ts₁
  race_waiting w.none h = refl
  race_waiting (w.more {q = q} {ws = ws} {ts = ts} end mark v w) h =
      let l = passed_on w in
      let d = h (omega arith) in
      race_due visitor stop dt s q (q + 1) ws ts (omega arith) (sym end)
      ∙ ap (λ (o : Out). and_then o (race_on (race_go visitor stop dt 256) (q + 1))) (v T.statuses T.leftovers tk)
      ∙ race_waiting w (λ y. d)

-- from the child that runs to where the next is looked for
pub record Past (limits : List Float) (e : Level) (ws : List ℕ) (ts : List Float) (next : ℕ) (ws₁ : List ℕ) (ts₁ : List Float) : Type 0 where
  pub visits : Waiting limits e.whole e.next next ws ts ws₁ ts₁
  pub within_stop : e.next < next → next ≤ e.stop

module _ {limits : List Float} {e : Level} {ws : List ℕ} {ts : List Float} {next : ℕ} {ws₁ : List ℕ} {ts₁ : List Float} where
  pub past_none : ws₁ ≡ ws → ts₁ ≡ ts → next ≡ e.next → Past limits e ws ts next ws₁ ts₁
  past_none a b c = rw (a, b, c) (record { visits = w.none; within_stop = λ h. absurd (omega arith) })

  pub past_some : {n : ℕ} {ws₂ : List ℕ} {ts₂ : List Float} → ws₁ ≡ ws₂ → ts₁ ≡ ts₂ → next ≡ n
      → Waiting limits e.whole e.next n ws ts ws₂ ts₂ → (e.next < n → n ≤ e.stop) → Past limits e ws ts next ws₁ ts₁
  past_some a b c v h = rw (a, b, c) (record { visits = v; within_stop = h })

  module _ (f : Fine e) (p : Past limits e ws ts next ws₁ ts₁) where
    in_places : next ≤ 256
    in_places = elim (dec_lt e.next next) [
      | yes l ↦ omega (arith, p.within_stop l, f.stop_in)
      | no l ↦ omega (arith, f.next_in)
    ]

    pub past_fuel : fuel_of ws₁ ≤ fuel_of ws
    past_fuel = fuel_waiting p.visits in_places

    module _ (a : List ℕ) (b : List Float) (tk : Visitor) (r : Visit) (o : Out) where
      pub when_runs : (x : Bool) → turned x r.seen ≡ Running
          → turn_out x (when_all_go (turning x (visit binary64 (lent limits a b) tk)) e.stop e.whole 256 next false e.rest ws₁ ts₁) ≡ o
          → when_all_resumed x (visit binary64 (lent limits a b) tk) e (out r.seen r.left ws ts) ≡ o
      when_runs x h g = rw h (ap (turn_out x) (when_waiting (lent limits a b) tk e.stop e.whole f.stop_in x e.rest p.visits p.within_stop) ∙ g)

      pub race_runs : r.seen ≡ Running → race_go (visit binary64 (lent limits a b) tk) e.stop e.whole 256 next ws₁ ts₁ ≡ o
          → race_resumed (visit binary64 (lent limits a b) tk) e (out r.seen r.left ws ts) ≡ o
      race_runs h g = rw h (race_waiting (lent limits a b) tk e.stop e.whole f.stop_in p.visits p.within_stop ∙ g)

-- what is made of the children, exchanged or not
module _ (x : Bool) (v : Visitor) (stop : ℕ) (dt : Float) (q : ℕ) (all : Bool) (least : Float) (ws : List ℕ) (ts : List Float) where
  module _ (o : Out) (g : o ≡ when_all_go (turning x v) stop dt 256 q all least ws ts) where
    pub when_some_over : stop ≤ q → all ≡ false → turn_out x o ≡ out Running zero_time ws ts
    when_some_over h e = rw (g, when_over (turning x v) stop dt 256 q all least ws ts h, e)

    pub when_all_over : stop ≤ q → all ≡ true → turn_out x o ≡ out (turned x Success) least ws ts
    when_all_over h e = rw (g, when_over (turning x v) stop dt 256 q all least ws ts h, e)

    pub when_turn : stop ≤ 256 → (next : ℕ) → q < stop → mark_of (word_at ws q) ≡ 0 → next ≡ end_of ws q → (n : ℕ) → n ≡ from_bool all
        → turn_out x o ≡ turn_out x (and_then (turn_out x (v q dt ws ts)) (when_all_on (when_all_go (turning x v) stop dt 256) q next (not (eqb n 0)) least))
    when_turn s next h m e n k = rw (counted all n k) (ap (turn_out x) (g ∙ when_due (turning x v) stop dt s q next all least ws ts h m e))

module _ (x : Bool) (v : Visitor) (top : Float) (p : ℕ) (dt : Float) (ws : List ℕ) (ts : List Float) (stop : ℕ) (a : stop ≡ end_of ws p) where
  pub when_empty : stop ≤ p + 1 → turn_out x (when_all v top p dt ws ts) ≡ out (turned x Success) (passed ws dt) ws ts
  unfolding when_all
  when_empty h = rw (← a, le-leb stop (p + 1) h)

  pub when_start : p + 1 < stop → (o : Out) → turn_out x (when_all_go v stop dt 256 (p + 1) true top ws ts) ≡ o → turn_out x (when_all v top p dt ws ts) ≡ o
  unfolding when_all
  when_start h o g = rw (← a, lt-leb stop (p + 1) h) g

-- what it writes leaves the fuel as it is
pub when_fuel : (e : Level) → Fine e → (ws ws₁ ws₂ : List ℕ) → ws₁ ≡ fresh_words e.child (e.next - e.child) ws → ws₂ ≡ set_mark ws₁ e.child → fuel_of ws₂ ≡ fuel_of ws
when_fuel e f ws ws₁ ws₂ a b =
    rw b (fuel_set ws₁ e.child (with_mark (word_at ws₁ e.child)) f.child_in) ∙ fuel_freshed ws ws₁ e.child e.next f.next_in a

-- ---- After
cond_alike : (b : Bool) (x y z : Out) → x ≡ y → cond b x z ≡ cond b y z
cond_alike true x y z h = h
cond_alike false x y z h = refl

after_on_alike : (f g : ℕ → ℕ → Bool → Float → Step) (p next i : ℕ) (none : Bool) (least : Float)
    → ((i : ℕ) (none : Bool) (least : Float) (ws : List ℕ) (ts : List Float) → f next i none least ws ts ≡ g next i none least ws ts)
    → (s : Status) (l : Float) (ws : List ℕ) (ts : List Float) → after_on p f next i none least s l ws ts ≡ after_on p g next i none least s l ws ts
after_on_alike f g p next i none least h status.Running l ws ts = h i false zero_time ws ts
after_on_alike f g p next i none least h status.Success l ws ts = cond_alike (none && lt l least) _ _ _ (h (i + 1) true l ws ts)
after_on_alike f g p next i none least h status.Failure l ws ts = refl

module _ (v : Visitor) (p stop : ℕ) (dt : Float) where
  after_over_lem : (k q i : ℕ) (none : Bool) (least : Float) (ws : List ℕ) (ts : List Float) → stop ≤ q
      → after_go v p stop dt k q i none least ws ts ≡ after_over v p i none least ws ts
  unfolding after_go
  after_over_lem zero q i none least ws ts h = refl
  after_over_lem (suc k) q i none least ws ts h = rw (le-ltb q stop h)

  after_one : (k q i : ℕ) (none : Bool) (least : Float) (ws : List ℕ) (ts : List Float) → q < stop
      → after_go v p stop dt (suc k) q i none least ws ts ≡ and_then (v q dt ws ts) (after_on p (after_go v p stop dt k) (end_of ws q) i none least)
  unfolding after_go
  after_one k q i none least ws ts h = rw (lt-ltb q stop h)

  after_steady : stop ≤ 256 → (k j q i : ℕ) (none : Bool) (least : Float) (ws : List ℕ) (ts : List Float) → stop - q ≤ k → stop - q ≤ j
      → after_go v p stop dt k q i none least ws ts ≡ after_go v p stop dt j q i none least ws ts
  after_steady s zero j q i none least ws ts a b = after_over_lem zero q i none least ws ts (omega arith) ∙ sym (after_over_lem j q i none least ws ts (omega arith))
  after_steady s (suc k) zero q i none least ws ts a b = after_over_lem (suc k) q i none least ws ts (omega arith) ∙ sym (after_over_lem zero q i none least ws ts (omega arith))
  after_steady s (suc k) (suc j) q i none least ws ts a b = elim (dec_lt q stop) [
    | yes l ↦
        let e : q < end_of ws q = end_past ws q (omega arith) in
        after_one k q i none least ws ts l
        ∙ then_alike (v q dt ws ts) (after_on p (after_go v p stop dt k) (end_of ws q) i none least) (after_on p (after_go v p stop dt j) (end_of ws q) i none least)
        (after_on_alike (after_go v p stop dt k) (after_go v p stop dt j) p (end_of ws q) i none least
        (λ i' none' least' ws' ts'. after_steady s k j (end_of ws q) i' none' least' ws' ts' (omega arith) (omega arith)))
        ∙ sym (after_one j q i none least ws ts l)
    | no l ↦ after_over_lem (suc k) q i none least ws ts (omega arith) ∙ sym (after_over_lem (suc j) q i none least ws ts (omega arith))
  ]

  module _ (q i : ℕ) (none : Bool) (least : Float) (ws : List ℕ) (ts : List Float) where
    pub after_some_over : stop ≤ q → none ≡ false → (ws₁ : List ℕ) → ws₁ ≡ set_place ws p i → after_go v p stop dt 256 q i none least ws ts ≡ out Running zero_time ws₁ ts
    unfolding after_over
    after_some_over h e ws₁ f = rw f (after_over_lem 256 q i none least ws ts h ∙ rw e)

    pub after_all_over : stop ≤ q → none ≡ true → (ws₁ : List ℕ) → ws₁ ≡ set_place ws p i → after_go v p stop dt 256 q i none least ws ts ≡ out Success least ws₁ ts
    unfolding after_over
    after_all_over h e ws₁ f = rw f (after_over_lem 256 q i none least ws ts h ∙ rw e)

    pub after_due : stop ≤ 256 → (next : ℕ) → q < stop → next ≡ end_of ws q → (n : ℕ) → n ≡ from_bool none
        → after_go v p stop dt 256 q i none least ws ts ≡ and_then (v q dt ws ts) (after_on p (after_go v p stop dt 256) next i (not (eqb n 0)) least)
    after_due s next h e n k =
        rw (counted none n k, e) (after_steady s 256 257 q i none least ws ts (omega arith) (omega arith) ∙ after_one 256 q i none least ws ts h)

pub after_start : (v : Visitor) (top : Float) (p stop i q : ℕ) (dt : Float) (ws : List ℕ) (ts : List Float) (o : Out) → stop ≡ end_of ws p → i ≡ place_of (word_at ws p)
    → q ≡ child_from ws stop i (p + 1) → after_go v p stop dt 256 q i true top ws ts ≡ o → after v top p dt ws ts ≡ o
unfolding after
after_start v top p stop i q dt ws ts o a b d g = rw (← a, ← b, ← d) g
