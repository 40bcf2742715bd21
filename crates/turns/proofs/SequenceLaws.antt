-- Laws for the paths of the sequence drivers; and 256 turns stand for as many as are left.
use mathlib.Core.Path.{◌≡◌, refl, sym, ◌∙◌}
use mathlib.Core.Bool.{Bool, true, cond}
use mathlib.Core.List.{List}
use Prim.Native.Nat.{ℕ, zero, suc, ◌+◌, ◌-◌, ◌≤◌, ◌<◌}
use native.Mathlib.Decide.{dec_lt}
use native.Mathlib.Omega.{arith}
use lib.Ieee.{Float}
use borrow.Author.Tests.{le-leb, lt-leb}
use Rattle.rules.specs.declared.status.Status.{Status}
use Rattle.rules.specs.declared.status.Status.TheVariants as status
use Rattle.rules.specs.Tree.{zero_time}
use Rattle.work.specs.declared.result.Seen.{Seen}
use Rattle.work.specs.declared.result.Seen.TheVariants.{Running, Success}
use Rattle.work.specs.Word.{place_of}
use Rattle.work.specs.Array.{word_at, updates, passed, end_of, fresh_words, fresh_times, child_from}
use Rattle.work.specs.Flat.{Out, out, Step, Visitor, and_then, turned, turn_out, turning, sequence_on, memoryless_on, sequence_go, sequence, memoryless_go, memoryless}
use Rattle.turns.specs.declared.level.Level.{Level}
use Rattle.turns.specs.Levels.{sequence_resumed, memoryless_resumed}
use Rattle.turns.proofs.FuelLaws.{then_alike}
use Rattle.turns.proofs.TurnLaws.{end_past}

cond_alike : (u : Bool) (a b w : Out) → a ≡ b → cond u a w ≡ cond u b w
cond_alike u a b w h = rw h

-- ---- Sequence and Select: as many turns as are left
seq_on_alike : (p stop : ℕ) (f g : ℕ → ℕ → Float → Step) (q i : ℕ) → q < 256
    → ((n : ℕ) (l : Float) (ws : List ℕ) (ts : List Float) → q < n → n < stop → f n (i + 1) l ws ts ≡ g n (i + 1) l ws ts)
    → (s : Status) (l : Float) (ws : List ℕ) (ts : List Float) → sequence_on p stop f q i s l ws ts ≡ sequence_on p stop g q i s l ws ts
seq_on_alike p stop f g q i b h status.Running l ws ts = refl
seq_on_alike p stop f g q i b h status.Failure l ws ts = refl
seq_on_alike p stop f g q i b h status.Success l ws ts =
    let next = end_of ws q in
    elim (dec_lt next stop) [
      | yes n ↦ rw (lt-leb stop next n) (cond_alike (updates ws) _ _ _ (h next l _ _ (end_past ws q b) n))
      | no n ↦ let g : stop ≤ next = omega arith in rw (le-leb stop next g)
    ]

module _ (v : Visitor) (p stop : ℕ) (w : stop ≤ 256) where
  seq_one : (k q i : ℕ) (dt : Float) (ws : List ℕ) (ts : List Float)
      → sequence_go v p stop (suc k) q i dt ws ts ≡ and_then (v q dt ws ts) (sequence_on p stop (sequence_go v p stop k) q i)
  unfolding sequence_go
  seq_one k q i dt ws ts = refl

  seq_steady : (k j q i : ℕ) (dt : Float) (ws : List ℕ) (ts : List Float) → q < stop → stop - q ≤ k → stop - q ≤ j
      → sequence_go v p stop k q i dt ws ts ≡ sequence_go v p stop j q i dt ws ts
  seq_steady zero j q i dt ws ts h a b = absurd (omega arith)
  seq_steady (suc k) zero q i dt ws ts h a b = absurd (omega arith)
  seq_steady (suc k) (suc j) q i dt ws ts h a b =
      seq_one k q i dt ws ts
      ∙ then_alike (v q dt ws ts) (sequence_on p stop (sequence_go v p stop k) q i) (sequence_on p stop (sequence_go v p stop j) q i)
      (seq_on_alike p stop (sequence_go v p stop k) (sequence_go v p stop j) q i (omega arith)
      (λ n l ws' ts' d g. seq_steady k j n (i + 1) l ws' ts' g (omega arith) (omega arith)))
      ∙ sym (seq_one j q i dt ws ts)

  seq_due : (q i : ℕ) (dt : Float) (ws : List ℕ) (ts : List Float) → q < stop
      → sequence_go v p stop 256 q i dt ws ts ≡ and_then (v q dt ws ts) (sequence_on p stop (sequence_go v p stop 256) q i)
  seq_due q i dt ws ts h = seq_steady 256 257 q i dt ws ts h (omega arith) (omega arith) ∙ seq_one 256 q i dt ws ts

-- a node is entered
module _ (x : Bool) (v : Visitor) (p : ℕ) (dt : Float) (ws : List ℕ) (ts : List Float) (stop i q : ℕ)
    (a : stop ≡ end_of ws p) (b : i ≡ place_of (word_at ws p)) (d : q ≡ child_from ws stop i (p + 1)) where
  pub seq_over : stop ≤ q → turn_out x (sequence (turning x v) p dt ws ts) ≡ out Running zero_time ws ts
  unfolding sequence
  seq_over h = rw (← a, ← b, ← d, le-leb stop q h)

  pub seq_start : stop ≤ 256 → q < stop
      → turn_out x (sequence (turning x v) p dt ws ts)
      ≡ turn_out x (and_then (turn_out x (v q dt ws ts)) (sequence_on p stop (sequence_go (turning x v) p stop 256) q i))
  unfolding sequence
  seq_start w h = rw (← a, ← b, ← d, lt-leb stop q h, seq_due (turning x v) p stop w q i dt ws ts h)

-- a child has given a result
module _ (x : Bool) (v : Visitor) (e : Level) (s : Seen) (l : Float) (ws : List ℕ) (ts : List Float) where
  module _ (h : turned x s ≡ Success) (next : ℕ) (n : next ≡ end_of ws e.child) where
    module _ (g : next < e.stop) (behind : ℕ) (b : behind ≡ end_of ws next) (ws₁ : List ℕ) (ts₁ : List Float)
        (y : ws₁ ≡ fresh_words e.child (behind - e.child) ws) (z : ts₁ ≡ fresh_times e.child (behind - e.child) ts) where
      pub seq_again : e.stop ≤ 256 → updates ws ≡ true
          → sequence_resumed x v e (out s l ws ts)
          ≡ turn_out x (and_then (turn_out x (v next l ws₁ ts₁)) (sequence_on e.node e.stop (sequence_go (turning x v) e.node e.stop 256) next (e.index + 1)))
      seq_again w u = rw (h, ← n, lt-leb e.stop next g, ← b, ← y, ← z, u, seq_due (turning x v) e.node e.stop w next (e.index + 1) l ws₁ ts₁ g)

-- ---- the memoryless forms: as many turns as are left
mem_on_alike : (stop : ℕ) (f g : Visitor) (q next : ℕ)
    → ((l : Float) (ws : List ℕ) (ts : List Float) → next < stop → f next l ws ts ≡ g next l ws ts)
    → (s : Status) (l : Float) (ws : List ℕ) (ts : List Float) → memoryless_on stop f q next s l ws ts ≡ memoryless_on stop g q next s l ws ts
mem_on_alike stop f g q next h status.Running l ws ts = refl
mem_on_alike stop f g q next h status.Failure l ws ts = refl
mem_on_alike stop f g q next h status.Success l ws ts = elim (dec_lt next stop) [
  | yes n ↦ rw (lt-leb stop next n) (h l _ _ n)
  | no n ↦ let g : stop ≤ next = omega arith in rw (le-leb stop next g)
]

module _ (v : Visitor) (stop : ℕ) (w : stop ≤ 256) where
  mem_one : (k q : ℕ) (dt : Float) (ws : List ℕ) (ts : List Float)
      → memoryless_go v stop (suc k) q dt ws ts ≡ and_then (v q dt ws ts) (memoryless_on stop (memoryless_go v stop k) q (end_of ws q))
  unfolding memoryless_go
  mem_one k q dt ws ts = refl

  mem_steady : (k j q : ℕ) (dt : Float) (ws : List ℕ) (ts : List Float) → q < stop → stop - q ≤ k → stop - q ≤ j
      → memoryless_go v stop k q dt ws ts ≡ memoryless_go v stop j q dt ws ts
  mem_steady zero j q dt ws ts h a b = absurd (omega arith)
  mem_steady (suc k) zero q dt ws ts h a b = absurd (omega arith)
  mem_steady (suc k) (suc j) q dt ws ts h a b =
      let next = end_of ws q in
      let d : q < next = end_past ws q (omega arith) in
      mem_one k q dt ws ts
      ∙ then_alike (v q dt ws ts) (memoryless_on stop (memoryless_go v stop k) q next) (memoryless_on stop (memoryless_go v stop j) q next)
      (mem_on_alike stop (memoryless_go v stop k) (memoryless_go v stop j) q next
      (λ l ws' ts' g. mem_steady k j next l ws' ts' g (omega arith) (omega arith)))
      ∙ sym (mem_one j q dt ws ts)

  mem_due : (q next : ℕ) (dt : Float) (ws : List ℕ) (ts : List Float) → next ≡ end_of ws q → q < stop
      → memoryless_go v stop 256 q dt ws ts ≡ and_then (v q dt ws ts) (memoryless_on stop (memoryless_go v stop 256) q next)
  mem_due q next dt ws ts e h = rw e (mem_steady 256 257 q dt ws ts h (omega arith) (omega arith) ∙ mem_one 256 q dt ws ts)

-- a node is entered
module _ (x : Bool) (v : Visitor) (p : ℕ) (dt : Float) (ws : List ℕ) (ts : List Float) (stop : ℕ) (a : stop ≡ end_of ws p) where
  pub mem_empty : stop ≤ p + 1 → (l : Float) → l ≡ passed ws dt → (s : Seen) → s ≡ turned x Success
      → turn_out x (memoryless (turning x v) p dt ws ts) ≡ out s l ws ts
  unfolding memoryless
  mem_empty h l e s t = rw (← a, le-leb stop (p + 1) h, ← e, t)

  pub mem_start : stop ≤ 256 → p + 1 < stop → (ws₁ : List ℕ) (ts₁ : List Float) → ws₁ ≡ fresh_words (p + 1) (stop - (p + 1)) ws → ts₁ ≡ fresh_times (p + 1) (stop - (p + 1)) ts
      → (next : ℕ) → next ≡ end_of ws₁ (p + 1)
      → turn_out x (memoryless (turning x v) p dt ws ts)
      ≡ turn_out x (and_then (turn_out x (v (p + 1) dt ws₁ ts₁)) (memoryless_on stop (memoryless_go (turning x v) stop 256) (p + 1) next))
  unfolding memoryless
  mem_start w h ws₁ ts₁ y z next n = rw (← a, lt-leb stop (p + 1) h, ← y, ← z, mem_due (turning x v) stop w (p + 1) next dt ws₁ ts₁ n h)

-- a child has given a result
module _ (x : Bool) (v : Visitor) (e : Level) (s : Seen) (l : Float) (ws : List ℕ) (ts : List Float) where
  module _ (h : turned x s ≡ Success) where
    pub mem_again : e.stop ≤ 256 → e.next < e.stop → (ws₁ : List ℕ) (ts₁ : List Float)
        → ws₁ ≡ fresh_words e.child (e.next - e.child) ws → ts₁ ≡ fresh_times e.child (e.next - e.child) ts → (behind : ℕ) → behind ≡ end_of ws₁ e.next
        → memoryless_resumed x v e (out s l ws ts)
        ≡ turn_out x (and_then (turn_out x (v e.next l ws₁ ts₁)) (memoryless_on e.stop (memoryless_go (turning x v) e.stop 256) e.next behind))
    mem_again w g ws₁ ts₁ y z behind n = rw (h, lt-leb e.stop e.next g, ← y, ← z, mem_due (turning x v) e.stop w e.next behind l ws₁ ts₁ n g)
