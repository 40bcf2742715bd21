-- One law for each path of the sequence drivers.
use mathlib.Core.Path.{◌≡◌}
use mathlib.Core.Bool.{Bool, true, false}
use mathlib.Core.List.{List}
use Prim.Native.Nat.{ℕ, zero, suc, ◌+◌, ◌-◌, ◌≤◌, ◌<◌}
use native.Mathlib.Omega.{arith}
use lib.Ieee.{Float}
use borrow.Author.Tests.{le-leb, lt-leb}
use Rattle.rules.specs.Tree.{zero_time}
use Rattle.work.specs.declared.result.Seen.TheVariants.{Stopped, Running, Success, Failure}
use Rattle.work.specs.Word.{place_of}
use Rattle.work.specs.Array.{word_at, updates, passed, end_of, set_place, fresh_words, fresh_times, child_from, up_on}
use Rattle.work.specs.Flat.{Out, out, Visitor}
use Rattle.work.specs.Flat.{sequence_go, sequence, memoryless_go, memoryless}

module _ (v : Visitor) (p stop q i : ℕ) (dt : Float) (ws : List ℕ) (ts : List Float) (l : Float) (ws₁ : List ℕ) (ts₁ : List Float) where
  pub seq_stopped : (k : ℕ) → 0 < k → v q dt ws ts ≡ out Stopped l ws₁ ts₁ → sequence_go v p stop k q i dt ws ts ≡ out Stopped l ws₁ ts₁
  unfolding sequence_go
  seq_stopped zero h e = absurd (omega arith)
  seq_stopped (suc k) h e = rw e

  pub seq_running : (k : ℕ) → 0 < k → v q dt ws ts ≡ out Running l ws₁ ts₁ → (ws₂ : List ℕ) → ws₂ ≡ set_place ws₁ p i
      → sequence_go v p stop k q i dt ws ts ≡ out Running zero_time ws₂ ts₁
  unfolding sequence_go
  seq_running zero h e ws₂ f = absurd (omega arith)
  seq_running (suc k) h e ws₂ f = rw (e, f)

  pub seq_failed : (k : ℕ) → 0 < k → v q dt ws ts ≡ out Failure l ws₁ ts₁ → (ws₂ : List ℕ) → ws₂ ≡ set_place ws₁ p i
      → sequence_go v p stop k q i dt ws ts ≡ out Failure l ws₂ ts₁
  unfolding sequence_go
  seq_failed zero h e ws₂ f = absurd (omega arith)
  seq_failed (suc k) h e ws₂ f = rw (e, f)

  module _ (e : v q dt ws ts ≡ out Success l ws₁ ts₁) (next : ℕ) (n : next ≡ end_of ws₁ q) where
    pub seq_last : (k : ℕ) → 0 < k → stop ≤ next → (u : Bool) → u ≡ updates ws₁ → (j : ℕ) → j ≡ up_on u i → (ws₂ : List ℕ) → ws₂ ≡ set_place ws₁ p j
        → sequence_go v p stop k q i dt ws ts ≡ out Success l ws₂ ts₁
    unfolding sequence_go
    seq_last zero h g u a j b ws₂ f = absurd (omega arith)
    seq_last (suc k) h g u a j b ws₂ f = rw (e, ← n, le-leb stop next g, ← a, ← b, ← f)

    module _ (g : next < stop) (behind : ℕ) (b : behind ≡ end_of ws₁ next) (ws₂ : List ℕ) (ts₂ : List Float)
        (x : ws₂ ≡ fresh_words q (behind - q) ws₁) (y : ts₂ ≡ fresh_times q (behind - q) ts₁) where
      pub seq_other : (k : ℕ) → 0 < k → updates ws₁ ≡ false → (ws₃ : List ℕ) → ws₃ ≡ set_place ws₂ p (i + 1)
          → sequence_go v p stop k q i dt ws ts ≡ out Running zero_time ws₃ ts₂
      unfolding sequence_go
      seq_other zero h u ws₃ f = absurd (omega arith)
      seq_other (suc k) h u ws₃ f = rw (e, ← n, lt-leb stop next g, ← b, ← x, ← y, u, ← f)

      -- the turns that are left are enough
      pub seq_again : (k : ℕ) → stop - q ≤ k → q < next → updates ws₁ ≡ true → (o : Out) → ((j : ℕ) → stop - next ≤ j
          → sequence_go v p stop j next (i + 1) l ws₂ ts₂ ≡ o)
          → sequence_go v p stop k q i dt ws ts ≡ o
      unfolding sequence_go
      seq_again zero h d u o r = absurd (omega arith)
      seq_again (suc k) h d u o r = rw (e, ← n, lt-leb stop next g, ← b, ← x, ← y, u) (r k (omega arith))

module _ (v : Visitor) (p : ℕ) (dt : Float) (ws : List ℕ) (ts : List Float) (stop : ℕ) (a : stop ≡ end_of ws p) where
  module _ (i q : ℕ) (b : i ≡ place_of (word_at ws p)) (d : q ≡ child_from ws stop i (p + 1)) where
    pub seq_over : stop ≤ q → sequence v p dt ws ts ≡ out Running zero_time ws ts
    unfolding sequence
    seq_over h = rw (← a, ← b, ← d, le-leb stop q h)

    pub seq_start : q < stop → (o : Out) → sequence_go v p stop 256 q i dt ws ts ≡ o → sequence v p dt ws ts ≡ o
    unfolding sequence
    seq_start h o g = rw (← a, ← b, ← d, lt-leb stop q h) g

  pub mem_empty : stop ≤ p + 1 → (l : Float) → l ≡ passed ws dt → memoryless v p dt ws ts ≡ out Success l ws ts
  unfolding memoryless
  mem_empty h l e = rw (← a, le-leb stop (p + 1) h, ← e)

  pub mem_start : p + 1 < stop → (ws₁ : List ℕ) (ts₁ : List Float) → ws₁ ≡ fresh_words (p + 1) (stop - (p + 1)) ws → ts₁ ≡ fresh_times (p + 1) (stop - (p + 1)) ts
      → (o : Out) → memoryless_go v stop 256 (p + 1) dt ws₁ ts₁ ≡ o → memoryless v p dt ws ts ≡ o
  unfolding memoryless
  mem_start h ws₁ ts₁ x y o g = rw (← a, lt-leb stop (p + 1) h, ← x, ← y) g

module _ (v : Visitor) (stop q : ℕ) (dt : Float) (ws : List ℕ) (ts : List Float) (l : Float) (ws₁ : List ℕ) (ts₁ : List Float) where
  pub mem_stopped : (k : ℕ) → 0 < k → v q dt ws ts ≡ out Stopped l ws₁ ts₁ → memoryless_go v stop k q dt ws ts ≡ out Stopped l ws₁ ts₁
  unfolding memoryless_go
  mem_stopped zero h e = absurd (omega arith)
  mem_stopped (suc k) h e = rw e

  pub mem_running : (k : ℕ) → 0 < k → v q dt ws ts ≡ out Running l ws₁ ts₁ → memoryless_go v stop k q dt ws ts ≡ out Running zero_time ws₁ ts₁
  unfolding memoryless_go
  mem_running zero h e = absurd (omega arith)
  mem_running (suc k) h e = rw e

  pub mem_failed : (k : ℕ) → 0 < k → v q dt ws ts ≡ out Failure l ws₁ ts₁ → memoryless_go v stop k q dt ws ts ≡ out Failure l ws₁ ts₁
  unfolding memoryless_go
  mem_failed zero h e = absurd (omega arith)
  mem_failed (suc k) h e = rw e

  module _ (e : v q dt ws ts ≡ out Success l ws₁ ts₁) (next : ℕ) (n : next ≡ end_of ws q) where
    pub mem_last : (k : ℕ) → 0 < k → stop ≤ next → (r : Float) → r ≡ passed ws₁ l → memoryless_go v stop k q dt ws ts ≡ out Success r ws₁ ts₁
    unfolding memoryless_go
    mem_last zero h g r f = absurd (omega arith)
    mem_last (suc k) h g r f = rw (e, ← n, le-leb stop next g, ← f)

    pub mem_again : (k : ℕ) → stop - q ≤ k → q < next → next < stop → (ws₂ : List ℕ) (ts₂ : List Float)
        → ws₂ ≡ fresh_words q (next - q) ws₁ → ts₂ ≡ fresh_times q (next - q) ts₁
        → (o : Out) → ((j : ℕ) → stop - next ≤ j → memoryless_go v stop j next l ws₂ ts₂ ≡ o) → memoryless_go v stop k q dt ws ts ≡ o
    unfolding memoryless_go
    mem_again zero h d g ws₂ ts₂ x y o r = absurd (omega arith)
    mem_again (suc k) h d g ws₂ ts₂ x y o r = rw (e, ← n, lt-leb stop next g, ← x, ← y) (r k (omega arith))
