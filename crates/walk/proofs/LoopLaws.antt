-- One law for each path of the loop drivers.
use mathlib.Core.Path.{◌≡◌}
use mathlib.Core.Bool.{true}
use mathlib.Core.List.{List}
use Prim.Native.Nat.{ℕ, zero, suc, ◌+◌, ◌-◌, ◌≤◌, ◌<◌}
use native.Mathlib.Numerals.{sub-one}
use native.Mathlib.Decide.{dec_lt}
use native.Mathlib.Omega.{arith}
use lib.Ieee.{Float}
use borrow.Author.Tests.{lt-ltb, le-ltb, ne_eqb}
use Rattle.rules.specs.declared.status.Status.TheVariants as status
use Rattle.rules.specs.Tree.{zero_time}
use Rattle.work.specs.declared.result.Seen.{Seen}
use Rattle.work.specs.declared.result.Seen.TheVariants.{Running, Success, Failure}
use Rattle.work.specs.Array.{updates, end_of, set_place, index_after, child_after, moved_words, moved_times}
use Rattle.work.specs.Flat.{Out, out, Visitor}
use Rattle.work.specs.Flat.{moved, while_go, while_all_go}
use Rattle.work.proofs.VisitLaws.{Gave, NotRunning}

module _ (v : Visitor) (p stop body : ℕ) where
  module _ (q i : ℕ) (dt : Float) (ws : List ℕ) (ts : List Float) where
    module _ (d : q < stop) (l : Float) (ws₁ : List ℕ) (ts₁ : List Float) where
      module _ (next i' q' : ℕ) (a : next ≡ end_of ws₁ q) (b : i' ≡ index_after i next stop) (c : q' ≡ child_after next stop body) (ws₂ : List ℕ) (ts₂ : List Float)
          (x : ws₂ ≡ moved_words q next stop body ws₁) (y : ts₂ ≡ moved_times q next stop body ws₁ ts₁) where
        pub while_again : (k m : ℕ) → 0 < k → m ≡ k - 1 → v q dt ws ts ≡ out Success l ws₁ ts₁ → updates ws₁ ≡ true → (o : Out) → while_go v p stop body m q' i' l ws₂ ts₂ ≡ o
            → while_go v p stop body k q i dt ws ts ≡ o
        unfolding while_go moved moved_words moved_times
        while_again zero m h f e u o r = absurd (omega arith)
        while_again (suc k) m h f e u o r = rw (lt-ltb q stop d, e, u, ← a, ← b) (rw (x, y, c, f, sub-one (suc k)) at r)

  module _ (whole : Float) (q i : ℕ) (dt : Float) (ws : List ℕ) (ts : List Float) where
    pub all_due : (k m : ℕ) → 0 < k → m ≡ k - 1 → i ≡ 0 → (l : Float) (ws₁ : List ℕ) (ts₁ : List Float) → v (p + 1) whole ws ts ≡ out Running l ws₁ ts₁
        → (o : Out) → while_all_go v p stop body whole m body 1 dt ws₁ ts₁ ≡ o → while_all_go v p stop body whole k q i dt ws ts ≡ o
    unfolding while_all_go
    all_due zero m h f n l ws₁ ts₁ e o r = absurd (omega arith)
    all_due (suc k) m h f n l ws₁ ts₁ e o r = rw (n, e) (rw (f, sub-one (suc k)) at r)

    pub all_ended : (k : ℕ) → 0 < k → i ≡ 0 → (s : Seen) → Gave s → NotRunning s → (l : Float) (ws₁ : List ℕ) (ts₁ : List Float) → v (p + 1) whole ws ts ≡ out s l ws₁ ts₁
        → (ws₂ : List ℕ) → ws₂ ≡ set_place ws₁ p 1 → while_all_go v p stop body whole k q i dt ws ts ≡ out s l ws₂ ts₁
    unfolding while_all_go
    all_ended zero h n s g m l ws₁ ts₁ e ws₂ f = absurd (omega arith)
    all_ended (suc k) h n s (status.Running, g) m l ws₁ ts₁ e ws₂ f = absurd (rw g at m)
    all_ended (suc k) h n s (status.Success, g) m l ws₁ ts₁ e ws₂ f = rw (n, e, g, f)
    all_ended (suc k) h n s (status.Failure, g) m l ws₁ ts₁ e ws₂ f = rw (n, e, g, f)

    module _ (n : i ≡ 0 → ⊥) where
      module _ (d : q < stop) (l : Float) (ws₁ : List ℕ) (ts₁ : List Float) where
        pub all_running : (k : ℕ) → 0 < k → v q dt ws ts ≡ out Running l ws₁ ts₁ → (ws₂ : List ℕ) → ws₂ ≡ set_place ws₁ p i
            → while_all_go v p stop body whole k q i dt ws ts ≡ out Running zero_time ws₂ ts₁
        unfolding while_all_go
        all_running zero h e ws₂ f = absurd (omega arith)
        all_running (suc k) h e ws₂ f = rw (ne_eqb i 0 n, lt-ltb q stop d, e, f)

        pub all_failed : (k : ℕ) → 0 < k → (s : Seen) → s ≡ Failure → v q dt ws ts ≡ out s l ws₁ ts₁ → (ws₂ : List ℕ) → ws₂ ≡ set_place ws₁ p i
            → while_all_go v p stop body whole k q i dt ws ts ≡ out s l ws₂ ts₁
        unfolding while_all_go
        all_failed zero h s n' e ws₂ f = absurd (omega arith)
        all_failed (suc k) h s n' e ws₂ f = rw (ne_eqb i 0 n, lt-ltb q stop d, e, n', f)

        module _ (next i' q' : ℕ) (a : next ≡ end_of ws₁ q) (b : i' ≡ index_after i next stop) (c : q' ≡ child_after next stop body) (ws₂ : List ℕ) (ts₂ : List Float)
            (x : ws₂ ≡ moved_words q next stop body ws₁) (y : ts₂ ≡ moved_times q next stop body ws₁ ts₁) where
          pub all_again : (k m : ℕ) → 0 < k → m ≡ k - 1 → v q dt ws ts ≡ out Success l ws₁ ts₁ → (o : Out) → while_all_go v p stop body whole m q' i' l ws₂ ts₂ ≡ o
              → while_all_go v p stop body whole k q i dt ws ts ≡ o
          unfolding while_all_go moved moved_words moved_times
          all_again zero m h f e o r = absurd (omega arith)
          all_again (suc k) m h f e o r = rw (ne_eqb i 0 n, lt-ltb q stop d, e, ← a, ← b) (rw (x, y, c, f, sub-one (suc k)) at r)

-- the index stays small
pub index_within : (i next stop body q : ℕ) → i ≤ 255 + q → q < next → index_after i next stop ≤ 255 + child_after next stop body
index_within i next stop body q h g = elim (dec_lt next stop) [
  | yes l ↦ rw (lt-ltb next stop l) (omega arith)
  | no l ↦ let o : stop ≤ next = omega arith in rw (le-ltb next stop o) (omega arith)
]
