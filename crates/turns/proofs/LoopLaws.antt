-- Laws for the paths of the loop drivers.
use mathlib.Core.Path.{◌≡◌, refl}
use mathlib.Core.Bool.{true, cond}
use mathlib.Core.List.{List}
use Prim.Native.Nat.{ℕ, zero, suc, ◌+◌, ◌-◌, ◌≤◌, ◌<◌}
use native.Mathlib.Numerals.{sub-one}
use lib.Dec.{eqb}
use lib.Ieee.{Float}
use borrow.Author.Tests.{lt-ltb, le-ltb, eq-eqb, ne_eqb}
use Rattle.rules.specs.Tree.{zero_time}
use Rattle.work.specs.declared.result.Seen.{Seen}
use Rattle.work.specs.declared.result.Seen.TheVariants.{Stopped, Success}
use Rattle.work.specs.Word.{place_of}
use Rattle.work.specs.Array.{word_at, fuel_of, updates, end_of, child_from, index_after, child_after, moved_words, moved_times}
use Rattle.work.specs.Flat.{Out, out, Visitor, and_then, moved, while_on, while_holds, while_go, while_body, while_loop, while_all_on, while_all_holds, while_all_go, while_all}
use Rattle.turns.specs.declared.level.Level.{Level}
use Rattle.turns.specs.Levels.{while_resumed, while_all_resumed}
use Rattle.turns.proofs.FuelLaws.{fuel_moved}

-- ---- a child of the body, or the end
module _ (v : Visitor) (p stop body : ℕ) where
  module _ (q i : ℕ) (dt : Float) (ws : List ℕ) (ts : List Float) where
    pub while_over : (k : ℕ) → k ≡ 0 → while_go v p stop body k q i dt ws ts ≡ out Stopped zero_time ws ts
    unfolding while_go
    while_over k h = rw h

    pub while_lost : (k : ℕ) → stop ≤ q → while_go v p stop body k q i dt ws ts ≡ out Stopped zero_time ws ts
    unfolding while_go
    while_lost zero g = refl
    while_lost (suc k) g = rw (le-ltb q stop g)

    pub while_due : (k : ℕ) → (k ≡ 0 → ⊥) → q < stop → (z : Out)
        → while_go v p stop body k q i dt ws ts ≡ cond (eqb k 0) z (and_then (v q dt ws ts) (while_on p stop body (while_go v p stop body (k - 1)) q i))
    unfolding while_go
    while_due zero n d z = absurd (n refl)
    while_due (suc k) n d z = rw (lt-ltb q stop d, ne_eqb (suc k) 0 n, sub-one (suc k))

  module _ (whole : Float) (q i : ℕ) (dt : Float) (ws : List ℕ) (ts : List Float) where
    pub all_over : (k : ℕ) → k ≡ 0 → while_all_go v p stop body whole k q i dt ws ts ≡ out Stopped zero_time ws ts
    unfolding while_all_go
    all_over k h = rw h

    pub all_asks : (k : ℕ) → (k ≡ 0 → ⊥) → i ≡ 0 → (z : Out)
        → while_all_go v p stop body whole k q i dt ws ts
        ≡ cond (eqb i 0) (and_then (v (p + 1) whole ws ts) (while_all_holds p (while_all_go v p stop body whole (k - 1) body 1 dt))) z
    unfolding while_all_go
    all_asks zero n h z = absurd (n refl)
    all_asks (suc k) n h z = rw (eq-eqb i 0 h, sub-one (suc k))

    pub all_lost : (k : ℕ) → (i ≡ 0 → ⊥) → stop ≤ q → while_all_go v p stop body whole k q i dt ws ts ≡ out Stopped zero_time ws ts
    unfolding while_all_go
    all_lost zero n g = refl
    all_lost (suc k) n g = rw (ne_eqb i 0 n, le-ltb q stop g)

    pub all_due : (k : ℕ) → (k ≡ 0 → ⊥) → (i ≡ 0 → ⊥) → q < stop → (z : Out)
        → while_all_go v p stop body whole k q i dt ws ts
        ≡ cond (eqb i 0) z (and_then (v q dt ws ts) (while_all_on p stop body (while_all_go v p stop body whole (k - 1)) q i))
    unfolding while_all_go
    all_due zero m n d z = absurd (m refl)
    all_due (suc k) m n d z = rw (ne_eqb i 0 n, lt-ltb q stop d, sub-one (suc k))

-- ---- a node is entered
module _ (v : Visitor) (p : ℕ) (dt : Float) (ws : List ℕ) (ts : List Float) where
  pub while_none : 255 ≤ p → while_loop v p dt ws ts ≡ out Stopped zero_time ws ts
  unfolding while_loop
  while_none h = rw (le-ltb p 255 h)

  pub while_asks : p < 255 → (k : ℕ) → k ≡ 0 → (z : Out) → while_loop v p dt ws ts ≡ cond (eqb k 0) (and_then (v (p + 1) dt ws ts) (while_holds (while_body v p dt))) z
  unfolding while_loop
  while_asks h k e z = rw (lt-ltb p 255 h, eq-eqb k 0 e)

  pub all_none : 255 ≤ p → while_all v p dt ws ts ≡ out Stopped zero_time ws ts
  unfolding while_all
  all_none h = rw (le-ltb p 255 h)

  pub all_begins : p < 255 → (stop body i q : ℕ) → stop ≡ end_of ws p → body ≡ end_of ws (p + 1) → i ≡ place_of (word_at ws p) → q ≡ child_from ws stop i (p + 1)
      → (o : Out) → while_all_go v p stop body dt (fuel_of ws) q i dt ws ts ≡ o → while_all v p dt ws ts ≡ o
  unfolding while_all
  all_begins h stop body i q a b c d o g = rw (lt-ltb p 255 h, ← a, ← b, ← c, ← d) g

-- ---- a child of the body has given a result
module _ (v : Visitor) (e : Level) (s : Seen) (l : Float) (ws : List ℕ) (ts : List Float) where
  module _ (t : s ≡ Success) (next i' q' : ℕ) (a : next ≡ end_of ws e.child) (b : i' ≡ index_after e.index next e.stop) (c : q' ≡ child_after next e.stop e.next)
      (ws₁ : List ℕ) (ts₁ : List Float) (x : ws₁ ≡ moved_words e.child next e.stop e.next ws) (y : ts₁ ≡ moved_times e.child next e.stop e.next ws ts) where
    pub while_again : (e.count ≡ 0 → ⊥) → updates ws ≡ true → (o : Out) → while_go v e.node e.stop e.next (e.count - 1) q' i' l ws₁ ts₁ ≡ o
        → while_resumed v e (out s l ws ts) ≡ o
    unfolding moved moved_words moved_times
    while_again n u o r = rw (ne_eqb e.count 0 n, t, u, ← a, ← b) (rw (x, y, c) at r)

    pub all_again : (e.index ≡ 0 → ⊥) → (o : Out) → while_all_go v e.node e.stop e.next e.whole e.count q' i' l ws₁ ts₁ ≡ o
        → while_all_resumed v e (out s l ws ts) ≡ o
    unfolding moved moved_words moved_times
    all_again m o r = rw (ne_eqb e.index 0 m, t, ← a, ← b) (rw (x, y, c) at r)

-- ---- what moving on leaves as it is
pub fuel_moved_on : (ws ws₁ : List ℕ) (q next stop body : ℕ) → next ≤ 256 → ws₁ ≡ moved_words q next stop body ws → fuel_of ws₁ ≡ fuel_of ws
fuel_moved_on ws ws₁ q next stop body h e = rw e (fuel_moved ws q next stop body h)
