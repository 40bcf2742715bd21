-- One step of `stillOpen`.
use mathlib.Core.Path.{◌≡◌, refl}
use mathlib.Core.Bool.{Bool, true, false, cond}
use mathlib.Core.List.{List}
use Prim.Native.Nat.{ℕ, zero, suc, ◌-◌, ◌≤◌, ◌<◌}
use native.Mathlib.Omega.{arith}
use borrow.Author.Tests.{lt-ltb, le-ltb}
use lib.Dec.{ltb}
use lib.ListN.{get_or}
use Rattle.cells.specs.Check.{open_of}

below : (i : ℕ) → suc (suc i) - 1 ≡ suc i
below i = omega arith

module _ (stops : List ℕ) (at : ℕ) where
  pub one : open_of stops at 1 ≡ 1
  unfolding open_of
  one = refl

  pub top_stays : (i : ℕ) → at < get_or stops (suc i) 0 → open_of stops at (suc (suc i)) ≡ suc (suc i)
  unfolding open_of
  top_stays i h = rw (lt-ltb at (get_or stops (suc i) 0) h)

  pub top_drops : (i : ℕ) → get_or stops (suc i) 0 ≤ at → open_of stops at (suc (suc i)) ≡ open_of stops at (suc i)
  unfolding open_of
  top_drops i h = rw (le-ltb at (get_or stops (suc i) 0) h)

  pub drops : (left : ℕ) → 1 < left → get_or stops (left - 1) 0 ≤ at → open_of stops at left ≡ open_of stops at (left - 1)
  drops zero h k = absurd (omega arith)
  drops (suc zero) h k = absurd (omega arith)
  drops (suc (suc i)) h k = rw (below i) (top_drops i (rw (below i) at k))

  pub ends : (left : ℕ) → left ≤ 1 → open_of stops at left ≡ left
  unfolding open_of
  ends zero h = refl
  ends (suc zero) h = refl
  ends (suc (suc i)) h = absurd (omega arith)

  pub all_stay : (left : ℕ) → 1 ≤ left → at < get_or stops (left - 1) 0 → open_of stops at left ≡ left
  all_stay zero h k = absurd (omega arith)
  all_stay (suc zero) h k = one
  all_stay (suc (suc i)) h k = top_stays i (rw (below i) at k)

  by_test : (b : Bool) (i o : ℕ) → 1 ≤ o → o ≤ suc i → (1 ≤ cond b (suc (suc i)) o) × (cond b (suc (suc i)) o ≤ suc (suc i))
  by_test true i o g h = (omega arith, omega arith)
  by_test false i o g h = (g, omega arith)

  -- the first one stays, and none is added
  pub bounds : (i : ℕ) → 1 ≤ i → (1 ≤ open_of stops at i) × (open_of stops at i ≤ i)
  unfolding open_of
  bounds zero h = absurd (omega arith)
  bounds (suc zero) h = (omega arith, omega arith)
  bounds (suc (suc i)) h = let r = bounds (suc i) (omega arith) in by_test (ltb at (get_or stops (suc i) 0)) i (open_of stops at (suc i)) r.0 r.1
