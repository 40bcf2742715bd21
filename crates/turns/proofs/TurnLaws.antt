-- Where children stand.
use mathlib.Core.Path.{◌≡◌}
use mathlib.Core.Bool.{cond}
use mathlib.Core.List.{List}
use Prim.Native.Nat.{ℕ, zero, suc, ◌+◌, ◌-◌, ◌≤◌, ◌<◌}
use native.Mathlib.Decide.{dec_lt}
use native.Mathlib.Omega.{arith}
use lib.Dec.{ltb}
use borrow.Author.Tests.{le-leb, lt-leb, lt-ltb, le-ltb}
use Rattle.work.specs.Word.{below_of}
use Rattle.work.specs.Array.{word_at, fuel_of, end_of, fresh_words, child_from}
use Rattle.turns.proofs.FuelLaws.{fuel_fresh_to}

-- ---- where a child ends, and where the next begins
past : (q e : ℕ) → q < 256 → q < cond (ltb (q + 1 + e) 256) (q + 1 + e) 256
past q e h = elim (dec_lt (q + 1 + e) 256) [
  | yes l ↦ rw (lt-ltb (q + 1 + e) 256 l) (omega arith)
  | no l ↦ rw (le-ltb (q + 1 + e) 256 (omega arith)) (omega arith)
]

pub end_past : (ws : List ℕ) (q : ℕ) → q < 256 → q < end_of ws q
unfolding end_of
end_past ws q h = past q (below_of (word_at ws q)) h

pub child_past : (ws : List ℕ) (stop i q : ℕ) → stop ≤ 256 → q ≤ child_from ws stop i q
unfolding child_from
child_past ws stop zero q h = omega arith
child_past ws stop (suc i) q h = elim (dec_lt q stop) [
  | yes l ↦
      let a = child_past ws stop i (end_of ws q) h in
      let b : q < end_of ws q = end_past ws q (omega arith) in
      rw (lt-leb stop q l) (omega arith)
  | no l ↦
      let g : stop ≤ q = omega arith in
      rw (le-leb stop q g) (omega arith)
]

pub child_behind : (ws : List ℕ) (stop i p q : ℕ) → stop ≤ 256 → q ≡ child_from ws stop i p → p ≤ q
child_behind ws stop i p q h e = rw e (child_past ws stop i p h)

-- ---- what is written leaves the fuel as it is

pub fuel_freshed : (ws ws₁ : List ℕ) (q to : ℕ) → to ≤ 256 → ws₁ ≡ fresh_words q (to - q) ws → fuel_of ws₁ ≡ fuel_of ws
fuel_freshed ws ws₁ q to h e = rw e (fuel_fresh_to ws q to h)
