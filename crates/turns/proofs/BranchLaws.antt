-- Laws for the paths of If.
use mathlib.Core.Path.{◌≡◌}
use mathlib.Core.List.{List}
use Rattle.std.specs.Prelude.{Some}
use Prim.Native.Nat.{ℕ, ◌+◌, ◌≤◌, ◌<◌}
use native.Mathlib.Omega.{arith}
use lib.Ieee.{Float}
use borrow.Author.Tests.{lt-ltb, le-ltb, eq-eqb, ne_eqb}
use Rattle.rules.specs.Tree.{zero_time}
use Rattle.work.specs.declared.result.Seen.{Seen}
use Rattle.work.specs.declared.result.Seen.TheVariants.{Stopped, Running, Success, Failure}
use Rattle.work.specs.Word.{place_of}
use Rattle.work.specs.Array.{word_at, end_of, child_from, decided_words, chosen_words, chosen_times}
use Rattle.work.specs.Flat.{out, Visitor, and_then, choice_of, if_on, branch, chosen, if_node}
use Rattle.turns.specs.declared.level.Level.{Level}
use Rattle.turns.specs.Levels.{if_resumed}

module _ (v : Visitor) (p : ℕ) (dt : Float) (ws : List ℕ) (ts : List Float) (stop i : ℕ) (a : stop ≡ end_of ws p) (b : i ≡ place_of (word_at ws p)) where
  module _ (q : ℕ) (n : 0 < i) (d : q ≡ child_from ws stop i (p + 1)) where
    pub if_held : q < stop → if_node v p dt ws ts ≡ v q dt ws ts
    unfolding if_node branch
    if_held h = rw (← a, ← b, ne_eqb i 0 (λ z. omega arith), ← d, lt-ltb q stop h)

    pub if_lost : stop ≤ q → if_node v p dt ws ts ≡ out Stopped zero_time ws ts
    unfolding if_node branch
    if_lost h = rw (← a, ← b, ne_eqb i 0 (λ z. omega arith), ← d, le-ltb q stop h)

  pub if_none : i ≤ 0 → 255 ≤ p → if_node v p dt ws ts ≡ out Stopped zero_time ws ts
  unfolding if_node
  if_none n h = rw (← a, ← b, eq-eqb i 0 (omega arith), le-ltb p 255 h)

  pub if_due : i ≤ 0 → p < 255 → if_node v p dt ws ts ≡ and_then (v (p + 1) dt ws ts) (if_on (chosen v p stop))
  unfolding if_node
  if_due n h = rw (← a, ← b, eq-eqb i 0 (omega arith), lt-ltb p 255 h)

-- a choice is one of the two branches
pub choice_small : (s : Seen) (j : ℕ) → Some j ≡ choice_of s → (0 < j) × (j ≤ 2)
choice_small Stopped j h = cc
choice_small Running j h = cc
choice_small Success j h = let e : j ≡ 1 = cc in (omega arith, omega arith)
choice_small Failure j h = let e : j ≡ 2 = cc in (omega arith, omega arith)

module _ (v : Visitor) (e : Level) (l : Float) (ws : List ℕ) (ts : List Float) where
  module _ (z : e.index ≡ 0) where
    decided : (s : Seen) (j : ℕ) → Some j ≡ choice_of s → if_resumed v e (out s l ws ts) ≡ chosen v e.node e.stop j l ws ts
    decided Stopped j h = cc
    decided Running j h = cc
    decided Success j h = let i : j ≡ 1 = cc in rw (eq-eqb e.index 0 z, i)
    decided Failure j h = let i : j ≡ 2 = cc in rw (eq-eqb e.index 0 z, i)

    module _ (s : Seen) (j : ℕ) (c : Some j ≡ choice_of s) (ws₂ : List ℕ) (ts₂ : List Float) (x : ws₂ ≡ chosen_words e.node e.stop j ws)
        (y : ts₂ ≡ chosen_times e.node e.stop j ws ts) (q : ℕ) (d : q ≡ child_from ws₂ e.stop j (e.node + 1)) where
      chosen_is : chosen v e.node e.stop j l ws ts ≡ branch v e.node e.stop j l ws₂ ts₂
      unfolding chosen chosen_words chosen_times decided_words
      chosen_is = rw (x, y)

      pub if_chosen : q < e.stop → if_resumed v e (out s l ws ts) ≡ v q l ws₂ ts₂
      unfolding branch
      if_chosen h = rw (decided s j c, chosen_is, ← d, lt-ltb q e.stop h)

      pub if_chosen_lost : e.stop ≤ q → if_resumed v e (out s l ws ts) ≡ out Stopped zero_time ws₂ ts₂
      unfolding branch
      if_chosen_lost h = rw (decided s j c, chosen_is, ← d, le-ltb q e.stop h)
