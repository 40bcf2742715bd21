-- One word more is loaded, or none.
use mathlib.Core.Path.{◌≡◌}
use mathlib.Core.Bool.{Bool}
use mathlib.Core.List.{List}
use Prim.Native.Nat.{ℕ, suc, ◌+◌, ◌-◌}
use lib.ListN.{get_or, set}
use Rattle.refine.specs.Words.{pack}
use Rattle.load.specs.Load.{load_words}

module _ (anew : Bool) (kinds ends places marks : List ℕ) where
  pub load_one : (q n m : ℕ) (ws : List ℕ) (b w : ℕ)
      → n ≡ suc m
      → b ≡ get_or ends q 0 - (q + 1)
      → w ≡ pack b (get_or kinds q 0) (get_or places q 0) (get_or marks q 0) anew 0
      → load_words anew kinds ends places marks (q + 1) m (set ws q w) ≡ load_words anew kinds ends places marks q n ws
  unfolding load_words
  load_one q n m ws b w e f g = rw (e, g, f)

  pub load_none : (q n : ℕ) (ws : List ℕ) → n ≡ 0 → load_words anew kinds ends places marks q n ws ≡ ws
  unfolding load_words
  load_none q n ws e = rw e
