-- Many visits at once: what they come to, one after the other.
use Rattle.std.specs.Prelude.{◌≡◌, List, ℕ, ◌+◌, Float}
use Rattle.std.specs.Float.{binary64}
use Rattle.rules.specs.Tree.{zero_time}
use Rattle.work.specs.declared.result.Seen.TheVariants.{Running}
use Rattle.work.specs.Word.{mark_of}
use Rattle.work.specs.Array.{word_at, end_of}
use Rattle.work.specs.Flat.{Visitor, out, lent, visit}

-- From q on and before r each place holds a node without a mark and with none below it, whose visit leaves it Running. The words and the times are
-- those before the first visit and those after the last.
pub data Waiting (limits : List Float) (dt : Float) : ℕ → ℕ → List ℕ → List Float → List ℕ → List Float → Type 0 where
  none : {q : ℕ} {ws : List ℕ} {ts : List Float} → Waiting limits dt q q ws ts ws ts
  more : {q r : ℕ} {ws ws₁ ws₂ : List ℕ} {ts ts₁ ts₂ : List Float}
      → end_of ws q ≡ q + 1
      → mark_of (word_at ws q) ≡ 0
      → ((a : List ℕ) (b : List Float) (tick : Visitor) → visit binary64 (lent limits a b) tick q dt ws ts ≡ out Running zero_time ws₁ ts₁)
      → Waiting limits dt (q + 1) r ws₁ ts₁ ws₂ ts₂
      → Waiting limits dt q r ws ts ws₂ ts₂
