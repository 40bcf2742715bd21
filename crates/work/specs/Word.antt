-- The word of a node, from its low end: nodes below it 8 bits, kind 8, place 8, mark 1, whether it was made fresh in this tick 1, status of the last visit 2.
use Rattle.std.specs.Prelude.{Bool, ℕ, ◌+◌, ◌*◌, ◌/◌, ◌%◌, eqb}
use Rattle.rules.specs.declared.behavior.Kind.{Kind}
use Rattle.rules.specs.Kinds.{kind_of}

unfoldable pub below_of : ℕ → ℕ
below_of w = w % 256

unfoldable pub code_of : ℕ → ℕ
code_of w = w / 256 % 256

abbrev pub kind_in : ℕ → Kind
kind_in w = kind_of (code_of w)

unfoldable pub place_of : ℕ → ℕ
place_of w = w / 65536 % 256

unfoldable pub mark_of : ℕ → ℕ
mark_of w = w / 16777216 % 2

unfoldable pub anew_of : ℕ → Bool
anew_of w = eqb (w / 33554432 % 2) 1

unfoldable pub seen_of : ℕ → ℕ
seen_of w = w / 67108864

unfoldable pub with_place : ℕ → ℕ → ℕ
with_place w i = w % 65536 + i % 256 * 65536 + w / 16777216 * 16777216

unfoldable pub with_mark : ℕ → ℕ
with_mark w = w % 16777216 + 16777216 + w / 33554432 * 33554432

unfoldable pub with_seen : ℕ → ℕ → ℕ
with_seen w s = w % 67108864 + s % 4 * 67108864

-- place and mark are 0, and it was made fresh
unfoldable pub fresh_word : ℕ → ℕ
fresh_word w = w % 65536 + 33554432 + w / 67108864 * 67108864
