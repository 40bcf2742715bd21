-- A text's bytes, so that an example reads as the paper has it.
use Rattle.std.specs.Prelude.{List, [], ◌∷◌, ◌++◌, ℕ}
use Prim.Native.Char.{code}
use Prim.Native.String.{String}
use Prim.Native.String as text

unfoldable pub bytes : String → List ℕ
bytes text.[] = []
bytes (text.◌∷◌ c s) = code c ∷ bytes s

-- lines, each with its LF
unfoldable pub page : List String → List ℕ
unfolding bytes
page [] = []
page (s ∷ ss) = bytes s ++ (10 ∷ page ss)
