-- Loading the working array from the runs that a host lends.
use Rattle.std.specs.Prelude.{Bool, List, ℕ, zero, suc, ◌+◌, ◌-◌, get_or, set}
use Rattle.refine.specs.Words.{pack}

-- n words from q on, of nodes that no visit has seen, all made fresh or none
unfoldable pub load_words : Bool → List ℕ → List ℕ → List ℕ → List ℕ → ℕ → ℕ → List ℕ → List ℕ
load_words anew kinds ends places marks q zero ws = ws
load_words anew kinds ends places marks q (suc n) ws =
    load_words anew kinds ends places marks (q + 1) n (set ws q (pack (get_or ends q 0 - (q + 1)) (get_or kinds q 0) (get_or places q 0) (get_or marks q 0) anew 0))
