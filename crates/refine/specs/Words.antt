-- A tree as it stands in the working array and in the times, and the table that it stands in.
use Rattle.std.specs.Prelude.{◌≡◌, Bool, true, false, List, ◌++◌, ℕ, suc, ◌+◌, ◌-◌, ◌*◌, ◌%◌, ◌≤◌, ◌<◌, Float, get_or, replicate}
use Rattle.rules.specs.declared.behavior.Kind.{Kind}
use Rattle.rules.specs.Kinds.{code, fewest, most}
use Rattle.rules.specs.Tree.{zero_time, Tree, node, Forest, [], ◌◂◌, size, sizes, count}
use Rattle.rules.specs.Table.{cleaned}
use Rattle.rules.specs.Cells.{place_of, mark_of, anew_of}

abbrev pub bit : Bool → ℕ
bit true = 1
bit false = 0

-- the word of a node: nodes below it, kind, place, mark, whether it was made fresh, board
unfoldable pub pack : ℕ → ℕ → ℕ → ℕ → Bool → ℕ → ℕ
pack below kind place mark anew seen = below % 256 + kind * 256 + place % 256 * 65536 + mark % 2 * 16777216 + bit anew * 33554432 + seen * 67108864

-- the words of a tree in preorder, before `post`
unfoldable mutual
  pub words : Tree → List ℕ → List ℕ
  words (node k n l c b ts) post = List.◌∷◌ (pack (sizes ts) (code k) (place_of c b) (mark_of c b) (anew_of c b) b) (words_all ts post)

  pub words_all : Forest → List ℕ → List ℕ
  words_all [] post = post
  words_all (t ◂ ts) post = words t (words_all ts post)

-- what stands behind the words of n nodes
unfoldable pub behind : ℕ → ℕ → ℕ → ℕ → Bool → List ℕ
behind n fuel used asked update = replicate (256 - n) 0 ++ List.◌∷◌ fuel (List.◌∷◌ used (List.◌∷◌ asked (List.◌∷◌ (bit update) List.[])))

-- the working array of a walk that has not stopped
unfoldable pub working : Tree → ℕ → ℕ → Bool → List ℕ
working t fuel used update = words t (behind (size t) fuel used 0 update)

-- a place is at most the number of children, and a mark is 0 or 1: a word can hold them
unfoldable mutual
  pub Fits : Tree → Type 0
  Fits (node k n l c b ts) = ((c.place ≤ count ts) × (c.mark < 2)) × FitsAll ts

  pub FitsAll : Forest → Type 0
  FitsAll [] = Unit {0}
  FitsAll (t ◂ ts) = Fits t × FitsAll ts

-- the row of a node with so many children
pub record Row (ns : List ℕ) (limits : List Float) (q : ℕ) (k : Kind) (n : ℕ) (l : Float) (kids : ℕ) : Type 0 where
  pub number : get_or ns q 0 ≡ n
  pub limit : cleaned (get_or limits q zero_time) ≡ l
  pub enough : fewest k ≤ kids
  pub few : kids ≤ most k

-- the tree stands in the table from q on
module _ (ns : List ℕ) (limits : List Float) where
  unfoldable mutual
    pub Holds : ℕ → Tree → Type 0
    Holds q (node k n l c b ts) = Row ns limits q k n l (count ts) × HoldsAll (suc q) ts

    pub HoldsAll : ℕ → Forest → Type 0
    HoldsAll q [] = Unit {0}
    HoldsAll q (t ◂ ts) = Holds q t × HoldsAll (q + size t) ts
