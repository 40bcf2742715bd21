-- What children that were not visited show, put into the words behind a walk.
use Rattle.std.specs.Prelude.{◌≡◌, cond, List, ℕ, zero, suc, ◌+◌, ◌<◌, leb, eqb, set}
use Rattle.rules.specs.declared.behavior.Kind.{Kind}
use Rattle.rules.specs.declared.behavior.Kind.TheVariants.{Wait, WaitForever, Action, Invert, AlwaysSucceed, Timeout}
use Rattle.rules.specs.declared.behavior.Kind.TheVariants.{Select, If, Sequence, MemorylessSequence, MemorylessSelector}
use Rattle.rules.specs.declared.behavior.Kind.TheVariants.{While, WhileAll, WhenAll, WhenAny, After, Race}
use Rattle.work.specs.Word.{below_of, kind_in, place_of, mark_of, seen_of, with_seen}
use Rattle.work.specs.Array.{word_at, end_of}

-- the child at q, whose word is w, shows s if no visit has seen it; and only if it has a mark
abbrev pub ended_at : ℕ → ℕ → ℕ → List ℕ → List ℕ
ended_at s q w ws = cond (eqb (seen_of w) 0) (set ws q (with_seen w s)) ws

abbrev pub marked_at : ℕ → ℕ → ℕ → List ℕ → List ℕ
marked_at s q w ws = cond (eqb (mark_of w) 1) (ended_at s q w ws) ws

-- the child behind the one at q, whose word was w
abbrev pub behind_of : ℕ → ℕ → List ℕ → ℕ
behind_of w q ws = cond (eqb (below_of w) 0) (q + 1) (end_of ws q)

-- k children from q on, at most up to `stop`
unfoldable pub each_from : (ℕ → ℕ → List ℕ → List ℕ) → ℕ → ℕ → ℕ → List ℕ → List ℕ
each_from at stop zero q ws = ws
each_from at stop (suc k) q ws = cond (leb stop q)
    ws
    (let w = word_at ws q in
    let ws' = at q w ws in
    each_from at stop k (behind_of w q ws') ws')

-- the word of a child that shows s if no visit has seen it; and only if it has a mark
abbrev pub ended_word : ℕ → ℕ → ℕ
ended_word s w = cond (eqb (seen_of w) 0) (with_seen w s) w

abbrev pub marked_word : ℕ → ℕ → ℕ
marked_word s w = cond (eqb (mark_of w) 1) (ended_word s w) w

-- what stands for each word by the relation is what f gives of it
abbrev pub Puts : (ℕ → ℕ → Type 0) → (ℕ → ℕ) → Type 0
Puts R f = (w v : ℕ) → R w v → v ≡ f w

-- the word of the child at q is put through f
abbrev pub put_at : (ℕ → ℕ) → ℕ → ℕ → List ℕ → List ℕ
put_at f q w ws = set ws q (f w)

-- k words from q on, each put through f
unfoldable pub over_words : (ℕ → ℕ) → ℕ → ℕ → List ℕ → List ℕ
over_words f q zero ws = ws
over_words f q (suc k) ws = let ws' = over_words f q k ws in set ws' (q + k) (f (word_at ws' (q + k)))

-- k nodes from q on that have none below them
abbrev pub Leaves : ℕ → ℕ → List ℕ → Type 0
Leaves q k ws = (i : ℕ) → i < k → below_of (word_at ws (q + i)) ≡ 0

-- the children of the node at p, of that kind and at that place
unfoldable pub ended_under : Kind → ℕ → ℕ → List ℕ → List ℕ
unfolding each_from
ended_under WhenAll i p ws = each_from (marked_at 2) (end_of ws p) 256 (p + 1) ws
ended_under WhenAny i p ws = each_from (marked_at 3) (end_of ws p) 256 (p + 1) ws
ended_under Sequence i p ws = each_from (ended_at 2) (end_of ws p) i (p + 1) ws
ended_under After i p ws = each_from (ended_at 2) (end_of ws p) i (p + 1) ws
ended_under Select i p ws = each_from (ended_at 3) (end_of ws p) i (p + 1) ws
ended_under Wait i p ws = ws
ended_under WaitForever i p ws = ws
ended_under Action i p ws = ws
ended_under Invert i p ws = ws
ended_under AlwaysSucceed i p ws = ws
ended_under Timeout i p ws = ws
ended_under If i p ws = ws
ended_under MemorylessSequence i p ws = ws
ended_under MemorylessSelector i p ws = ws
ended_under While i p ws = ws
ended_under WhileAll i p ws = ws
ended_under Race i p ws = ws

abbrev pub ended_below : ℕ → List ℕ → List ℕ
ended_below p ws = let w = word_at ws p in cond (eqb (below_of w) 0) ws (ended_under (kind_in w) (place_of w) p ws)

-- n nodes from p on
unfoldable pub ended_words : ℕ → ℕ → List ℕ → List ℕ
ended_words p zero ws = ws
ended_words p (suc n) ws = ended_words (p + 1) n (ended_below p ws)

-- a word without place and mark, of a node that has all below it among 256 nodes, with so many ahead of it
pub record Bare (w ahead : ℕ) : Type 0 where
  pub place : place_of w ≡ 0
  pub mark : mark_of w ≡ 0
  pub below : below_of w + ahead < 256
