-- What is put back from the words of a tree is its columns.
use Rattle.std.specs.Prelude.{◌≡◌, Bool, List, map, ◌++◌, ℕ, ◌+◌, ◌≤◌, ◌<◌, take, drop}
use Rattle.std.proofs.Common.{ap, ◌∙◌, append-nil, add-zero, zero-add, suc-add, add_assoc, arith}
use Rattle.rules.specs.declared.behavior.Kind.{Kind}
use Rattle.rules.specs.Kinds.{code}
use Rattle.rules.specs.Tree.{Cell, Tree, node, Forest, [], ◌◂◌, size, sizes}
use Rattle.rules.specs.Cells.{column, columns, board_of}
use Rattle.rules.specs.Cells as in_cell
use Rattle.rules.specs.Call.{stamped}
use Rattle.work.specs.Word.{seen_of}
use Rattle.work.specs.Word as in_word
use Rattle.refine.specs.Words.{pack, words, words_all, behind, working, Fits, FitsAll}
use Rattle.refine.specs.Packed.{place_pack, mark_pack, anew_pack, seen_pack}
use Rattle.refine.specs.Stand.{count_sizes}
use Rattle.settle.specs.Back.{over, stamped_over}

module _ {A : Type 0} (f : ℕ → A) (g : Cell → ℕ → A)
    (same : (s : ℕ) (k : Kind) (c : Cell) (b : ℕ) → c.place < 256 → c.mark < 2 → f (pack s (code k) c.place c.mark c.anew b) ≡ g c b) where
  mutual
    unfolding words Fits size column

    put_tree : (t : Tree) (n : ℕ) (post : List ℕ) (rest : List A) → Fits t → size t ≤ 256
        → map f (take (size t + n) (words t post)) ++ rest ≡ column g t (map f (take n post) ++ rest)
    put_tree (node k n' l c b ts) n post rest v h =
        let first = same (sizes ts) k c b (omega (arith, count_sizes ts, v.0.0)) v.0.1 in
        let behind = put_trees ts n post rest v.1 (omega arith) in
        rw (suc-add (sizes ts) n) (λ i. List.◌∷◌ (first i) (behind i))

    put_trees : (ts : Forest) (n : ℕ) (post : List ℕ) (rest : List A) → FitsAll ts → sizes ts ≤ 256
        → map f (take (sizes ts + n) (words_all ts post)) ++ rest ≡ columns g ts (map f (take n post) ++ rest)
    put_trees [] n post rest v h = rw (zero-add n)
    put_trees (t ◂ ts) n post rest v h =
        rw (add_assoc (size t) (sizes ts) n)
        (put_tree t (sizes ts + n) (words_all ts post) rest v.0 (omega arith) ∙ ap (λ (l : List A). column g t l) (put_trees ts n post rest v.1 (omega arith)))

  put_over : (t : Tree) (fuel used : ℕ) (b : Bool) (l : List A) → Fits t → size t ≤ 256 → over f (size t) (working t fuel used b) l ≡ column g t (drop (size t) l)
  unfolding working
  put_over t fuel used b l v h = rw (add-zero (size t)) at (put_tree t 0 (behind (size t) fuel used 0 b) (drop (size t) l) v h)

pub put_places : (t : Tree) (f u : ℕ) (b : Bool) (l : List ℕ)
    → Fits t
    → size t ≤ 256
    → over in_word.place_of (size t) (working t f u b) l ≡ column in_cell.place_of t (drop (size t) l)
put_places t f u b l v h = put_over in_word.place_of in_cell.place_of (λ s k c b small one. place_pack s k c.place c.mark c.anew b small) t f u b l v h

pub put_marks : (t : Tree) (f u : ℕ) (b : Bool) (l : List ℕ)
    → Fits t
    → size t ≤ 256
    → over in_word.mark_of (size t) (working t f u b) l ≡ column in_cell.mark_of t (drop (size t) l)
put_marks t f u b l v h = put_over in_word.mark_of in_cell.mark_of (λ s k c b small one. mark_pack s k c.place c.mark c.anew b one) t f u b l v h

pub put_board : (t : Tree) (f u : ℕ) (b : Bool) (l : List ℕ)
    → Fits t
    → size t ≤ 256
    → over seen_of (size t) (working t f u b) l ≡ column board_of t (drop (size t) l)
put_board t f u b l v h = put_over seen_of board_of (λ s k c b small one. seen_pack s k c.place c.mark c.anew b) t f u b l v h

-- the numbers of the cells
pub put_sinces : (this : ℕ) (t : Tree) (f u : ℕ) (b : Bool) (l : List ℕ)
    → Fits t
    → size t ≤ 256
    → stamped_over this (size t) (working t f u b) l ≡ stamped this (column in_cell.anew_of t List.[]) l ++ drop (size t) l
unfolding working
put_sinces this t f u b l v h =
    let all = put_tree in_word.anew_of in_cell.anew_of (λ s k c b small one. anew_pack s k c.place c.mark c.anew b) t 0 (behind (size t) f u 0 b) List.[] v h in
    let made : map in_word.anew_of (take (size t) (words t (behind (size t) f u 0 b))) ≡ column in_cell.anew_of t List.[] = rw (add-zero (size t), append-nil) at all in
    ap (λ (z : List Bool). stamped this z l ++ drop (size t) l) made
