-- The words of a tree with what its children show are the words of the tree that is shown. It has the same cells.
use Rattle.std.specs.Prelude.{◌≡◌, Bool, true, false, cond, ltb, eqb, Float, set, length}
use Rattle.std.proofs.Math.Path.{refl}
use Rattle.std.proofs.Common.{sym, ap, ◌∙◌, suc-add, zero-add, add-zero, arith}
use mathlib.Core.List.{List, reverse_aux}
use Prim.Native.Nat.{ℕ, zero, suc, ◌+◌, ◌-◌, ◌≤◌, ◌<◌}
use borrow.Author.Tests.{le-leb, lt-leb, lt-ltb, le-ltb, ne_eqb}
use Rattle.rules.specs.declared.behavior.Kind.{Kind}
use Rattle.rules.specs.declared.behavior.Kind.TheVariants.{Wait, WaitForever, Action, Invert, AlwaysSucceed, Timeout}
use Rattle.rules.specs.declared.behavior.Kind.TheVariants.{Select, If, Sequence, MemorylessSequence, MemorylessSelector}
use Rattle.rules.specs.declared.behavior.Kind.TheVariants.{While, WhileAll, WhenAll, WhenAny, After, Race}
use Rattle.rules.specs.Kinds.{code}
use Rattle.rules.specs.Tree.{Cell, Tree, node, Forest, [], ◌◂◌, size, sizes, count, marked}
use Rattle.rules.specs.Cells.{column, columns}
use Rattle.rules.specs.Cells as in_cell
use Rattle.rules.specs.Board.{shows, shown_as, shown_from, shown}
use Rattle.work.specs.Word.{with_seen}
use Rattle.work.specs.Array.{word_at, end_of}
use Rattle.refine.specs.Words.{pack, behind, working, Fits, FitsAll}
use Rattle.refine.specs.Packed.{below_pack, kind_pack, place_pack, mark_pack, seen_pack, put_seen}
use Rattle.refine.specs.Runs.{run, runs, push, length_push, push_run, get_here, set_here, word_of, end_in}
use Rattle.refine.specs.Stand.{count_sizes}
use Rattle.refine.specs.Start.{words_run}
use Rattle.shown.specs.Show.{ended_at, marked_at, behind_of, each_from, ended_under, ended_below, ended_words}

-- ---- size, number and cells stay
mutual
  unfolding shown_as size

  pub size_shown : (s : ℕ) (t : Tree) → size (shown_as s t) ≡ size t
  size_shown s (node k n l c b ts) = ap (λ (z : ℕ). suc z) (sizes_shown k c.place 0 ts)

  sizes_shown : (k : Kind) (p i : ℕ) (ts : Forest) → sizes (shown_from k p i ts) ≡ sizes ts
  sizes_shown k p i [] = refl
  sizes_shown k p i (t ◂ ts) = λ j. size_shown (shows k p i t) t j + sizes_shown k p (suc i) ts j

count_shown : (k : Kind) (p i : ℕ) (ts : Forest) → count (shown_from k p i ts) ≡ count ts
unfolding shown_as
count_shown k p i [] = refl
count_shown k p i (t ◂ ts) = ap (λ (z : ℕ). suc z) (count_shown k p (suc i) ts)

mutual
  unfolding shown_as Fits

  pub fits_shown : (s : ℕ) (t : Tree) → Fits t → Fits (shown_as s t)
  fits_shown s (node k n l c b ts) v = ((rw (count_shown k c.place 0 ts) v.0.0, v.0.1), fit_shown k c.place 0 ts v.1)

  fit_shown : (k : Kind) (p i : ℕ) (ts : Forest) → FitsAll ts → FitsAll (shown_from k p i ts)
  fit_shown k p i [] v = tt
  fit_shown k p i (t ◂ ts) v = (fits_shown (shows k p i t) t v.0, fit_shown k p (suc i) ts v.1)

-- a field that is no field of the board
module _ {A : Type 0} (field : Cell → ℕ → A) (of-cell : (c : Cell) (b b' : ℕ) → field c b ≡ field c b') where
  mutual
    unfolding shown_as column

    column_shown : (s : ℕ) (t : Tree) (behind : List A) → column field (shown_as s t) behind ≡ column field t behind
    column_shown s (node k n l c b ts) behind = λ j. List.◌∷◌ (of-cell c (cond (eqb b 0) s b) b j) (columns_shown k c.place 0 ts behind j)

    columns_shown : (k : Kind) (p i : ℕ) (ts : Forest) (behind : List A) → columns field (shown_from k p i ts) behind ≡ columns field ts behind
    columns_shown k p i [] behind = refl
    columns_shown k p i (t ◂ ts) behind =
        column_shown (shows k p i t) t (columns field (shown_from k p (suc i) ts) behind) ∙ ap (λ (l : List A). column field t l) (columns_shown k p (suc i) ts behind)

place_kept : (c : Cell) (b b' : ℕ) → in_cell.place_of c b ≡ in_cell.place_of c b'
place_kept c b b' = refl

mark_kept : (c : Cell) (b b' : ℕ) → in_cell.mark_of c b ≡ in_cell.mark_of c b'
mark_kept c b b' = refl

pub places_shown : (t : Tree) (behind : List ℕ) → column in_cell.place_of (shown t) behind ≡ column in_cell.place_of t behind
places_shown t behind = column_shown in_cell.place_of place_kept 0 t behind

pub marks_shown : (t : Tree) (behind : List ℕ) → column in_cell.mark_of (shown t) behind ≡ column in_cell.mark_of t behind
marks_shown t behind = column_shown in_cell.mark_of mark_kept 0 t behind

pub sinces_shown : (t : Tree) (behind : List Bool) → column in_cell.anew_of (shown t) behind ≡ column in_cell.anew_of t behind
sinces_shown t behind = column_shown in_cell.anew_of (λ c b b'. refl) 0 t behind

-- ---- the children alone: each shows what f says of it, if it was not visited
abbrev top : ℕ → Tree → Tree
top s (node k n l c b ts) = node k n l c (cond (eqb b 0) s b) ts

abbrev tops : (ℕ → Tree → ℕ) → ℕ → Forest → Forest
tops f i [] = []
tops f i (t ◂ ts) = top (f i t) t ◂ tops f (suc i) ts

unseen : (b : ℕ) → cond (eqb b 0) 0 b ≡ b
unseen zero = refl
unseen (suc b) = rw (ne_eqb (suc b) 0 (λ z. omega arith))

top_none : (t : Tree) → top 0 t ≡ t
top_none (node k n l c b ts) = ap (λ (z : ℕ). node k n l c z ts) (unseen b)

tops_none : (f : ℕ → Tree → ℕ) (i : ℕ) (ts : Forest) → ((j : ℕ) (t : Tree) → i ≤ j → f j t ≡ 0) → tops f i ts ≡ ts
tops_none f i [] h = refl
tops_none f i (t ◂ ts) h = rw (h i t (omega arith)) λ j. top_none t j ◂ tops_none f (suc i) ts (λ o u g. h o u (omega arith)) j

-- so many children from the first on, of which each shows what f says of it, if it was not visited
abbrev firsts : (Tree → ℕ) → ℕ → Forest → Forest
firsts f zero ts = ts
firsts f (suc k) [] = []
firsts f (suc k) (t ◂ ts) = top (f t) t ◂ firsts f k ts

-- what is done at a child puts there what f says of it
abbrev Puts : (Tree → ℕ) → (ℕ → ℕ → List ℕ → List ℕ) → Type 0
Puts f at = (t : Tree) (pre post : List ℕ) (q : ℕ) → length pre ≡ q → Fits t → at q (word_of t) (reverse_aux pre (run word_of t post)) ≡ reverse_aux pre (run word_of (top (f t) t) post)

module _ (s : ℕ) (small : s < 4) where
  ended_puts : Puts (λ t. s) (ended_at s)
  unfolding run Fits
  ended_puts (node k n l c b ts) pre post q h v = rw (seen_pack (sizes ts) k c.place c.mark c.anew b) (go b)
    where
      word : ℕ → ℕ
      word b = pack (sizes ts) (code k) c.place c.mark c.anew b

      go : (b : ℕ) → cond (eqb b 0) (set (reverse_aux pre (List.◌∷◌ (word b) (runs word_of ts post))) q (with_seen (word b) s)) (reverse_aux pre (List.◌∷◌ (word b) (runs word_of ts post)))
          ≡ reverse_aux pre (List.◌∷◌ (word (cond (eqb b 0) s b)) (runs word_of ts post))
      go zero = rw (set_here pre (word 0) (runs word_of ts post) q h (with_seen (word 0) s), put_seen (sizes ts) k c.place c.mark c.anew 0 s small)
      go (suc b) = rw (ne_eqb (suc b) 0 (λ z. omega arith))

  marked_puts : Puts (λ t. cond (marked t) s 0) (marked_at s)
  unfolding Fits
  marked_puts (node k n l c b ts) pre post q h v = rw (mark_pack (sizes ts) k c.place c.mark c.anew b v.0.1) (go (eqb c.mark 1))
    where
      t : Tree
      t = node k n l c b ts

      go : (c : Bool) → cond c (ended_at s q (word_of t) (reverse_aux pre (run word_of t post))) (reverse_aux pre (run word_of t post)) ≡ reverse_aux pre (run word_of (top (cond c s 0) t) post)
      go true = ended_puts t pre post q h v
      go false = ap (λ (z : Tree). reverse_aux pre (run word_of z post)) (sym (top_none t))

behind_child : (t t' : Tree) (pre post : List ℕ) (q : ℕ) → size t' ≡ size t → length pre ≡ q → q + size t ≤ 256
    → behind_of (word_of t) q (reverse_aux pre (run word_of t' post)) ≡ q + size t
unfolding size
behind_child (node k n l c b ts) t' pre post q same h room = rw (below_pack (sizes ts) k c.place c.mark c.anew b (omega arith), end_in pre post q h t' (omega arith), same) (go (sizes ts))
  where
    go : (z : ℕ) → cond (eqb z 0) (q + 1) (q + suc z) ≡ q + suc z
    go zero = refl
    go (suc z) = rw (ne_eqb (suc z) 0 (λ e. omega arith))

word_at_lem : (t : Tree) (pre post : List ℕ) (q : ℕ) → length pre ≡ q → word_at (reverse_aux pre (run word_of t post)) q ≡ word_of t
unfolding run
word_at_lem (node k n l c b ts) pre post q h = get_here pre (word_of (node k n l c b ts)) (runs word_of ts post) q h 0

size_top : (s : ℕ) (t : Tree) → size (top s t) ≡ size t
unfolding size
size_top s (node k n l c b ts) = refl

size_some : (t : Tree) → 0 < size t
unfolding size
size_some (node k n l c b ts) = omega arith

module _ (f : Tree → ℕ) (at : ℕ → ℕ → List ℕ → List ℕ) (puts : Puts f at) where
  each_firsts : (many : ℕ) (ts : Forest) (pre post : List ℕ) (q stop : ℕ)
      → length pre ≡ q
      → stop ≡ q + sizes ts
      → stop ≤ 256
      → FitsAll ts
      → each_from at stop many q (reverse_aux pre (runs word_of ts post)) ≡ reverse_aux pre (runs word_of (firsts f many ts) post)
  unfolding each_from run size Fits
  each_firsts zero ts pre post q stop h e j v = refl
  each_firsts (suc many) [] pre post q stop h e j v = rw (le-leb stop q (omega arith))
  each_firsts (suc many) (t ◂ ts) pre post q stop h e j v =
      let t' = top (f t) t in
      rw (
        lt-leb stop q (omega (arith, size_some t)),
        word_at_lem t pre (runs word_of ts post) q h,
        puts t pre (runs word_of ts post) q h v.0,
        behind_child t t' pre (runs word_of ts post) q (size_top (f t) t) h (omega arith),
        ← push_run word_of t' pre (runs word_of ts post),
        ← push_run word_of t' pre (runs word_of (firsts f many ts) post),
      )
      (each_firsts many ts (push word_of t' pre) post (q + size t) stop (omega (arith, length_push word_of t' pre, size_top (f t) t)) (omega arith) j v.1)

-- ---- which children these are, by the kind of the node
every : (f : Tree → ℕ) (many i : ℕ) (ts : Forest) → count ts ≤ many → firsts f many ts ≡ tops (λ i t. f t) i ts
every f zero i [] h = refl
every f zero i (t ◂ ts) h = absurd (omega arith)
every f (suc many) i [] h = refl
every f (suc many) i (t ◂ ts) h = ap (λ (us : Forest). top (f t) t ◂ us) (every f many (suc i) ts (omega arith))

before_place : (s p : ℕ) (ts : Forest) → firsts (λ t. s) p ts ≡ tops (λ i t. cond (ltb i p) s 0) 0 ts
before_place s p ts = go p 0 ts (omega arith)
  where
    go : (many i : ℕ) (ts : Forest) → p - i ≡ many → firsts (λ t. s) many ts ≡ tops (λ i t. cond (ltb i p) s 0) i ts
    go zero i ts e = sym (tops_none (λ i t. cond (ltb i p) s 0) i ts (λ j t g. rw (le-ltb j p (omega arith))))
    go (suc many) i [] e = refl
    go (suc many) i (t ◂ ts) e = rw (lt-ltb i p (omega arith)) (ap (λ (us : Forest). top s t ◂ us) (go many (suc i) ts (omega arith)))

module _ (n : ℕ) (l : Float) (c : Cell) (b : ℕ) (ts : Forest) (pre post : List ℕ) (q : ℕ)
    (h : length pre ≡ q) (fit : (c.place ≤ count ts) × (c.mark < 2)) (v : FitsAll ts) (room : q + suc (sizes ts) ≤ 256) where
  abbrev array : Kind → Forest → List ℕ
  array k us = reverse_aux (List.◌∷◌ (pack (sizes ts) (code k) c.place c.mark c.anew b) pre) (runs word_of us post)

  children : (k : Kind) (f : Tree → ℕ) (at : ℕ → ℕ → List ℕ → List ℕ) → Puts f at → (many : ℕ) (us : Forest) → firsts f many ts ≡ us
      → each_from at (end_of (array k ts) q) many (q + 1) (array k ts) ≡ array k us
  unfolding run size
  children k f at puts many us e = rw (end_in pre post q h (node k n l c b ts) room, ← e)
      (each_firsts f at puts many ts (List.◌∷◌ (pack (sizes ts) (code k) c.place c.mark c.anew b) pre) post (q + 1) (q + suc (sizes ts)) (omega arith) (omega arith) room v)

  marked_below : (k : Kind) (s : ℕ) → s < 4 → each_from (marked_at s) (end_of (array k ts) q) 256 (q + 1) (array k ts) ≡ array k (tops (λ i t. cond (marked t) s 0) 0 ts)
  marked_below k s small = children k (λ t. cond (marked t) s 0) (marked_at s) (marked_puts s small) 256 _ (every (λ t. cond (marked t) s 0) 256 0 ts (omega (arith, count_sizes ts)))

  before_below : (k : Kind) (s : ℕ) → s < 4 → each_from (ended_at s) (end_of (array k ts) q) c.place (q + 1) (array k ts) ≡ array k (tops (λ i t. cond (ltb i c.place) s 0) 0 ts)
  before_below k s small = children k (λ t. s) (ended_at s) (ended_puts s small) c.place _ (before_place s c.place ts)

  none_below : (k : Kind) → array k ts ≡ array k (tops (λ i t. 0) 0 ts)
  none_below k = ap (λ (us : Forest). array k us) (sym (tops_none (λ i t. 0) 0 ts (λ j t g. refl)))

  under : (k : Kind) → ended_under k c.place q (array k ts) ≡ array k (tops (shows k c.place) 0 ts)
  unfolding ended_under
  under WhenAll = marked_below WhenAll 2 (omega arith)
  under WhenAny = marked_below WhenAny 3 (omega arith)
  under Sequence = before_below Sequence 2 (omega arith)
  under After = before_below After 2 (omega arith)
  under Select = before_below Select 3 (omega arith)
  under Wait = none_below Wait
  under WaitForever = none_below WaitForever
  under Action = none_below Action
  under Invert = none_below Invert
  under AlwaysSucceed = none_below AlwaysSucceed
  under Timeout = none_below Timeout
  under If = none_below If
  under MemorylessSequence = none_below MemorylessSequence
  under MemorylessSelector = none_below MemorylessSelector
  under While = none_below While
  under WhileAll = none_below WhileAll
  under Race = none_below Race

  -- a leaf has no children
  none_at_all : (us : Forest) (f : ℕ → Tree → ℕ) → sizes us ≡ 0 → us ≡ tops f 0 us
  unfolding size
  none_at_all [] f e = refl
  none_at_all (t ◂ us) f e = absurd (let z = size_some t in omega arith)

  by_kind : (k : Kind) (z : ℕ) → sizes ts ≡ z → cond (eqb z 0) (array k ts) (ended_under k c.place q (array k ts)) ≡ array k (tops (shows k c.place) 0 ts)
  by_kind k zero e = ap (λ (us : Forest). array k us) (none_at_all ts (shows k c.place) e)
  by_kind k (suc z) e = rw (ne_eqb (suc z) 0 (λ o. omega arith)) (under k)

  pub node_ended : (k : Kind) → ended_below q (array k ts) ≡ array k (tops (shows k c.place) 0 ts)
  node_ended k = rw (
    get_here pre (pack (sizes ts) (code k) c.place c.mark c.anew b) (runs word_of ts post) q h 0,
    kind_pack (sizes ts) k c.place c.mark c.anew b,
    place_pack (sizes ts) k c.place c.mark c.anew b (omega (arith, count_sizes ts, fit.0)),
    below_pack (sizes ts) k c.place c.mark c.anew b (omega arith),
  )
      (by_kind k (sizes ts) refl)

-- ---- one node after the other
ended_add : (a b p : ℕ) (ws : List ℕ) → ended_words p (a + b) ws ≡ ended_words (p + a) b (ended_words p a ws)
unfolding ended_words
ended_add zero b p ws = rw (zero-add b, add-zero p)
ended_add (suc a) b p ws = let z : p + suc a ≡ p + 1 + a = omega arith in rw (suc-add a b, z) (ended_add a b (p + 1) (ended_below p ws))

mutual
  unfolding ended_words shown_as run size Fits

  tree_ended : (s : ℕ) (t : Tree) (pre post : List ℕ) (q : ℕ) → length pre ≡ q → Fits t → q + size t ≤ 256
      → ended_words q (size t) (reverse_aux pre (run word_of (top s t) post)) ≡ reverse_aux pre (run word_of (shown_as s t) post)
  tree_ended s (node k n l c b ts) pre post q h v room =
      let b' = cond (eqb b 0) s b in
      ap (λ (ws : List ℕ). ended_words (q + 1) (sizes ts) ws) (node_ended n l c b' ts pre post q h v.0 v.1 room k)
      ∙ forest_ended k c.place 0 ts (List.◌∷◌ (pack (sizes ts) (code k) c.place c.mark c.anew b') pre) post (q + 1) (omega arith) v.1 (omega arith)
      ∙ ap (λ (z : ℕ). reverse_aux pre (List.◌∷◌ (pack z (code k) c.place c.mark c.anew b') (runs word_of (shown_from k c.place 0 ts) post))) (sym (sizes_shown k c.place 0 ts))

  forest_ended : (k : Kind) (p i : ℕ) (ts : Forest) (pre post : List ℕ) (q : ℕ) → length pre ≡ q → FitsAll ts → q + sizes ts ≤ 256
      → ended_words q (sizes ts) (reverse_aux pre (runs word_of (tops (shows k p) i ts) post)) ≡ reverse_aux pre (runs word_of (shown_from k p i ts) post)
  forest_ended k p i [] pre post q h v room = refl
  forest_ended k p i (t ◂ ts) pre post q h v room =
      let s = shows k p i t in
      rw (
        ended_add (size t) (sizes ts) q (reverse_aux pre (run word_of (top s t) (runs word_of (tops (shows k p) (suc i) ts) post))),
        tree_ended s t pre (runs word_of (tops (shows k p) (suc i) ts) post) q h v.0 (omega arith),
        ← push_run word_of (shown_as s t) pre (runs word_of (tops (shows k p) (suc i) ts) post),
        ← push_run word_of (shown_as s t) pre (runs word_of (shown_from k p (suc i) ts) post),
      )
      (forest_ended k p (suc i) ts (push word_of (shown_as s t) pre) post (q + size t) (omega (arith, length_push word_of (shown_as s t) pre, size_shown s t)) v.1 (omega arith))

pub shown_words : (t : Tree) (f u : ℕ) (b : Bool) → Fits t → size t ≤ 256 → ended_words 0 (size t) (working t f u b) ≡ working (shown t) f u b
unfolding working
shown_words t f u b v room =
    let post = behind (size t) f u 0 b in
    ap (λ (l : List ℕ). ended_words 0 (size t) l) (sym (words_run t post) ∙ ap (λ (z : Tree). run word_of z post) (sym (top_none t)))
    ∙ tree_ended 0 t List.[] post 0 refl v (omega arith)
    ∙ words_run (shown t) post
    ∙ rw (size_shown 0 t)
