-- A tree that stands in a table, with the cells of a run: its words are those that are loaded, and what is put back is its columns.
use Rattle.std.specs.Prelude.{◌≡◌, Bool, true, false, cond, ◌&&◌, leb, eqb, Float, length, get_or, set, drop, replicate}
use Rattle.std.proofs.Math.Path.{refl, sym, ap}
use Rattle.std.proofs.Common.{subst, ◌∙◌, add-zero, zero-add, suc-add, add-one, arith, leb-true, eqb-true, length-drop, drop-cons, drop-drop}
use Rattle.std.proofs.Math.Bool.{and-eq-true_iff}
use mathlib.Core.List.{List, ◌++◌, append_assoc}
use Prim.Native.Nat.{ℕ, zero, suc, ◌+◌, ◌-◌, ◌≤◌, ◌<◌}
use Rattle.std.proofs.Math.ListN.{length-append}
use Rattle.std.proofs.lemmas.List.{length-replicate, get_or-replicate, replicate-append-replicate, set_at}
use Rattle.std.proofs.Math.Seq.{append_snoc}
use Rattle.rules.specs.declared.behavior.Kind.{Kind}
use Rattle.rules.specs.declared.behavior.Kind.TheVariants.{Wait, WaitForever, Action, Invert, AlwaysSucceed, Timeout}
use Rattle.rules.specs.declared.behavior.Kind.TheVariants.{Select, If, Sequence, MemorylessSequence, MemorylessSelector}
use Rattle.rules.specs.declared.behavior.Kind.TheVariants.{While, WhileAll, WhenAll, WhenAny, After, Race}
use Rattle.rules.specs.Kinds.{code, kind_of, fewest, most, children, timed}
use Rattle.rules.specs.Codes.{code_kind}
use Rattle.rules.specs.Tree.{Cell, fresh_cell, new_cell, Tree, node, Forest, [], ◌◂◌, size, sizes, count}
use Rattle.rules.specs.Table.{zero_bits, count_allowed, limit_allowed, row_allowed}
use Rattle.rules.specs.Cells.{cells, with_cells, with_cells_all, elapsed, last_place, cell_allowed, Found, faulty, none, bad_cell, bad_cells}
use Rattle.rules.specs.Cells as in_cell
use Rattle.tables.specs.At.{Row, At, Ats}
use Rattle.refine.specs.Words.{pack, words, words_all, bit, behind, working, Fits, FitsAll, Holds, HoldsAll}
use Rattle.refine.specs.Words as refined
use Rattle.load.specs.Load.{load_words}

-- ---- kinds and their numbers
last_place_lem : (k : Kind) (n : ℕ) → fewest k ≤ children k n → last_place k n ≤ children k n
last_place_lem Wait n h = omega arith
last_place_lem WaitForever n h = omega arith
last_place_lem Action n h = omega arith
last_place_lem Invert n h = omega arith
last_place_lem AlwaysSucceed n h = omega arith
last_place_lem Timeout n h = omega arith
last_place_lem Select n h = omega arith
last_place_lem If n h = omega arith
last_place_lem Sequence n h = omega arith
last_place_lem MemorylessSequence n h = omega arith
last_place_lem MemorylessSelector n h = omega arith
last_place_lem While n h = omega arith
last_place_lem WhileAll n h = omega arith
last_place_lem WhenAll n h = omega arith
last_place_lem WhenAny n h = omega arith
last_place_lem After n h = omega arith
last_place_lem Race n h = omega arith

record Counted (k : Kind) (n : ℕ) : Type 0 where
  enough : fewest k ≤ children k n
  few : children k n ≤ most k

allowed : (x n : ℕ) (l : Float) → row_allowed x n l ≡ true → (x ≤ 16) × Counted (kind_of x) n
unfolding row_allowed
allowed x n l h =
    let k = kind_of x in
    let a = (and-eq-true_iff (leb x 16) (count_allowed k n)).0 ((and-eq-true_iff (leb x 16 && count_allowed k n) (limit_allowed k l)).0 h).0 in
    let b = (and-eq-true_iff (leb (fewest k) (children k n)) (leb (children k n) (most k))).0 a.1 in
    (leb-true x 16 a.0, record { enough = leb-true (fewest k) (children k n) b.0; few = leb-true (children k n) (most k) b.1 })

-- ---- cells
allowed_cell : (ended mayEnd : Bool) (k : Kind) (n : ℕ) (c : Cell) → cell_allowed ended mayEnd k n c ≡ true → (c.place ≤ last_place k n) × (c.mark < 2)
unfolding cell_allowed
allowed_cell true mayEnd k n c h =
    let a = (and-eq-true_iff (zero_bits c.time && eqb c.place 0) (eqb c.mark 0)).0 h in
    let b = (and-eq-true_iff (zero_bits c.time) (eqb c.place 0)).0 a.0 in
    (omega (arith, eqb-true c.place 0 b.1), omega (arith, eqb-true c.mark 0 a.1))
allowed_cell false mayEnd k n c h = go (eqb c.mark 0) refl h
  where
    go : (b : Bool) → eqb c.mark 0 ≡ b
        → cond b
        (cond (timed k) (elapsed c.time) (zero_bits c.time) && leb c.place (last_place k n))
        (eqb c.mark 1 && mayEnd && zero_bits c.time && eqb c.place 0) ≡ true
        → (c.place ≤ last_place k n) × (c.mark < 2)
    go true e h = (
      leb-true c.place (last_place k n) ((and-eq-true_iff (cond (timed k) (elapsed c.time) (zero_bits c.time)) (leb c.place (last_place k n))).0 h).1,
      omega (arith, eqb-true c.mark 0 e),
    )
    go false e h =
        let x = (and-eq-true_iff (eqb c.mark 1 && mayEnd && zero_bits c.time) (eqb c.place 0)).0 h in
        let y = (and-eq-true_iff (eqb c.mark 1 && mayEnd) (zero_bits c.time)).0 x.0 in
        let z = (and-eq-true_iff (eqb c.mark 1) mayEnd).0 y.0 in
        (omega (arith, eqb-true c.place 0 x.1), omega (arith, eqb-true c.mark 1 z.0))

never : {A : Type 0} (p m : ℕ) → faulty p ≡ none m → A
never p m h = absurd (let z : ◌≡◌ {A = ℕ} 0 1 = cc in omega arith)

allowed_if : (b : Bool) (f : Found) (at m : ℕ) → cond b f (faulty at) ≡ none m → (b ≡ true) × (f ≡ none m)
allowed_if true f at m h = (refl, h)
allowed_if false f at m h = never at m h

-- nothing bad in the first, and then nothing in what is behind it
none_twice : (f : Found) (rest : ℕ → Found) (m : ℕ)
    → elim f [ faulty p ↦ faulty p | none at ↦ rest at ] ≡ none m
    → (at : ℕ) × ((f ≡ none at) × (rest at ≡ none m))
none_twice (faulty p) rest m h = never p m h
none_twice (none at) rest m h = (at, (refl, h))

-- ---- the cells of a run
count_with : (ts : Forest) (cs : List Cell) → count (with_cells_all ts cs).0 ≡ count ts
unfolding with_cells
count_with [] cs = refl
count_with (t ◂ ts) cs = ap (λ (z : ℕ). suc z) (count_with ts (with_cells t cs).1)

mutual
  unfolding with_cells size

  size_with : (t : Tree) (cs : List Cell) → size (with_cells t cs).0 ≡ size t
  size_with (node k n l c b ts) List.[] = refl
  size_with (node k n l c b ts) (List.◌∷◌ c' cs) = ap (λ (z : ℕ). suc z) (sizes_with ts cs)

  sizes_with : (ts : Forest) (cs : List Cell) → sizes (with_cells_all ts cs).0 ≡ sizes ts
  sizes_with [] cs = refl
  sizes_with (t ◂ ts) cs = λ i. size_with t cs i + sizes_with ts (with_cells t cs).1 i

mutual
  unfolding with_cells size

  pub drop_with : (t : Tree) (cs : List Cell) → (with_cells t cs).1 ≡ drop (size t) cs
  drop_with (node k n l c b ts) List.[] = refl
  drop_with (node k n l c b ts) (List.◌∷◌ c' cs) = drops_with ts cs

  drops_with : (ts : Forest) (cs : List Cell) → (with_cells_all ts cs).1 ≡ drop (sizes ts) cs
  drops_with [] cs = refl
  drops_with (t ◂ ts) cs = drops_with ts (with_cells t cs).1 ∙ ap (λ (l : List Cell). drop (sizes ts) l) (drop_with t cs) ∙ drop-drop (sizes ts) (size t) cs

long_cells : (n : ℕ) (xs : List Float) (ps ms : List ℕ) → n ≤ length xs → n ≤ length ps → n ≤ length ms → n ≤ length (cells xs ps ms)
unfolding cells
long_cells zero xs ps ms a b c = omega arith
long_cells (suc n) List.[] ps ms a b c = absurd (omega arith)
long_cells (suc n) (List.◌∷◌ x xs) List.[] ms a b c = absurd (omega arith)
long_cells (suc n) (List.◌∷◌ x xs) (List.◌∷◌ p ps) List.[] a b c = absurd (omega arith)
long_cells (suc n) (List.◌∷◌ x xs) (List.◌∷◌ p ps) (List.◌∷◌ m ms) a b c = omega (arith, long_cells n xs ps ms (omega arith) (omega arith) (omega arith))

-- what the word of a cell is loaded from
record CellAt (c : Cell) (anew : Bool) (ps ms : List ℕ) (q : ℕ) : Type 0 where
  place : in_cell.place_of c 0 ≡ get_or ps q 0
  mark : in_cell.mark_of c 0 ≡ get_or ms q 0
  made : in_cell.anew_of c 0 ≡ anew

pub record Loads (anew : Bool) (ps ms : List ℕ) (run : List Cell) : Type 0 where
  at : (q : ℕ) → q < length run → CellAt (get_or run q new_cell) anew ps ms q

cell_at : (q : ℕ) (xs : List Float) (ps ms : List ℕ) → q < length (cells xs ps ms) → CellAt (get_or (cells xs ps ms) q new_cell) false ps ms q
unfolding cells
cell_at q List.[] ps ms h = absurd (omega arith)
cell_at q (List.◌∷◌ x xs) List.[] ms h = absurd (omega arith)
cell_at q (List.◌∷◌ x xs) (List.◌∷◌ p ps) List.[] h = absurd (omega arith)
cell_at zero (List.◌∷◌ x xs) (List.◌∷◌ p ps) (List.◌∷◌ m ms) h = record { place = refl; mark = refl; made = refl }
cell_at (suc q) (List.◌∷◌ x xs) (List.◌∷◌ p ps) (List.◌∷◌ m ms) h =
    let r = cell_at q xs ps ms (omega arith) in record { place = r.place; mark = r.mark; made = r.made }

-- cells as they are lent, and those of a tree that is made fresh
pub lent_loads : (xs : List Float) (ps ms : List ℕ) → Loads false ps ms (cells xs ps ms)
lent_loads xs ps ms = record { at = λ q h. cell_at q xs ps ms h }

pub fresh_loads : (n : ℕ) → Loads true (replicate n 0) (replicate n 0) (replicate n fresh_cell)
fresh_loads n = record { at = λ q h. there q (omega (arith, h, length-replicate n fresh_cell)) }
  where
    there : (q : ℕ) → q < n → CellAt (get_or (replicate n fresh_cell) q new_cell) true (replicate n 0) (replicate n 0) q
    there q h =
        let zero = sym (get_or-replicate {A = ℕ} n q 0 0 h) in
        rw (get_or-replicate n q fresh_cell new_cell h) (record { place = zero; mark = zero; made = refl })

-- ---- a tree that stands in the table
module _ (kinds ns : List ℕ) (limits : List Float) (ends : List ℕ) where
  mutual
    unfolding size

    at_end : (q : ℕ) (t : Tree) → At kinds ns limits ends q t → get_or ends q 0 ≡ q + size t
    at_end q (node k n l c b ts) v = omega (arith, ats_end (suc q) ts (get_or ends q 0) v.1)

    ats_end : (q : ℕ) (ts : Forest) (stop : ℕ) → Ats kinds ns limits ends q ts stop → stop ≡ q + sizes ts
    ats_end q [] stop v = omega (arith, v)
    ats_end q (t ◂ ts) stop v = omega (arith, at_end q t v.0, ats_end (get_or ends q 0) ts stop v.1)

  mutual
    unfolding with_cells

    at_with : (q : ℕ) (t : Tree) (cs : List Cell) → At kinds ns limits ends q t → At kinds ns limits ends q (with_cells t cs).0
    at_with q (node k n l c b ts) List.[] v = v
    at_with q (node k n l c b ts) (List.◌∷◌ c' cs) v = (rw (count_with ts cs) v.0, ats_with (suc q) ts cs (get_or ends q 0) v.1)

    ats_with : (q : ℕ) (ts : Forest) (cs : List Cell) (stop : ℕ) → Ats kinds ns limits ends q ts stop → Ats kinds ns limits ends q (with_cells_all ts cs).0 stop
    ats_with q [] cs stop v = v
    ats_with q (t ◂ ts) cs stop v = (at_with q t cs v.0, ats_with (get_or ends q 0) ts (with_cells t cs).1 stop v.1)

  module _ (q : ℕ) (k : Kind) (n : ℕ) (l : Float) (many : ℕ) (r : Row kinds ns limits q k n l many) where
    row_code : get_or kinds q 0 ≡ code k
    row_code = sym (code_kind (get_or kinds q 0) (allowed (get_or kinds q 0) n l r.allowed).0) ∙ ap (λ (k : Kind). code k) r.kind

    row_counted : Counted k n
    row_counted = subst (λ (k : Kind). Counted k n) r.kind (allowed (get_or kinds q 0) n l r.allowed).1

    row_held : refined.Row ns limits q k n l many
    row_held = record {
      number = r.number;
      limit = r.limit;
      enough = omega (arith, r.kids, row_counted.enough);
      few = omega (arith, r.kids, row_counted.few);
    }

  mutual
    unfolding Holds

    at_holds : (q : ℕ) (t : Tree) → At kinds ns limits ends q t → Holds ns limits q t
    at_holds q (node k n l c b ts) v = (row_held q k n l (count ts) v.0, ats_hold (suc q) ts (get_or ends q 0) v.1)

    ats_hold : (q : ℕ) (ts : Forest) (stop : ℕ) → Ats kinds ns limits ends q ts stop → HoldsAll ns limits q ts
    ats_hold q [] stop v = tt
    ats_hold q (t ◂ ts) stop v = (at_holds q t v.0, rw (at_end q t v.0) at (ats_hold (get_or ends q 0) ts stop v.1))

  mutual
    unfolding bad_cell Fits

    at_fits : (q : ℕ) (t : Tree) (ended mayEnd : Bool) (at m : ℕ) → At kinds ns limits ends q t → bad_cell ended mayEnd at t ≡ none m → Fits t
    at_fits q (node k n l c b ts) ended mayEnd at m v h =
        let a = allowed_if (cell_allowed ended mayEnd k n c) _ at m h in
        let small = allowed_cell ended mayEnd k n c a.0 in
        let r = v.0 in
        ((omega (arith, small.0, r.kids, last_place_lem k n (row_counted q k n l (count ts) r).enough), small.1), ats_fit (suc q) ts (get_or ends q 0) _ _ (suc at) m v.1 a.1)

    ats_fit : (q : ℕ) (ts : Forest) (stop : ℕ) (ended mayEnd : Bool) (at m : ℕ) → Ats kinds ns limits ends q ts stop → bad_cells ended mayEnd at ts ≡ none m → FitsAll ts
    ats_fit q [] stop ended mayEnd at m v h = tt
    ats_fit q (t ◂ ts) stop ended mayEnd at m v h =
        let s = none_twice (bad_cell ended mayEnd at t) (λ (at : ℕ). bad_cells ended mayEnd at ts) m h in
        (at_fits q t ended mayEnd at s.0 v.0 s.1.0, ats_fit (get_or ends q 0) ts stop ended mayEnd s.0 m v.1 s.1.1)

  pub holds : (t : Tree) (cs : List Cell)
      → At kinds ns limits ends 0 t
      → Holds ns limits 0 (with_cells t cs).0
  holds t cs v = at_holds 0 (with_cells t cs).0 (at_with 0 t cs v)

  pub fits : (t : Tree) (cs : List Cell) (m : ℕ)
      → At kinds ns limits ends 0 t
      → bad_cell false false 0 (with_cells t cs).0 ≡ none m
      → Fits (with_cells t cs).0
  fits t cs m v h = at_fits 0 (with_cells t cs).0 false false 0 m (at_with 0 t cs v) h

-- ---- the words that are loaded
module _ (anew : Bool) (kinds ends places marks : List ℕ) where
  abbrev word_for : ℕ → ℕ
  word_for q = pack (get_or ends q 0 - (q + 1)) (get_or kinds q 0) (get_or places q 0) (get_or marks q 0) anew 0

  abbrev words_from : ℕ → ℕ → List ℕ
  words_from q zero = List.[]
  words_from q (suc n) = List.◌∷◌ (word_for q) (words_from (q + 1) n)

  words_length : (n q : ℕ) → length (words_from q n) ≡ n
  words_length zero q = refl
  words_length (suc n) q = ap (λ (z : ℕ). suc z) (words_length n (q + 1))

  words_add : (n q m : ℕ) → words_from q (n + m) ≡ words_from q n ++ words_from (q + n) m
  words_add zero q m = rw (zero-add m, add-zero q)
  words_add (suc n) q m =
      let e : q + 1 + n ≡ q + suc n = omega arith in
      rw (suc-add n m) (ap (λ (l : List ℕ). List.◌∷◌ (word_for q) l) (words_add n (q + 1) m ∙ ap (λ (z : ℕ). words_from (q + 1) n ++ words_from z m) e))

  load_run : (n q : ℕ) (pre mid post : List ℕ) → length pre ≡ q → length mid ≡ n
      → load_words anew kinds ends places marks q n (pre ++ (mid ++ post)) ≡ pre ++ (words_from q n ++ post)
  unfolding load_words
  load_run zero q pre List.[] post a b = refl
  load_run zero q pre (List.◌∷◌ x mid) post a b = absurd (omega arith)
  load_run (suc n) q pre List.[] post a b = absurd (omega arith)
  load_run (suc n) q pre (List.◌∷◌ x mid) post a b =
      let w = word_for q in
      let one : List ℕ = List.◌∷◌ w List.[] in
      ap (λ (l : List ℕ). load_words anew kinds ends places marks (q + 1) n l) (set_at pre x (mid ++ post) w q a ∙ sym (append_snoc pre w (mid ++ post)))
      ∙ load_run n (q + 1) (pre ++ one) mid post (omega (arith, length-append pre one)) (omega arith)
      ∙ append_snoc pre w (words_from (q + 1) n ++ post)

  module _ (ns : List ℕ) (limits : List Float) (run : List Cell) (loads : Loads anew places marks run) where
    mutual
      unfolding words with_cells size

      words_with : (q : ℕ) (t : Tree) (cs : List Cell) (post : List ℕ)
          → At kinds ns limits ends q t
          → cs ≡ drop q run
          → q + size t ≤ length run
          → words (with_cells t cs).0 post ≡ words_from q (size t) ++ post
      words_with q (node k n l c b ts) List.[] post v e h = absurd (omega (arith, ap length e, length-drop q run))
      words_with q (node k n l c b ts) (List.◌∷◌ c' cs) post v e h =
          let cut : List.◌∷◌ c' cs ≡ List.◌∷◌ (get_or run q new_cell) (drop (suc q) run) = e ∙ drop-cons run q new_cell (omega arith) in
          let first : c' ≡ get_or run q new_cell = cc in
          let rest : cs ≡ drop (suc q) run = cc in
          let there = loads.at q (omega arith) in
          let below : sizes (with_cells_all ts cs).0 ≡ get_or ends q 0 - (q + 1) = omega (arith, sizes_with ts cs, ats_end kinds ns limits ends (suc q) ts (get_or ends q 0) v.1) in
          let kind : code k ≡ get_or kinds q 0 = sym (row_code kinds ns limits ends q k n l (count ts) v.0) in
          let place : in_cell.place_of c' 0 ≡ get_or places q 0 = ap (λ (c : Cell). in_cell.place_of c 0) first ∙ there.place in
          let mark : in_cell.mark_of c' 0 ≡ get_or marks q 0 = ap (λ (c : Cell). in_cell.mark_of c 0) first ∙ there.mark in
          let made : in_cell.anew_of c' 0 ≡ anew = ap (λ (c : Cell). in_cell.anew_of c 0) first ∙ there.made in
          let behind : words_all (with_cells_all ts cs).0 post ≡ words_from (q + 1) (sizes ts) ++ post = rw add-one (words_all_with (suc q) ts cs (get_or ends q 0) post v.1 rest (omega arith)) in
          λ i. List.◌∷◌ (pack (below i) (kind i) (place i) (mark i) (made i) 0) (behind i)

      words_all_with : (q : ℕ) (ts : Forest) (cs : List Cell) (stop : ℕ) (post : List ℕ)
          → Ats kinds ns limits ends q ts stop
          → cs ≡ drop q run
          → q + sizes ts ≤ length run
          → words_all (with_cells_all ts cs).0 post ≡ words_from q (sizes ts) ++ post
      words_all_with q [] cs stop post v e h = refl
      words_all_with q (t ◂ ts) cs stop post v e h =
          let end = at_end kinds ns limits ends q t v.0 in
          let dropped = drop_with t cs ∙ ap (λ (l : List Cell). drop (size t) l) e ∙ drop-drop (size t) q run in
          let rest : (with_cells t cs).1 ≡ drop (get_or ends q 0) run = dropped ∙ ap (λ (z : ℕ). drop z run) (sym end) in
          words_with q t cs (words_all (with_cells_all ts (with_cells t cs).1).0 post) v.0 e (omega arith)
          ∙ ap (λ (l : List ℕ). words_from q (size t) ++ l) (words_all_with (get_or ends q 0) ts (with_cells t cs).1 stop post v.1 rest (omega arith))
          ∙ ap (λ (z : ℕ). words_from q (size t) ++ (words_from z (sizes ts) ++ post)) end
          ∙ sym (append_assoc (words_from q (size t)) (words_from (q + size t) (sizes ts)) post)
          ∙ ap (λ (l : List ℕ). l ++ post) (sym (words_add (size t) q (sizes ts)))

-- ---- fuel and event behind the words
settled : (front : List ℕ) (gap f x : ℕ) → length front + gap ≡ 256
    → set (set (front ++ (replicate gap 0 ++ replicate 4 0)) 256 f) 259 x
    ≡ front ++ (replicate gap 0 ++ List.◌∷◌ f (List.◌∷◌ 0 (List.◌∷◌ 0 (List.◌∷◌ x List.[]))))
settled front gap f x h =
    let nodes : List ℕ = front ++ replicate gap 0 in
    let three : List ℕ = List.◌∷◌ f (List.◌∷◌ 0 (List.◌∷◌ 0 List.[])) in
    let long : length nodes ≡ 256 = omega (arith, length-append front (replicate gap 0), length-replicate {A = ℕ} gap 0) in
    ap (λ (l : List ℕ). set (set l 256 f) 259 x) (sym (append_assoc front (replicate gap 0) (replicate 4 0)))
    ∙ ap (λ (l : List ℕ). set l 259 x) (set_at nodes 0 (replicate 3 0) f 256 long ∙ sym (append_assoc nodes three (List.◌∷◌ 0 List.[])))
    ∙ set_at (nodes ++ three) 0 List.[] x 259 (omega (arith, length-append nodes three))
    ∙ append_assoc nodes three (List.◌∷◌ x List.[])
    ∙ append_assoc front (replicate gap 0) (three ++ List.◌∷◌ x List.[])

pub loaded : (anew : Bool) (kinds ns : List ℕ) (limits : List Float) (ends places marks : List ℕ) (run : List Cell) (t : Tree) (fuel : ℕ) (b : Bool)
    → Loads anew places marks run
    → At kinds ns limits ends 0 t
    → size t ≤ 256
    → size t ≤ length run
    → set (set (load_words anew kinds ends places marks 0 (size t) (replicate 260 0)) 256 fuel) 259 (bit b) ≡ working (with_cells t run).0 fuel 0 b
unfolding working behind
loaded anew kinds ns limits ends places marks run t fuel b loads v few long =
    let n = size t in
    let gap = 256 - n in
    let four : List ℕ = replicate 4 0 in
    let full : 260 ≡ n + (gap + 4) = omega arith in
    ap (λ (z : ℕ). set (set (load_words anew kinds ends places marks 0 n (replicate z 0)) 256 fuel) 259 (bit b)) full
    ∙ ap (λ (l : List ℕ). set (set (load_words anew kinds ends places marks 0 n l) 256 fuel) 259 (bit b))
    (sym (replicate-append-replicate n (gap + 4) 0) ∙ ap (λ (l : List ℕ). replicate n 0 ++ l) (sym (replicate-append-replicate gap 4 0)))
    ∙ ap (λ (l : List ℕ). set (set l 256 fuel) 259 (bit b)) (load_run anew kinds ends places marks n 0 List.[] (replicate n 0) (replicate gap 0 ++ four) refl (length-replicate n 0))
    ∙ settled (words_from anew kinds ends places marks 0 n) gap fuel (bit b) (omega (arith, words_length anew kinds ends places marks n 0))
    ∙ ap (λ (z : ℕ). words_from anew kinds ends places marks 0 n ++ behind z fuel 0 0 b) (sym (size_with t run))
    ∙ sym (words_with anew kinds ends places marks ns limits run loads 0 t run (behind (size (with_cells t run).0) fuel 0 0 b) v refl (omega arith))
