-- The words and the times of trees as lists: what a read and a write at a place give, and what is made fresh.
use Rattle.std.specs.Prelude.{◌≡◌, Bool, ℕ, zero, suc, ◌+◌, ◌≤◌, Float, get_or, set, length}
use Rattle.std.proofs.Math.Path.{refl}
use Rattle.std.proofs.Common.{sym, ap, ◌∙◌, suc-add, add-zero, zero-add, arith, lt-ltb, le-ltb, get_or-append-add}
use Rattle.std.proofs.Math.Bool.{true, false}
use mathlib.Core.List.{List, ◌++◌, reverse, reverse_aux, reverse_aux-eq}
use Rattle.std.proofs.Math.Decide.{dec_lt}
use Rattle.std.proofs.lemmas.List.{length-reverse, get_or_at, set_at}
use Rattle.std.proofs.Math.ListN.{length-reverse_aux}
use Rattle.rules.specs.Kinds.{code}
use Rattle.rules.specs.Tree.{zero_time, Tree, node, Forest, [], ◌◂◌, fresh, fresh_all, size, sizes}
use Rattle.rules.specs.Outcome.{event_of, dt}
use Rattle.rules.specs.Cells.{time_of, place_of, mark_of, anew_of}
use Rattle.work.specs.Word.{fresh_word}
use Rattle.work.specs.Array.{word_at, end_of, fuel_of, used_of, asked_of, updates, passed, fresh_words, fresh_times}
use Rattle.refine.specs.Words.{pack, bit}
use Rattle.refine.specs.Packed.{below_pack, put_fresh}

-- a value of each node in preorder, before `post`
module _ {A : Type 0} (f : Tree → A) where
  unfoldable mutual
    pub run : Tree → List A → List A
    run (node k n l c b ts) post = List.◌∷◌ (f (node k n l c b ts)) (runs ts post)

    pub runs : Forest → List A → List A
    runs [] post = post
    runs (t ◂ ts) post = run t (runs ts post)

  mutual
    unfolding run

    pub run_append : (t : Tree) (post z : List A) → run t (post ++ z) ≡ run t post ++ z
    run_append (node k n l c b ts) post z = ap (λ (r : List A). List.◌∷◌ (f (node k n l c b ts)) r) (runs_append ts post z)

    pub runs_append : (ts : Forest) (post z : List A) → runs ts (post ++ z) ≡ runs ts post ++ z
    runs_append [] post z = refl
    runs_append (t ◂ ts) post z = ap (λ (r : List A). run t r) (runs_append ts post z) ∙ run_append t (runs ts post) z

  mutual
    unfolding run size

    pub length_run : (t : Tree) (post : List A) → length (run t post) ≡ size t + length post
    length_run (node k n l c b ts) post = omega (arith, length_runs ts post)

    pub length_runs : (ts : Forest) (post : List A) → length (runs ts post) ≡ sizes ts + length post
    length_runs [] post = omega arith
    length_runs (t ◂ ts) post = omega (arith, length_run t (runs ts post), length_runs ts post)

  -- the same put behind `pre`, whose nearest is its first
  abbrev pub push : Tree → List A → List A
  push t pre = reverse_aux (run t List.[]) pre

  pub length_push : (t : Tree) (pre : List A) → length (push t pre) ≡ length pre + size t
  length_push t pre = omega (arith, length-reverse_aux (run t List.[]) pre, length_run t List.[])

  pub push_run : (t : Tree) (pre post : List A) → reverse_aux (push t pre) post ≡ reverse_aux pre (run t post)
  push_run t pre post = aux_aux (run t List.[]) pre post ∙ ap (λ (r : List A). reverse_aux pre r) (sym (run_append t List.[] post))
    where
      aux_aux : (l pre post : List A) → reverse_aux (reverse_aux l pre) post ≡ reverse_aux pre (l ++ post)
      aux_aux List.[] pre post = refl
      aux_aux (List.◌∷◌ a l) pre post = aux_aux l (List.◌∷◌ a pre) post

-- ---- at the place behind `pre`
module _ {A : Type 0} (pre : List A) (a : A) (post : List A) (q : ℕ) (h : length pre ≡ q) where
  pub get_here : (d : A) → get_or (reverse_aux pre (List.◌∷◌ a post)) q d ≡ a
  get_here d = rw (reverse_aux-eq pre (List.◌∷◌ a post)) (get_or_at (reverse pre) a post d q (length-reverse pre ∙ h))

  pub set_here : (c : A) → set (reverse_aux pre (List.◌∷◌ a post)) q c ≡ reverse_aux pre (List.◌∷◌ c post)
  set_here c = rw (reverse_aux-eq pre (List.◌∷◌ a post), reverse_aux-eq pre (List.◌∷◌ c post)) (set_at (reverse pre) a post c q (length-reverse pre ∙ h))

-- ---- made fresh from q on, one node after the other
mutual
  unfolding size fresh

  pub size_fresh : (t : Tree) → size (fresh t) ≡ size t
  size_fresh (node k n l c b ts) = ap (λ (z : ℕ). suc z) (sizes_fresh ts)

  pub sizes_fresh : (ts : Forest) → sizes (fresh_all ts) ≡ sizes ts
  sizes_fresh [] = refl
  sizes_fresh (t ◂ ts) = λ i. size_fresh t i + sizes_fresh ts i

module _ {A : Type 0} (f : Tree → A) (d : A) (g : A → A) (clear : ℕ → ℕ → List A → List A)
    (none : (q : ℕ) (l : List A) → clear q 0 l ≡ l)
    (more : (q n : ℕ) (l : List A) → clear q (suc n) l ≡ clear (q + 1) n (set l q (g (get_or l q d))))
    (clean : (t : Tree) → g (f t) ≡ f (fresh t)) where
  clear_add : (a b q : ℕ) (l : List A) → clear q (a + b) l ≡ clear (q + a) b (clear q a l)
  clear_add zero b q l = rw (zero-add b, add-zero q, none q l)
  clear_add (suc a) b q l =
      let z : q + suc a ≡ q + 1 + a = omega arith in
      rw (suc-add a b, more q (a + b) l, more q a l, z) (clear_add a b (q + 1) (set l q (g (get_or l q d))))

  mutual
    unfolding run size fresh

    clear_tree : (t : Tree) (pre post : List A) (q : ℕ) → length pre ≡ q → clear q (size t) (reverse_aux pre (run f t post)) ≡ reverse_aux pre (run f (fresh t) post)
    clear_tree (node k n l c b ts) pre post q h =
        let t = node k n l c b ts in
        rw (
          more q (sizes ts) (reverse_aux pre (List.◌∷◌ (f t) (runs f ts post))),
          get_here pre (f t) (runs f ts post) q h d,
          set_here pre (f t) (runs f ts post) q h (g (f t)),
          clean t,
        )
        (clear_forest ts (List.◌∷◌ (f (fresh t)) pre) post (q + 1) (omega arith))

    clear_forest : (ts : Forest) (pre post : List A) (q : ℕ) → length pre ≡ q → clear q (sizes ts) (reverse_aux pre (runs f ts post)) ≡ reverse_aux pre (runs f (fresh_all ts) post)
    clear_forest [] pre post q h = none q (reverse_aux pre post)
    clear_forest (t ◂ ts) pre post q h = rw (
      clear_add (size t) (sizes ts) q (reverse_aux pre (run f t (runs f ts post))),
      clear_tree t pre (runs f ts post) q h,
      ← push_run f (fresh t) pre (runs f ts post),
      ← push_run f (fresh t) pre (runs f (fresh_all ts) post),
    )
        (clear_forest ts (push f (fresh t) pre) post (q + size t) (omega (arith, length_push f (fresh t) pre, size_fresh t)))

-- ---- words and times
abbrev pub word_of : Tree → ℕ
word_of (node k n l c b ts) = pack (sizes ts) (code k) (place_of c b) (mark_of c b) (anew_of c b) b

abbrev pub time_in : Tree → Float
time_in (node k n l c b ts) = time_of c b

word_clean : (t : Tree) → fresh_word (word_of t) ≡ word_of (fresh t)
unfolding fresh
word_clean (node k n l c b ts) = rw (put_fresh (sizes ts) k (place_of c b) (mark_of c b) (anew_of c b) b, sizes_fresh ts)

time_clean : (t : Tree) → zero_time ≡ time_in (fresh t)
unfolding fresh
time_clean (node k n l c b ts) = refl

-- behind the words of 256 nodes: the fuel left, the answers used, 0 as long as no action asks, and the event
abbrev tail : Bool → ℕ → ℕ → List ℕ
tail b f u = List.◌∷◌ f (List.◌∷◌ u (List.◌∷◌ 0 (List.◌∷◌ (bit b) List.[])))

unfoldable pub array : List ℕ → Bool → ℕ → ℕ → List ℕ
array l b f u = l ++ tail b f u

pub unrolled : (pre : List ℕ) (ts : Forest) (post : List ℕ) (b : Bool) (f u : ℕ) → array (reverse_aux pre (runs word_of ts post)) b f u ≡ reverse_aux pre (runs word_of ts (post ++ tail b f u))
unfolding array
unrolled pre ts post b f u = aux_append pre (runs word_of ts post) (tail b f u) ∙ ap (λ (l : List ℕ). reverse_aux pre l) (sym (runs_append word_of ts post (tail b f u)))
  where
    aux_append : (pre post z : List ℕ) → reverse_aux pre post ++ z ≡ reverse_aux pre (post ++ z)
    aux_append List.[] post z = refl
    aux_append (List.◌∷◌ a pre) post z = aux_append pre (List.◌∷◌ a post) z

-- the node at q: its word, and where it ends
module _ (pre : List ℕ) (post : List ℕ) (q : ℕ) (h : length pre ≡ q) where
  pub end_in : (t : Tree) → q + size t ≤ 256 → end_of (reverse_aux pre (run word_of t post)) q ≡ q + size t
  unfolding end_of size run
  end_in (node k n l c bd ts) j = rw (get_here pre (word_of (node k n l c bd ts)) (runs word_of ts post) q h 0, below_pack (sizes ts) k (place_of c bd) (mark_of c bd) (anew_of c bd) bd (omega arith))
      (elim (dec_lt (q + 1 + sizes ts) 256) [
        | yes i ↦ rw (lt-ltb (q + 1 + sizes ts) 256 i) (omega arith)
        | no i ↦ rw (le-ltb (q + 1 + sizes ts) 256 (omega arith)) (omega arith)
      ])

module _ (pre : List ℕ) (post : List ℕ) (q : ℕ) (h : length pre ≡ q) (b : Bool) (f u : ℕ) where
  pub word_here : (t : Tree) → word_at (array (reverse_aux pre (run word_of t post)) b f u) q ≡ word_of t
  unfolding run
  word_here (node k n l c bd ts) = rw (unrolled pre (node k n l c bd ts ◂ []) post b f u) (get_here pre _ _ q h 0)

  pub end_here : (t : Tree) → q + size t ≤ 256 → end_of (array (reverse_aux pre (run word_of t post)) b f u) q ≡ q + size t
  unfolding run
  end_here t j = rw (unrolled pre (t ◂ []) post b f u) (end_in pre (post ++ tail b f u) q h t j)

module _ (ts : Forest) (q n : ℕ) (e : n ≡ sizes ts) where
  pub words_freshen : (pre post : List ℕ) → length pre ≡ q → (b : Bool) (f u : ℕ)
      → fresh_words q n (array (reverse_aux pre (runs word_of ts post)) b f u) ≡ array (reverse_aux pre (runs word_of (fresh_all ts) post)) b f u
  unfolding fresh_words
  words_freshen pre post h b f u = rw (e, unrolled pre ts post b f u, unrolled pre (fresh_all ts) post b f u)
      (clear_forest word_of 0 fresh_word fresh_words (λ q l. refl) (λ q n l. refl) word_clean ts pre _ q h)

  pub times_freshen : (pre post : List Float) → length pre ≡ q → fresh_times q n (reverse_aux pre (runs time_in ts post)) ≡ reverse_aux pre (runs time_in (fresh_all ts) post)
  unfolding fresh_times
  times_freshen pre post h = rw e (clear_forest time_in zero_time (λ x. zero_time) fresh_times (λ q l. refl) (λ q n l. refl) time_clean ts pre post q h)

-- ---- what stands behind the 256 words
set_append_add : (xs ys : List ℕ) (n a : ℕ) → set (xs ++ ys) (length xs + n) a ≡ xs ++ set ys n a
set_append_add List.[] ys n a = rw zero-add
set_append_add (List.◌∷◌ x xs) ys n a = rw (suc-add (length xs) n, set_append_add xs ys n a)

module _ (l : List ℕ) (h : length l ≡ 256) where
  get_tail : (z : List ℕ) (n m : ℕ) → 256 + n ≡ m → get_or (l ++ z) m 0 ≡ get_or z n 0
  get_tail z n m e = rw (← e, ← h) (get_or-append-add l z n 0)

  set_tail : (z : List ℕ) (n m a : ℕ) → 256 + n ≡ m → set (l ++ z) m a ≡ l ++ set z n a
  set_tail z n m a e = rw (← e, ← h) (set_append_add l z n a)

  module _ (b : Bool) (f u : ℕ) where
    pub fuel_in_lem : fuel_of (array l b f u) ≡ f
    unfolding array
    fuel_in_lem = get_tail (tail b f u) 0 256 refl

    pub used_in : used_of (array l b f u) ≡ u
    unfolding array
    used_in = get_tail (tail b f u) 1 257 refl

    pub asked_in : asked_of (array l b f u) ≡ 0
    unfolding array
    asked_in = get_tail (tail b f u) 2 258 refl

    pub burnt_in : (f' : ℕ) → set (array l b f u) 256 f' ≡ array l b f' u
    unfolding array
    burnt_in f' = set_tail (tail b f u) 0 256 f' refl

    pub answered_in : (u' : ℕ) → set (array l b f u) 257 u' ≡ array l b f u'
    unfolding array
    answered_in u' = set_tail (tail b f u) 1 257 u' refl

    pub asking_in : (p : ℕ) → asked_of (set (array l b f u) 258 p) ≡ p
    unfolding array
    asking_in p = rw (set_tail (tail b f u) 2 258 p refl) (get_tail (List.◌∷◌ f (List.◌∷◌ u (List.◌∷◌ p (List.◌∷◌ (bit b) List.[])))) 2 258 refl)

  pub updates_in : (b : Bool) (f u : ℕ) → updates (array l b f u) ≡ b
  unfolding array
  updates_in true f u = rw (get_tail (tail true f u) 3 259 refl)
  updates_in false f u = rw (get_tail (tail false f u) 3 259 refl)

  pub passed_in : (b : Bool) (f u : ℕ) (x : Float) → passed (array l b f u) x ≡ dt (event_of b x)
  unfolding passed
  passed_in true f u x = rw (updates_in true f u)
  passed_in false f u x = rw (updates_in false f u)
