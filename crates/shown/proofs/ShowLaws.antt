-- The child behind one; one child more, or none; leaves at once; the children of a kind; one node more, or none; nodes that show nothing.
use mathlib.Core.Path.{◌≡◌, refl, sym, ap, ◌∙◌}
use mathlib.Core.Bool.{Bool, true, false, cond}
use mathlib.Core.List.{List}
use Prim.Native.Nat.{ℕ, zero, suc, ◌+◌, ◌-◌, ◌≤◌, ◌<◌}
use native.Mathlib.Decide.{dec_lt}
use native.Mathlib.Omega.{arith}
use native.Mathlib.Nat.{add-zero, sub-zero}
use native.Mathlib.Numerals.{add-one, sub-one}
use borrow.Author.Tests.{le-leb, lt-leb, lt-ltb, le-ltb, eq-eqb, ne_eqb}
use lib.Dec.{eqb, leb}
use lib.ListN.{set}
use lib.Seq.{get_or-set_other, set-get_or}
use types.Run.{OneOf}
use denote.Enum.Declared.{tag_of}
use Rattle.rules.specs.declared.behavior.Kind.{Kind}
use Rattle.rules.specs.declared.behavior.Kind.TheVariants.{Wait, WaitForever, Action, Invert, AlwaysSucceed, Timeout}
use Rattle.rules.specs.declared.behavior.Kind.TheVariants.{Select, If, Sequence, MemorylessSequence, MemorylessSelector}
use Rattle.rules.specs.declared.behavior.Kind.TheVariants.{While, WhileAll, WhenAll, WhenAny, After, Race}
use Rattle.rules.specs.contracts.behavior.Kind.{the_type}
use Rattle.rules.proofs.Arms.{Each, gives}
use Rattle.work.specs.Word.{below_of, kind_in, place_of, mark_of, seen_of, with_seen}
use Rattle.work.specs.Array.{word_at, end_of}
use Rattle.shown.specs.Show.{ended_at, marked_at, behind_of, each_from, ended_word, marked_word, put_at, over_words, Leaves, ended_under, ended_below, ended_words, Bare}

module _ (b w q : ℕ) (ws : List ℕ) (e : b ≡ below_of w) where
  pub behind_none : b ≤ 0 → q + 1 ≡ behind_of w q ws
  behind_none h = rw (eq-eqb (below_of w) 0 (omega arith))

module _ (at : ℕ → ℕ → List ℕ → List ℕ) (stop : ℕ) where
  pub each_over : (k q : ℕ) (ws : List ℕ) → stop ≤ q → each_from at stop k q ws ≡ ws
  unfolding each_from
  each_over zero q ws h = refl
  each_over (suc k) q ws h = rw (le-leb stop q h)

  pub each_none : (k q : ℕ) (ws : List ℕ) → k ≡ 0 → each_from at stop k q ws ≡ ws
  unfolding each_from
  each_none k q ws e = rw e

  module _ (q : ℕ) (ws ws' : List ℕ) (next : ℕ) (h : q < stop) (put : ws' ≡ at q (word_at ws q) ws) (goes : next ≡ behind_of (word_at ws q) q ws') where
    pub each_less : (k : ℕ) → 0 < k → each_from at stop (k - 1) next ws' ≡ each_from at stop k q ws
    unfolding each_from
    each_less zero l = absurd (omega arith)
    each_less (suc k) l = rw (sub-one (suc k), lt-leb stop q h, ← put, ← goes)

-- ---- leaves at once: the word of each is put through f, and it ends where the next begins

-- a word that stays the same leaves the words as they are
kept : (b : Bool) (q v : ℕ) (ws : List ℕ) → set ws q (cond b v (word_at ws q)) ≡ cond b (set ws q v) ws
kept true q v ws = refl
kept false q v ws = set-get_or ws q 0

-- what is done at a child is to put its word through f
abbrev Sets : (ℕ → ℕ) → (ℕ → ℕ → List ℕ → List ℕ) → Type 0
Sets f at = (q : ℕ) (ws : List ℕ) → set ws q (f (word_at ws q)) ≡ at q (word_at ws q) ws

pub ended_sets : (s : ℕ) → Sets (ended_word s) (ended_at s)
ended_sets s q ws = let w = word_at ws q in kept (eqb (seen_of w) 0) q (with_seen w s) ws

pub marked_sets : (s : ℕ) → Sets (marked_word s) (marked_at s)
marked_sets s q ws =
    let w = word_at ws q in
    let marked = eqb (mark_of w) 1 in
    kept marked q (ended_word s w) ws ∙ ap (λ (l : List ℕ). cond marked l ws) (ended_sets s q ws)

module _ (f : ℕ → ℕ) (q : ℕ) (ws : List ℕ) where
  pub over_more : (k v : ℕ) (ws' : List ℕ) → ws' ≡ over_words f q k ws → v ≡ f (word_at ws' (q + k)) → set ws' (q + k) v ≡ over_words f q (k + 1) ws
  unfolding over_words
  over_more k v ws' e g = rw (add-one k, g, e)

  -- words ahead are as they were
  later : (k i : ℕ) → k ≤ i → word_at (over_words f q k ws) (q + i) ≡ word_at ws (q + i)
  unfolding over_words
  later zero i h = refl
  later (suc k) i h =
      let ws' = over_words f q k ws in
      get_or-set_other ws' (q + k) (q + i) (f (word_at ws' (q + k))) 0 (λ e. omega arith) ∙ later k i (omega arith)

  pub each_leaves : (stop k n : ℕ) (ws' : List ℕ)
      → ws' ≡ over_words f q k ws
      → k ≤ n
      → q + k ≤ stop
      → Leaves q k ws
      → each_from (put_at f) stop (n - k) (q + k) ws' ≡ each_from (put_at f) stop n q ws
  unfolding over_words
  each_leaves stop zero n ws' put h l e = rw (sub-zero n, add-zero q, put)
  each_leaves stop (suc k) n ws' put h l e =
      let ahead = over_words f q k ws in
      let one : n - suc k ≡ n - k - 1 = omega arith in
      let next : q + suc k ≡ q + k + 1 = omega arith in
      let leaf = ap below_of (later k k (omega arith)) ∙ e k (omega arith) in
      rw (put, one, next) (each_less (put_at f) stop (q + k) ahead _ _ (omega arith) refl (behind_none _ _ _ _ (sym leaf) (omega arith)) (n - k) (omega arith)
      ∙ each_leaves stop k n ahead refl (omega arith) (omega arith) (λ i g. e i (omega arith)))

-- each child's word is put through f, or the same is done there
pub each_put : (f : ℕ → ℕ) (at : ℕ → ℕ → List ℕ → List ℕ) → Sets f at → (stop k q : ℕ) (ws : List ℕ) → each_from (put_at f) stop k q ws ≡ each_from at stop k q ws
unfolding each_from
each_put f at sets stop zero q ws = refl
each_put f at sets stop (suc k) q ws = rw (sets q ws) (ap (cond (leb stop q) ws) (each_put f at sets stop k _ _))

-- an arm of a `match` on the kind
pub under_arm : (ns : List ℕ) {k k' : Kind} (i p : ℕ) (ws : List ℕ) {v : List ℕ} → OneOf ns (tag_of the_type k) → k ≡ k' → Each (λ k. v ≡ ended_under k i p ws) ns → v ≡ ended_under k' i p ws
under_arm ns {k} {k'} i p ws h e each = gives (λ k. ended_under k i p ws) ns k h each ∙ ap (λ k. ended_under k i p ws) e

pub words_one : (p n m : ℕ) (ws ws' : List ℕ) → n ≡ suc m → ws' ≡ ended_below p ws → ended_words (p + 1) m ws' ≡ ended_words p n ws
unfolding ended_words
words_one p n m ws ws' e f = rw (e, f)

pub words_none : (p n : ℕ) (ws : List ℕ) → n ≡ 0 → ended_words p n ws ≡ ws
unfolding ended_words
words_none p n ws e = rw e

-- ---- no node has a place or a mark, and each ends before n: nothing is shown
module _ (n : ℕ) (ws : List ℕ) (few : n ≤ 256) (bare : (q : ℕ) → q < n → Bare (word_at ws q) (256 - n + q)) where
  end_within : (p : ℕ) → p < n → end_of ws p ≤ n
  unfolding end_of
  end_within p h =
      let e = p + 1 + below_of (word_at ws p) in
      elim (dec_lt e 256) [
        | yes l ↦ rw (lt-ltb e 256 l) (omega (arith, (bare p h).below))
        | no l ↦ rw (le-ltb e 256 (omega arith)) (omega (arith, (bare p h).below))
      ]

  no_mark : (s stop k q : ℕ) → stop ≤ n → each_from (marked_at s) stop k q ws ≡ ws
  unfolding each_from
  no_mark s stop zero q h = refl
  no_mark s stop (suc k) q h = elim (dec_lt q stop) [
    | yes l ↦ rw (lt-leb stop q l, ne_eqb (mark_of (word_at ws q)) 1 (λ e. omega (arith, (bare q (omega arith)).mark))) (no_mark s stop k _ h)
    | no l ↦ rw (le-leb stop q (omega arith))
  ]

  none_under : (k : Kind) (i p : ℕ) → i ≡ 0 → p < n → ended_under k i p ws ≡ ws
  unfolding ended_under
  none_under WhenAll i p e h = no_mark 2 (end_of ws p) 256 (p + 1) (end_within p h)
  none_under WhenAny i p e h = no_mark 3 (end_of ws p) 256 (p + 1) (end_within p h)
  none_under Sequence i p e h = each_none (ended_at 2) (end_of ws p) i (p + 1) ws e
  none_under After i p e h = each_none (ended_at 2) (end_of ws p) i (p + 1) ws e
  none_under Select i p e h = each_none (ended_at 3) (end_of ws p) i (p + 1) ws e
  none_under Wait i p e h = refl
  none_under WaitForever i p e h = refl
  none_under Action i p e h = refl
  none_under Invert i p e h = refl
  none_under AlwaysSucceed i p e h = refl
  none_under Timeout i p e h = refl
  none_under If i p e h = refl
  none_under MemorylessSequence i p e h = refl
  none_under MemorylessSelector i p e h = refl
  none_under While i p e h = refl
  none_under WhileAll i p e h = refl
  none_under Race i p e h = refl

  none_below : (p : ℕ) → p < n → ended_below p ws ≡ ws
  none_below p h = rw (none_under (kind_in (word_at ws p)) (place_of (word_at ws p)) p (bare p h).place h) (either (eqb (below_of (word_at ws p)) 0))
    where
      either : (b : Bool) → cond b ws ws ≡ ws
      either true = refl
      either false = refl

  pub none_shown : (m p : ℕ) → p + m ≤ n → ended_words p m ws ≡ ws
  unfolding ended_words
  none_shown zero p h = refl
  none_shown (suc m) p h = rw (none_below p (omega arith)) (none_shown m (p + 1) (omega arith))
