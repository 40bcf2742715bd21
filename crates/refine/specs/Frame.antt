-- Trees in the array and in the times, in the frame of what stands before and behind them.
use Rattle.std.specs.Prelude.{◌≡◌, Float, get_or, set, length}
use Rattle.std.proofs.Math.Path.{refl, sym, ap}
use Rattle.std.proofs.Common.{◌∙◌, not-suc-le-zero, le_of_suc-le-suc, arith, le-leb}
use mathlib.Core.List.{List, reverse_aux}
use Prim.Native.Nat.{ℕ, zero, suc, ◌+◌, ◌-◌, ◌≤◌, ◌<◌}
use Rattle.std.proofs.lemmas.Bool.{lt-leb}
use Rattle.std.proofs.Math.ListN.{length-reverse_aux}
use Rattle.rules.specs.declared.behavior.Kind.{Kind}
use Rattle.rules.specs.Tree.{zero_time, Cell, with_time, with_place, with_mark, Tree, node, Forest, [], ◌◂◌, fresh_all, mark, sizes, count}
use Rattle.rules.specs.Cells.{place_of, mark_of, anew_of}
use Rattle.work.specs.Word.{kind_in}
use Rattle.work.specs.Array.{word_at, end_of, set_place, set_seen, set_mark, fresh_words, fresh_times, child_from}
use Rattle.refine.specs.Packed.{kind_pack, put_place, put_mark, put_seen}
use Rattle.refine.specs.Runs.{run, runs, length_runs, push, length_push, push_run, get_here, set_here, word_of, time_in, array, unrolled, word_here, end_here, words_freshen, times_freshen}
use Rattle.refine.specs.Stand.{Given, At, Ats, at_size, ats_size, at_room, ats_less, spot}

-- the frame of trees that stand from q to stop, at most d deep; what stands before them has its nearest first
pub record Frame (G : Given) (d : ℕ) : Type 0 where
  pub before : List ℕ
  pub behind : List ℕ
  pub past : List Float
  pub later : List Float
  pub q : ℕ
  pub stop : ℕ
  pub words_before : length before ≡ q
  pub times_before : length past ≡ q
  pub full : stop + length behind ≡ 256

sub_at : (e q n : ℕ) → e ≡ q + n → e - q ≡ n
sub_at e q n h = omega arith

module _ {G : Given} {d : ℕ} where
  abbrev pub nodes_in : Frame G d → Forest → List ℕ
  nodes_in fr ts = reverse_aux fr.before (runs word_of ts fr.behind)

  abbrev pub words_in : Frame G d → Forest → ℕ → ℕ → List ℕ
  words_in fr ts f u = array (nodes_in fr ts) G.update f u

  abbrev pub times_in : Frame G d → Forest → List Float
  times_in fr ts = reverse_aux fr.past (runs time_in ts fr.later)

  -- the tree stands first in the frame; the trees fill it
  abbrev pub First : Frame G d → Tree → Type 0
  First fr t = At G fr.q t d

  abbrev pub All : Frame G d → Forest → Type 0
  All fr ts = Ats G fr.q ts fr.stop d

  pub full_length : (fr : Frame G d) (ts : Forest) → All fr ts → length (nodes_in fr ts) ≡ 256
  full_length fr ts vs = omega (
    arith,
    length-reverse_aux fr.before (runs word_of ts fr.behind),
    length_runs word_of ts fr.behind,
    ats_size G fr.q ts fr.stop d vs,
    fr.words_before,
    fr.full,
  )

  -- ---- the frame of the trees behind t
  pub over_before : {A : Type 0} (g : Tree → A) (fr : Frame G d) (t : Tree) (pre : List A) → length pre ≡ fr.q → First fr t → length (push g t pre) ≡ G.ends fr.q
  over_before g fr t pre h v = omega (arith, length_push g t pre, at_size G fr.q t d v)

  abbrev pub over : (fr : Frame G d) (t : Tree) → First fr t → Frame G d
  over fr t v = record {
    before = push word_of t fr.before;
    behind = fr.behind;
    past = push time_in t fr.past;
    later = fr.later;
    q = G.ends fr.q;
    stop = fr.stop;
    words_before = over_before word_of fr t fr.before fr.words_before v;
    times_before = over_before time_in fr t fr.past fr.times_before v;
    full = fr.full;
  }

  pub over_words_lem : (fr : Frame G d) (t : Tree) (v : First fr t) (ts : Forest) (f u : ℕ) → words_in (over fr t v) ts f u ≡ words_in fr (t ◂ ts) f u
  unfolding run
  over_words_lem fr t v ts f u = ap (λ (l : List ℕ). array l G.update f u) (push_run word_of t fr.before (runs word_of ts fr.behind))

  pub over_times : (fr : Frame G d) (t : Tree) (v : First fr t) (ts : Forest) → times_in (over fr t v) ts ≡ times_in fr (t ◂ ts)
  unfolding run
  over_times fr t v ts = push_run time_in t fr.past (runs time_in ts fr.later)

  -- ---- the node at q: its word and its time
  module _ (fr : Frame G d) (us : Forest) where
    module _ (f u : ℕ) where
      pub word_in : (t : Tree) → word_at (words_in fr (t ◂ us) f u) fr.q ≡ word_of t
      unfolding run
      word_in t = word_here fr.before (runs word_of us fr.behind) fr.q fr.words_before G.update f u t

      pub kind_in_lem : (k : Kind) (n : ℕ) (l : Float) (c : Cell) (bd : ℕ) (ts : Forest) → kind_in (word_at (words_in fr (node k n l c bd ts ◂ us) f u) fr.q) ≡ k
      kind_in_lem k n l c bd ts = rw (word_in (node k n l c bd ts)) (kind_pack (sizes ts) k (place_of c bd) (mark_of c bd) (anew_of c bd) bd)

      word_put : (k : Kind) (n : ℕ) (l : Float) (c c' : Cell) (bd bd' : ℕ) (ts : Forest) (w : ℕ)
          → w ≡ word_of (node k n l c' bd' ts)
          → set (words_in fr (node k n l c bd ts ◂ us) f u) fr.q w ≡ words_in fr (node k n l c' bd' ts ◂ us) f u
      unfolding run
      word_put k n l c c' bd bd' ts w e = rw (
        unrolled fr.before (node k n l c bd ts ◂ us) fr.behind G.update f u,
        unrolled fr.before (node k n l c' bd' ts ◂ us) fr.behind G.update f u,
        e,
      )
          (set_here fr.before _ _ fr.q fr.words_before (word_of (node k n l c' bd' ts)))

      module _ (k : Kind) (n : ℕ) (l : Float) (c : Cell) (bd : ℕ) (ts : Forest) where
        pub place_put : (i : ℕ) → set_place (words_in fr (node k n l c bd ts ◂ us) f u) fr.q i ≡ words_in fr (node k n l (with_place i c) bd ts ◂ us) f u
        place_put i = rw (word_in (node k n l c bd ts)) (word_put k n l c (with_place i c) bd bd ts _ (put_place (sizes ts) k c.place c.mark c.anew bd i))

        pub mark_put : set_mark (words_in fr (node k n l c bd ts ◂ us) f u) fr.q ≡ words_in fr (node k n l (with_mark 1 c) bd ts ◂ us) f u
        mark_put = rw (word_in (node k n l c bd ts)) (word_put k n l c (with_mark 1 c) bd bd ts _ (put_mark (sizes ts) k c.place c.mark c.anew bd))

        pub seen_put : (i : ℕ) → i < 4 → set_seen (words_in fr (node k n l c bd ts ◂ us) f u) fr.q i ≡ words_in fr (node k n l c i ts ◂ us) f u
        seen_put i j = rw (word_in (node k n l c bd ts)) (word_put k n l c c bd i ts _ (put_seen (sizes ts) k c.place c.mark c.anew bd i j))

      pub marked_words : (t : Tree) → set_mark (words_in fr (t ◂ us) f u) fr.q ≡ words_in fr (mark t ◂ us) f u
      marked_words (node k n l c bd ts) = mark_put k n l c bd ts

      pub end_at : (t : Tree) → First fr t → end_of (words_in fr (t ◂ us) f u) fr.q ≡ G.ends fr.q
      unfolding run
      end_at t v =
          let e = at_size G fr.q t d v in
          end_here fr.before (runs word_of us fr.behind) fr.q fr.words_before G.update f u t (omega (arith, at_room G fr.q t d v, G.room)) ∙ sym e

    pub marked_times : (t : Tree) → times_in fr (t ◂ us) ≡ times_in fr (mark t ◂ us)
    unfolding run
    marked_times (node k n l c bd ts) = refl

    module _ (k : Kind) (n : ℕ) (l : Float) (c : Cell) (bd : ℕ) (ts : Forest) where
      pub time_in_lem : get_or (times_in fr (node k n l c bd ts ◂ us)) fr.q zero_time ≡ c.time
      unfolding run
      time_in_lem = get_here fr.past _ _ fr.q fr.times_before zero_time

      pub time_put : (y : Float) → set (times_in fr (node k n l c bd ts ◂ us)) fr.q y ≡ times_in fr (node k n l (with_time y c) bd ts ◂ us)
      unfolding run
      time_put y = set_here fr.past _ _ fr.q fr.times_before y

  pub end_next : (fr : Frame G d) (us : Forest) (f u : ℕ) (t t' : Tree) → All fr (t ◂ t' ◂ us) → end_of (words_in fr (t ◂ t' ◂ us) f u) (G.ends fr.q) ≡ G.ends (G.ends fr.q)
  end_next fr us f u t t' vs = rw (← over_words_lem fr t vs.0 (t' ◂ us) f u) (end_at (over fr t vs.0) us f u t' vs.1.0)

  -- ---- what stands from q to next is made fresh, and us behind it stays
  module _ (fr : Frame G d) (ts us : Forest) (next : ℕ) (vs : Ats G fr.q ts next d) where
    pub fresh_words_lem : (f u : ℕ)
        → fresh_words fr.q (next - fr.q) (array (reverse_aux fr.before (runs word_of ts (runs word_of us fr.behind))) G.update f u)
        ≡ array (reverse_aux fr.before (runs word_of (fresh_all ts) (runs word_of us fr.behind))) G.update f u
    fresh_words_lem f u = words_freshen ts fr.q (next - fr.q) (sub_at next fr.q (sizes ts) (ats_size G fr.q ts next d vs)) fr.before _ fr.words_before G.update f u

    pub fresh_times_lem : fresh_times fr.q (next - fr.q) (reverse_aux fr.past (runs time_in ts (runs time_in us fr.later)))
        ≡ reverse_aux fr.past (runs time_in (fresh_all ts) (runs time_in us fr.later))
    fresh_times_lem = times_freshen ts fr.q (next - fr.q) (sub_at next fr.q (sizes ts) (ats_size G fr.q ts next d vs)) fr.past _ fr.times_before

  -- ---- child i of those that begin at q
  pub child_at_lem : (ts : Forest) (i : ℕ) (fr : Frame G d) (f u : ℕ) → All fr ts → i ≤ count ts → child_from (words_in fr ts f u) fr.stop i fr.q ≡ spot G i fr.q
  unfolding child_from
  child_at_lem ts zero fr f u vs l = refl
  child_at_lem [] (suc i) fr f u vs l = absurd (not-suc-le-zero l)
  child_at_lem (t ◂ ts) (suc i) fr f u vs l =
      rw (lt-leb fr.stop fr.q (ats_less G fr.q t ts fr.stop d vs), end_at fr ts f u t vs.0)
      (ap (λ (ws : List ℕ). child_from ws fr.stop i (G.ends fr.q)) (sym (over_words_lem fr t vs.0 ts f u)) ∙ child_at_lem ts i (over fr t vs.0) f u vs.1 (le_of_suc-le-suc l))

  pub child_past : (ts : Forest) (i : ℕ) (fr : Frame G d) (f u : ℕ) → All fr ts → count ts ≤ i → child_from (words_in fr ts f u) fr.stop i fr.q ≡ fr.stop
  unfolding child_from
  child_past [] zero fr f u vs l = vs
  child_past [] (suc i) fr f u vs l = rw (le-leb fr.stop fr.q (omega (arith, vs))) vs
  child_past (t ◂ ts) zero fr f u vs l = absurd (not-suc-le-zero l)
  child_past (t ◂ ts) (suc i) fr f u vs l =
      rw (lt-leb fr.stop fr.q (ats_less G fr.q t ts fr.stop d vs), end_at fr ts f u t vs.0)
      (ap (λ (ws : List ℕ). child_from ws fr.stop i (G.ends fr.q)) (sym (over_words_lem fr t vs.0 ts f u)) ∙ child_past ts i (over fr t vs.0) f u vs.1 (le_of_suc-le-suc l))

-- ---- the frame of the children of the node t, which stands before us
module _ {G : Given} {d : ℕ} where
  pub inside_full : (fr : Frame G (suc d)) (us : Forest) → Ats G (G.ends fr.q) us fr.stop (suc d) → G.ends fr.q + length (runs word_of us fr.behind) ≡ 256
  inside_full fr us v = omega (arith, length_runs word_of us fr.behind, ats_size G (G.ends fr.q) us fr.stop (suc d) v, fr.full)

  abbrev pub inside : (fr : Frame G (suc d)) (t : Tree) (us : Forest) → Ats G (G.ends fr.q) us fr.stop (suc d) → Frame G d
  inside fr t us v = record {
    before = List.◌∷◌ (word_of t) fr.before;
    behind = runs word_of us fr.behind;
    past = List.◌∷◌ (time_in t) fr.past;
    later = runs time_in us fr.later;
    q = suc fr.q;
    stop = G.ends fr.q;
    words_before = ap (λ (z : ℕ). suc z) fr.words_before;
    times_before = ap (λ (z : ℕ). suc z) fr.times_before;
    full = inside_full fr us v;
  }
