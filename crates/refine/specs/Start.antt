-- The whole tree in the array at the start: it stands in the table.
use Rattle.std.specs.Prelude.{◌≡◌, refl, Bool, ℕ, zero, suc, ◌+◌, ◌-◌, ◌^◌, ◌≤◌, ◌<◌, Float, length, replicate}
use Rattle.std.proofs.Math.Path.{sym}
use Rattle.std.proofs.Common.{ap, ◌∙◌, not-suc-le-zero, arith}
use mathlib.Core.List.{List, reverse_aux}
use Rattle.std.proofs.lemmas.List.{length-replicate}
use Rattle.rules.specs.Tree.{Tree, node, Forest, [], ◌◂◌, size, sizes, depth, depths}
use Rattle.rules.specs.Cells.{column, columns, time_of}
use Rattle.work.specs.Array.{fuel_of, used_of, end_of}
use Rattle.refine.specs.Words.{words, words_all, behind, working, Fits, FitsAll, Holds, HoldsAll}
use Rattle.refine.specs.Runs.{run, runs, run_append, length_run, fuel_in_lem, used_in, push, length_push, push_run, word_of, time_in, array, end_here}
use Rattle.refine.specs.Stand.{Given, At, Ats}
use Rattle.refine.specs.Frame.{Frame, words_in, times_in}

mutual
  unfolding words run

  pub words_run : (t : Tree) (post : List ℕ) → run word_of t post ≡ words t post
  words_run (node k n l c b ts) post = ap (λ (r : List ℕ). List.◌∷◌ (word_of (node k n l c b ts)) r) (words_runs ts post)

  words_runs : (ts : Forest) (post : List ℕ) → runs word_of ts post ≡ words_all ts post
  words_runs [] post = refl
  words_runs (t ◂ ts) post = words_run t (runs word_of ts post) ∙ ap (λ (r : List ℕ). words t r) (words_runs ts post)

mutual
  unfolding column run

  times_run : (t : Tree) (post : List Float) → run time_in t post ≡ column time_of t post
  times_run (node k n l c b ts) post = ap (λ (r : List Float). List.◌∷◌ (time_of c b) r) (times_runs ts post)

  times_runs : (ts : Forest) (post : List Float) → runs time_in ts post ≡ columns time_of ts post
  times_runs [] post = refl
  times_runs (t ◂ ts) post = times_run t (runs time_in ts post) ∙ ap (λ (r : List Float). column time_of t r) (times_runs ts post)

-- the frame of the whole tree
pub start_full : (n : ℕ) → n ≤ 256 → n + length (replicate {A = ℕ} (256 - n) 0) ≡ 256
start_full n h = omega (arith, length-replicate {A = ℕ} (256 - n) 0)

abbrev pub start : (G : Given) (d : ℕ) → List Float → Frame G d
start G d rest = record {
  before = List.[];
  behind = replicate (256 - G.nodes) 0;
  past = List.[];
  later = rest;
  q = 0;
  stop = G.nodes;
  words_before = refl;
  times_before = refl;
  full = start_full G.nodes G.room;
}

pub words_start : (G : Given) (d : ℕ) (rest : List Float) (t : Tree) (f u : ℕ) → size t ≡ G.nodes → words_in (start G d rest) (t ◂ []) f u ≡ working t f u G.update
unfolding working behind array run
words_start G d rest t f u e = rw (← e) (sym (run_append word_of t (replicate (256 - size t) 0) _) ∙ words_run t _)

-- the fuel and the answers that a tree's array says
module _ (t : Tree) (f u : ℕ) (b : Bool) (room : size t ≤ 256) where
  nodes_full : length (run word_of t (replicate (256 - size t) 0)) ≡ 256
  nodes_full = omega (arith, length_run word_of t (replicate (256 - size t) 0), start_full (size t) room)

  as_array : array (run word_of t (replicate (256 - size t) 0)) b f u ≡ working t f u b
  unfolding working behind array
  as_array = sym (run_append word_of t (replicate (256 - size t) 0) _) ∙ words_run t _

  pub fuel_left : fuel_of (working t f u b) ≡ f
  fuel_left = rw (← as_array) (fuel_in_lem (run word_of t (replicate (256 - size t) 0)) nodes_full b f u)

  pub used_up : used_of (working t f u b) ≡ u
  used_up = rw (← as_array) (used_in (run word_of t (replicate (256 - size t) 0)) nodes_full b f u)

pub times_start : (G : Given) (d : ℕ) (rest : List Float) (t : Tree) → times_in (start G d rest) (t ◂ []) ≡ column time_of t rest
unfolding run
times_start G d rest t = times_run t rest

-- where each subtree ends is read in the array
module _ (ns : List ℕ) (limits : List Float) (ss : List ℕ) (ls : List Float) (b : Bool) (fuel : ℕ) (ws : List ℕ) (nodes : ℕ) (room : nodes ≤ 256) (small : fuel < 2 ^ 32) where
  abbrev pub given : Given
  given = record { ns = ns; limits = limits; statuses = ss; leftovers = ls; update = b; fuel = fuel; ends = λ q. end_of ws q; nodes = nodes; room = room; small = small }

  module _ (f u : ℕ) where
    mutual
      unfolding run size Holds Fits depth

      pub at_start : (t : Tree) (pre post : List ℕ) (q d : ℕ)
          → length pre ≡ q
          → ws ≡ array (reverse_aux pre (run word_of t post)) b f u
          → Holds ns limits q t
          → Fits t
          → depth t ≤ d
          → q + size t ≤ nodes
          → At given q t d
      at_start (node k n l c bd ts) pre post q zero h w hs fs dp j = absurd (not-suc-le-zero dp)
      at_start (node k n l c bd ts) pre post q (suc d) h w hs fs dp j =
          let t : Tree = node k n l c bd ts in
          let ends : end_of ws q ≡ q + suc (sizes ts) = rw w (end_here pre post q h b f u t (omega arith)) in (
            record { row = hs.0; place = fs.0.0; mark = fs.0.1; room = omega arith },
            ats_start ts (List.◌∷◌ (word_of t) pre) post (suc q) (end_of ws q) d (ap (λ (z : ℕ). suc z) h) (omega arith) w hs.1 fs.1 (omega arith) (omega arith),
          )

      ats_start : (ts : Forest) (pre post : List ℕ) (q stop d : ℕ)
          → length pre ≡ q
          → stop ≡ q + sizes ts
          → ws ≡ array (reverse_aux pre (runs word_of ts post)) b f u
          → HoldsAll ns limits q ts
          → FitsAll ts
          → depths ts ≤ d
          → q + sizes ts ≤ nodes
          → Ats given q ts stop d
      ats_start [] pre post q stop d h e w hs fs dp j = omega arith
      ats_start (t ◂ ts) pre post q stop d h e w hs fs dp j =
          let ends : end_of ws q ≡ q + size t = rw w (end_here pre (runs word_of ts post) q h b f u t (omega arith)) in (
            at_start t pre (runs word_of ts post) q d h w hs.0 fs.0 (omega arith) (omega arith),
            ats_start ts (push word_of t pre) post (end_of ws q) stop d (omega (arith, length_push word_of t pre)) (omega arith)
                (w ∙ ap (λ (l : List ℕ). array l b f u) (sym (push_run word_of t pre (runs word_of ts post)))) (rw ends hs.1) fs.1 (omega arith) (omega arith),
          )
