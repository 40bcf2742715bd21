-- What the rules that have children leave of a node.
use Rattle.std.specs.Prelude.{◌≡◌, Bool, List}
use Rattle.std.proofs.Math.Path.{refl}
use Rattle.std.proofs.Common.{◌∙◌, zero-add, arith}
use Prim.Native.Nat.{ℕ, zero, suc, ◌+◌, ◌≤◌, ◌<◌}
use Rattle.std.proofs.Math.Numerals.{add-one}
use Rattle.std.proofs.Math.Dec.{eqb-suc-zero}
use Rattle.std.specs.Float.Ieee.{Float, add, le}
use Rattle.std.specs.Float.{Format}
use borrow.Author.Tests.{lt-ltb, le-ltb}
use Rattle.rules.specs.declared.behavior.Kind.{Kind}
use Rattle.rules.specs.declared.behavior.Kind.TheVariants.{Timeout, While}
use Rattle.rules.specs.declared.status.Status.{Status}
use Rattle.rules.specs.declared.status.Status.TheVariants.{Running, Success, Failure}
use Rattle.rules.specs.Tree.{Cell, with_time, with_place, Tree, node, Forest, [], ◌◂◌, fresh, sizes, count}
use Rattle.rules.specs.Outcome.{dt, Out, done, Ticker, ◌▸◌}
use Rattle.rules.specs.Loops.{put, fresh_at, child_at, while_body, while_all}
use Rattle.rules.specs.Sequence.{sequence_at, memoryless}
use Rattle.rules.specs.WhenAll.{when_all, race_from, after_at}
use Rattle.rules.specs.State.{Next, at_place, in_cell, only, if_at, rule}
use Rattle.work.specs.Word.{kind_in}
use Rattle.work.specs.Array.{word_at, set_place}
use Rattle.work.specs.Flat.{out, Lent, lent, Visitor, seen_as, turn_out, turning, times_out, decorated, sequence, race, after, while_loop, branch, chosen, if_node, decorator}
use Rattle.work.specs.Flat as flat
use Rattle.refine.specs.Packed.{kind_pack, place_pack}
use Rattle.refine.specs.Runs.{run, fuel_in_lem, passed_in}
use Rattle.refine.specs.Stand.{Given, Placed, At, Ats, at_fresh, ats_size, ats_less, ats_count, count_sizes, spot, spot_less}
use Rattle.refine.specs.Frame.{Frame, nodes_in, words_in, times_in, First, All, full_length, over, over_words_lem, over_times, word_in, place_put, time_in_lem, time_put, end_at}
use Rattle.refine.specs.Frame.{fresh_words_lem, fresh_times_lem, child_at_lem, child_past, inside}
use Rattle.refine.specs.Sim.{View, Sim, world_at, event, rest_event, went, still, turn, turn_tick, sim_keep, sim_either, sim_turn, stopped_in, on, trees, Ticks, Dry, ticks_turn, sim_visit}
use Rattle.refine.specs.Drivers.{kids, Heads, sequence_link, memoryless_link, when_all_link, race_link, after_link}
use Rattle.refine.specs.Loops.{end_spot, spot_words, spot_times, puts, child_link, body_link, all_link}

abbrev pub lent_of : Given → Lent
lent_of G = lent G.limits G.statuses G.leftovers

-- a node of the kind k over the children ts, first in a frame, before us
pub record Node (G : Given) (d : ℕ) (k : Kind) (ts : Forest) : Type 0 where
  pub fr : Frame G (suc d)
  pub us : Forest
  pub n : ℕ
  pub limit : Float
  pub cell : Cell
  pub board : ℕ
  pub stands : Placed G fr.q k n limit (count ts) cell.place cell.mark
  pub below : Ats G (suc fr.q) ts (G.ends fr.q) d
  pub behind : Ats G (G.ends fr.q) us fr.stop (suc d)

module _ {G : Given} {d : ℕ} {k : Kind} {ts : Forest} (N : Node G d k ts) where
  -- where it stands and ends, and its place
  abbrev q : ℕ
  q = N.fr.q

  abbrev stop : ℕ
  stop = G.ends N.fr.q

  abbrev place : ℕ
  place = N.cell.place

  -- it with another cell and other children; and what a rule leaves
  abbrev pub node_of : Cell → Forest → Tree
  node_of c ts' = node k N.n N.limit c N.board ts'

  abbrev pub cell_at : ℕ → Cell
  cell_at j = with_place j N.cell

  abbrev pub left : View G Next
  left = record {
    good = λ y. At G q (node_of y.0 y.1) (suc d);
    words = λ y f u. words_in N.fr
        (node_of y.0 y.1 ◂ N.us) f u;
    times = λ y. times_in N.fr (node_of y.0 y.1 ◂ N.us);
  }

  -- the frame of the children where the place is j
  abbrev pub kids_at : ℕ → Frame G d
  kids_at j = inside N.fr (node_of (cell_at j) ts) N.us N.behind

  module _ (ts' : Forest) (vs : All (kids_at 0) ts') where
    same_count : count ts' ≡ count ts
    same_count = ats_count G (suc q) ts' ts stop d vs N.below

    node_words : (j f u : ℕ) → words_in (kids_at j) ts' f u ≡ words_in N.fr (node_of (cell_at j) ts' ◂ N.us) f u
    unfolding run
    node_words j f u = rw same_sizes
      where
        same_sizes : sizes ts ≡ sizes ts'
        same_sizes = omega (arith, ats_size G (suc q) ts stop d N.below, ats_size G (suc q) ts' stop d vs)

    node_good : (y : Float) (j : ℕ) → j ≤ count ts' → At G q (node_of (with_time y (cell_at j)) ts') (suc d)
    node_good y j o = (record { row = rw same_count N.stands.row; place = o; mark = N.stands.mark; room = N.stands.room }, vs)

    same_place : N.cell.place ≤ count ts'
    same_place = rw same_count N.stands.place

    node_put : (i j f u : ℕ) → set_place (words_in (kids_at i) ts' f u) q j ≡ words_in (kids_at j) ts' f u
    node_put i j f u = rw (node_words i f u, node_words j f u) (place_put N.fr N.us f u k N.n N.limit (cell_at i) N.board ts' j)

    heads : (j f u : ℕ) → j ≤ count ts' → Heads (kids_at j) ts' f u q j
    heads j f u o = record {
      ends = rw (node_words j f u) (end_at N.fr N.us f u (node_of (cell_at j) ts') (node_good N.cell.time j o));
      place = rw (node_words j f u, word_in N.fr N.us f u (node_of (cell_at j) ts'))
          (place_pack (sizes ts') k j N.cell.mark N.cell.anew N.board (omega (arith, count_sizes ts', ats_size G (suc q) ts' stop d vs, N.stands.room, G.room)));
      kept = node_put j j f u;
      first = add-one q;
    }

  placed_link : (most : ℕ) (o : Out (ℕ × Forest)) (o' : flat.Out) → Sim most (kids q 0 (kids_at place)) o o' → Sim most left (at_place (cell_at place) o) o'
  unfolding run
  placed_link most o o' e = sim_keep (kids q 0 (kids_at place)) most left most o o' (λ y. (cell_at y.0, y.1)) e (omega arith)
      λ y f u vy. (node_good y.1 vy.0 N.cell.time y.0 vy.1, rw (zero-add y.0, node_put y.1 vy.0 place y.0 f u) (node_words y.1 vy.0 y.0 f u), refl)

  celled_link : (most : ℕ) (o : Out Forest) (o' : flat.Out) → Sim most (trees (kids_at place)) o o' → Sim most left (in_cell (cell_at place) o) o'
  unfolding run
  celled_link most o o' e = sim_keep (trees (kids_at place)) most left most o o' (λ ts'. (cell_at place, ts')) e (omega arith)
      λ ts' f u vs. (node_good ts' vs N.cell.time place (same_place ts' vs), node_words ts' vs place f u, refl)

  module _ (child : Ticker) (w : Visitor) (g : Ticks G d child w) where
    -- ---- If: a branch, and the choice of one
    abbrev chosen_view : View G (ℕ × Forest)
    chosen_view = record { good = λ y. left.good (cell_at y.0, y.1); words = λ y f u. left.words (cell_at y.0, y.1) f u; times = λ y. left.times (cell_at y.0, y.1) }

    branch_link : (ts' : Forest) (i : ℕ) (y : Float) (f u most : ℕ)
        → All (kids_at i) ts'
        → u + f ≤ G.fuel
        → i < count ts'
        → f ≤ most
        → Sim most chosen_view (child_at child i (event G y) ts' (world_at G f u) ▸ λ s r t' w'. done s r (i, put i t' ts') w')
        (on (kids_at i) ts' f u (branch w q stop i y))
    unfolding branch run
    branch_link ts' i y f u most vs e o j = rw (
      add-one q,
      child_at_lem ts' i (kids_at i) f u vs (omega arith),
      lt-ltb (spot G i (suc q)) stop (spot_less G ts' i (suc q) stop d vs o),
    )
        (sim_keep (puts (kids_at i) i ts') f chosen_view most (child_at child i (event G y) ts' (world_at G f u)) _ (λ t'. (i, put i t' ts'))
        (child_link G d child w g ts' i (kids_at i) y f u vs e o) j
        λ t' f' u' v'. (
          node_good (put i t' ts') v' N.cell.time i (omega (arith, ats_count G (suc q) (put i t' ts') ts' stop d v' vs)),
          node_words (put i t' ts') v' i f' u',
          refl,
        ))

    chosen_link : (c : Tree) (cs : Forest) (j i : ℕ) (y : Float) (f u : ℕ)
        → All (kids_at j) (c ◂ cs)
        → i < suc (count cs)
        → chosen w q stop i y (words_in (kids_at j) (c ◂ cs) f u) (times_in (kids_at j) (c ◂ cs))
        ≡ branch w q stop i y (words_in (kids_at i) (fresh_at i (fresh c ◂ cs)) f u) (times_in (kids_at i) (fresh_at i (fresh c ◂ cs)))
    unfolding chosen run fresh
    chosen_link c cs j i y f u vs o =
        let vf : All (kids_at i) (fresh c ◂ cs) = (at_fresh G (suc q) c d vs.0, vs.1) in
        rw (
          add-one q,
          end_at (kids_at j) cs f u c vs.0,
          fresh_words_lem (kids_at j) (c ◂ []) cs (G.ends (suc q)) (vs.0, refl) f u,
          fresh_times_lem (kids_at j) (c ◂ []) cs (G.ends (suc q)) (vs.0, refl),
          node_put (fresh c ◂ cs) vf j i f u,
          child_at_lem (fresh c ◂ cs) i (kids_at i) f u vf (omega arith),
          end_spot (fresh c ◂ cs) i (kids_at i) f u vf o,
          spot_words (fresh c ◂ cs) i (kids_at i) f u vf o,
          spot_times (fresh c ◂ cs) i (kids_at i) vf o,
        )
        refl

    if_link : (i : ℕ) (ts' : Forest) (y : Float) (f u : ℕ)
        → All (kids_at i) ts'
        → u + f ≤ G.fuel
        → count ts' ≡ 3
        → i ≤ 3
        → Sim (suc f) chosen_view (if_at child i (event G y) ts' (world_at G f u)) (on (kids_at i) ts' f u (if_node w q y))
    unfolding if_node branch run
    if_link i [] y f u vs e o j = absurd (omega arith)
    if_link i (c ◂ []) y f u vs e o j = absurd (omega arith)
    if_link i (c ◂ a ◂ []) y f u vs e o j = absurd (omega arith)
    if_link zero (c ◂ a ◂ b ◂ cs) y f u vs e o j =
        let z = heads (c ◂ a ◂ b ◂ cs) vs 0 f u (omega arith) in
        let vf : (c' : Tree) → First (kids_at 0) c' → First (kids_at 0) (fresh c') = λ c' v'. at_fresh G (suc q) c' d v' in
        let va = at_fresh G (G.ends (suc q)) a d vs.1.0 in
        let vb = at_fresh G (G.ends (G.ends (suc q))) b d vs.1.1.0 in
        rw (z.place, lt-ltb q 255 (omega (arith, ats_less G (suc q) c (a ◂ b ◂ cs) stop d vs, N.stands.room, G.room)), add-one q)
        (sim_visit G d child w g chosen_view (kids_at 0) c (a ◂ b ◂ cs) y f u _ _ vs e elim [
          | Running ↦ λ r c' f' u' v' e'. went u' (still e') (node_good (c' ◂ a ◂ b ◂ cs) (v', vs.1) N.cell.time 0 (omega arith)) (node_words (c' ◂ a ◂ b ◂ cs) (v', vs.1) 0 f' u') refl
          | Success ↦ λ r c' f' u' v' e'. rw (z.ends, chosen_link c' (a ◂ b ◂ cs) 0 1 r f' u' (v', vs.1) (omega arith), rest_event G y r)
              (branch_link (fresh c' ◂ fresh a ◂ b ◂ cs) 1 r f' u' (suc f) (vf c' v', (va, vs.1.1)) e'.few (omega arith) (omega (arith, e'.burnt)))
          | Failure ↦ λ r c' f' u' v' e'. rw (z.ends, chosen_link c' (a ◂ b ◂ cs) 0 2 r f' u' (v', vs.1) (omega arith), rest_event G y r)
              (branch_link (fresh c' ◂ a ◂ fresh b ◂ cs) 2 r f' u' (suc f) (vf c' v', (vs.1.0, (vb, vs.1.1.1))) e'.few (omega arith) (omega (arith, e'.burnt)))
        ])
    if_link (suc zero) (c ◂ a ◂ b ◂ cs) y f u vs e o j =
        let z = heads (c ◂ a ◂ b ◂ cs) vs 1 f u (omega arith) in
        rw (z.ends, z.place) (branch_link (c ◂ a ◂ b ◂ cs) 1 y f u (suc f) vs e (omega arith) (omega arith))
    if_link (suc (suc zero)) (c ◂ a ◂ b ◂ cs) y f u vs e o j =
        let z = heads (c ◂ a ◂ b ◂ cs) vs 2 f u (omega arith) in
        rw (z.ends, z.place) (branch_link (c ◂ a ◂ b ◂ cs) 2 y f u (suc f) vs e (omega arith) (omega arith))
    if_link (suc (suc (suc i))) (c ◂ a ◂ b ◂ cs) y f u vs e o j =
        let p : ℕ = suc (suc (suc i)) in
        let z = heads (c ◂ a ◂ b ◂ cs) vs p f u (omega arith) in
        rw (z.ends, z.place, eqb-suc-zero (suc (suc i)), z.first, child_past (c ◂ a ◂ b ◂ cs) p (kids_at p) f u vs (omega arith), le-ltb stop stop (omega arith))
        (stopped_in (kids_at p) (c ◂ a ◂ b ◂ cs) vs f u)

    -- ---- the rules over the node's children; z says whether Success and Failure are exchanged
    module _ (y : Float) (f u : ℕ) (e : u + f ≤ G.fuel) where
      here : Heads (kids_at place) ts f u q place
      here = heads ts N.below place f u N.stands.place

      count_small : count ts ≤ 256
      count_small = omega (arith, count_sizes ts, ats_size G (suc q) ts stop d N.below, N.stands.room, G.room)

      pub if_rule : count ts ≡ 3
          → Sim (suc f) left (at_place (cell_at place) (if_at child place (event G y) ts (world_at G f u))) (on (kids_at place) ts f u (if_node w q y))
      if_rule o = sim_keep chosen_view (suc f) left (suc f) (if_at child place (event G y) ts (world_at G f u)) _ (λ z. (cell_at z.0, z.1))
          (if_link place ts y f u N.below e o (omega (arith, N.stands.place))) (omega arith) λ z f' u' vz. (vz, refl, refl)

      pub sequence_rule : (z : Bool)
          → Sim (suc f) left (at_place (cell_at place) (turn z (sequence_at (turn_tick z child) place (event G y) ts (world_at G f u))))
          (turn_out z (on (kids_at place) ts f u (sequence (turning z w) q y)))
      sequence_rule z =
          let o = sequence_at (turn_tick z child) place (event G y) ts (world_at G f u) in
          placed_link (suc f) (turn z o) _ (sim_turn (kids q 0 (kids_at place)) (suc f) z o _
          (sequence_link G d (turn_tick z child) (turning z w) (ticks_turn G d child w z g) (kids_at place) ts y q place f u N.below e here N.stands.place count_small))

      pub memoryless_rule : (z : Bool)
          → Sim (suc f) left (in_cell (cell_at place) (turn z (memoryless (turn_tick z child) (event G y) ts (world_at G f u))))
          (turn_out z (on (kids_at place) ts f u (flat.memoryless (turning z w) q y)))
      memoryless_rule z =
          let o = memoryless (turn_tick z child) (event G y) ts (world_at G f u) in
          celled_link (suc f) (turn z o) _ (sim_turn (trees (kids_at place)) (suc f) z o _
          (memoryless_link G d (turn_tick z child) (turning z w) (ticks_turn G d child w z g) (kids_at place) ts y q place f u N.below e here count_small))

      pub when_all_rule : (z : Bool) (top : Float)
          → Sim (suc f) left (in_cell (cell_at place) (turn z (when_all (turn_tick z child) top (event G y) ts (world_at G f u))))
          (turn_out z (on (kids_at place) ts f u (flat.when_all (turning z w) top q y)))
      when_all_rule z top =
          let o = when_all (turn_tick z child) top (event G y) ts (world_at G f u) in
          celled_link (suc f) (turn z o) _ (sim_turn (trees (kids_at place)) (suc f) z o _
          (when_all_link G d (turn_tick z child) (turning z w) (ticks_turn G d child w z g) (kids_at place) ts top y q place f u N.below e here count_small))

      pub after_rule : (top : Float)
          → Sim (suc f) left (at_place (cell_at place) (after_at child top place (event G y) ts (world_at G f u))) (on (kids_at place) ts f u (after w top q y))
      after_rule top = placed_link (suc f) (after_at child top place (event G y) ts (world_at G f u)) _
          (after_link G d child w g (kids_at place) ts top y q place f u N.below e here N.stands.place count_small)

      pub race_rule : Sim (suc f) left (in_cell (cell_at place) (race_from child (event G y) ts (world_at G f u))) (on (kids_at place) ts f u (race w q y))
      race_rule = celled_link (suc f) (race_from child (event G y) ts (world_at G f u)) _ (race_link G d child w g (kids_at place) ts y q place f u N.below e here count_small)

-- ---- the rules that visit their first child c
module _ {G : Given} {d : ℕ} {k : Kind} {c : Tree} {cs : Forest} (N : Node G d k (c ◂ cs)) (child : Ticker) (w : Visitor)
    (g : Ticks G d child w) (y : Float) (f u : ℕ) (e : u + f ≤ G.fuel) where
  -- where the node stands, and the frame of its children
  abbrev p : ℕ
  p = N.fr.q

  abbrev fr : Frame G d
  fr = kids_at N N.cell.place

  inner : p < 255
  inner = omega (arith, ats_less G (suc p) c cs (G.ends p) d N.below, N.stands.room, G.room)

  module _ (t : Tree) (v : First fr t) where
    vs : All fr (t ◂ cs)
    vs = (v, N.below.1)

    kind_at : (f' u' : ℕ) → kind_in (word_at (words_in fr (t ◂ cs) f' u') p) ≡ k
    kind_at f' u' = rw (node_words N (t ◂ cs) vs N.cell.place f' u', word_in N.fr N.us f' u' (node_of N (cell_at N N.cell.place) (t ◂ cs)))
        (kind_pack (sizes (t ◂ cs)) k N.cell.place N.cell.mark N.cell.anew N.board)

    first_good : (x' : Float) → At G p (node_of N (with_time x' N.cell) (t ◂ cs)) (suc d)
    first_good x' = node_good N (t ◂ cs) vs x' N.cell.place (same_place N (t ◂ cs) vs)

    first_words : (f' u' : ℕ) → words_in fr (t ◂ cs) f' u' ≡ words_in N.fr (node_of N (cell_at N N.cell.place) (t ◂ cs) ◂ N.us) f' u'
    first_words = node_words N (t ◂ cs) vs N.cell.place

  pub only_rule : (F : Format) (change : Status → Status)
      → ((s : Status) (r : Float) (ws : List ℕ) (ts : List Float) → kind_in (word_at ws p) ≡ k → decorated F (lent_of G) p y s r ws ts ≡ out (seen_as (change s)) r ws ts)
      → Sim (suc f) (left N) (only child change (cell_at N N.cell.place) (event G y) (c ◂ cs) (world_at G f u)) (on fr (c ◂ cs) f u (decorator F (lent_of G) w p y))
  unfolding decorator run
  only_rule F change same = rw (lt-ltb p 255 inner, add-one p) (sim_visit G d child w g (left N) fr c cs y f u _ _ N.below e
      λ s r t' f' u' v' e'. rw (same s r (words_in fr (t' ◂ cs) f' u') (times_in fr (t' ◂ cs)) (kind_at t' v' f' u'))
      (went u' (still e') (first_good t' v' N.cell.time) (first_words t' v' f' u') refl))

  pub timeout_rule : (F : Format)
      → k ≡ Timeout
      → Sim (suc f) (left N) (rule F child Timeout N.n N.limit (cell_at N N.cell.place) (event G y) (c ◂ cs) (world_at G f u)) (on fr (c ◂ cs) f u (decorator F (lent_of G) w p y))
  unfolding rule decorator decorated times_out run
  timeout_rule F kk = rw (lt-ltb p 255 inner, add-one p) (sim_visit G d child w g (left N) fr c cs y f u _ _ N.below e elim [
    | Running ↦ λ r t' f' u' v' e'.
        let now : Float = add F N.cell.time (dt (event G y)) in
        rw (
          kind_at t' v' f' u' ∙ kk,
          time_in_lem N.fr N.us k N.n N.limit N.cell N.board (t' ◂ cs),
          N.stands.row.limit,
          passed_in (nodes_in fr (t' ◂ cs)) (full_length fr (t' ◂ cs) (vs t' v')) G.update f' u' y,
          time_put N.fr N.us k N.n N.limit N.cell N.board (t' ◂ cs) now,
        )
        (sim_either (left N) (suc f) (le N.limit now) _ _ _ _
        (went u' (still e') (first_good t' v' now) (first_words t' v' f' u') refl)
        (went u' (still e') (first_good t' v' now) (first_words t' v' f' u') refl))
    | Success ↦ λ r t' f' u' v' e'. rw (kind_at t' v' f' u' ∙ kk) (went u' (still e') (first_good t' v' N.cell.time) (first_words t' v' f' u') refl)
    | Failure ↦ λ r t' f' u' v' e'. rw (kind_at t' v' f' u' ∙ kk) (went u' (still e') (first_good t' v' N.cell.time) (first_words t' v' f' u') refl)
  ])

  pub while_rule : (F : Format)
      → Dry child
      → Sim (suc f) (left N) (rule F child While N.n N.limit (cell_at N N.cell.place) (event G y) (c ◂ cs) (world_at G f u)) (on fr (c ◂ cs) f u (while_loop w p y))
  unfolding rule while_loop run
  while_rule F dry = rw (lt-ltb p 255 inner, add-one p) (sim_visit G d child w g (left N) fr c cs y f u _ _ N.below e elim [
    | Running ↦ λ r c' f' u' v' e'.
        let z = heads N (c' ◂ cs) (vs c' v') N.cell.place f' u' (same_place N (c' ◂ cs) (vs c' v')) in
        rw (
          z.first,
          z.ends,
          z.place,
          end_at fr cs f' u' c' v',
          fuel_in_lem (nodes_in fr (c' ◂ cs)) (full_length fr (c' ◂ cs) (vs c' v')) G.update f' u',
          ← over_words_lem fr c' v' cs f' u',
          ← over_times fr c' v' cs,
        )
        (sim_keep (kids p 0 (over fr c' v')) (suc f') (left N) (suc f) (while_body child (suc f) N.cell.place (event G y) cs (world_at G f' u')) _ (λ a. (cell_at N a.0, c' ◂ a.1))
        (body_link G d child w g dry f N.cell.place (over fr c' v') y cs p f' u' N.below.1 e'.few (omega (arith, e'.burnt)))
        (omega (arith, e'.burnt))
        λ a f'' u'' va. (
          node_good N (c' ◂ a.1) (v', va.0) N.cell.time a.0 (omega (arith, va.1)),
          rw (zero-add a.0, over_words_lem fr c' v' a.1 f'' u'', node_put N (c' ◂ a.1) (v', va.0) N.cell.place a.0 f'' u'') (node_words N (c' ◂ a.1) (v', va.0) a.0 f'' u''),
          over_times fr c' v' a.1,
        ))
    | Success ↦ λ r t' f' u' v' e'. went u' (still e') (first_good t' v' N.cell.time) (first_words t' v' f' u') refl
    | Failure ↦ λ r t' f' u' v' e'. went u' (still e') (first_good t' v' N.cell.time) (first_words t' v' f' u') refl
  ])

  pub while_all_rule : Dry child
      → 0 < count cs
      → Sim (suc f) (left N) (at_place (cell_at N N.cell.place) (while_all child (suc f) (event G y) N.cell.place (event G y) c cs (world_at G f u))) (on fr (c ◂ cs) f u (flat.while_all w p y))
  unfolding flat.while_all
  while_all_rule dry o =
      let z = heads N (c ◂ cs) N.below N.cell.place f u N.stands.place in
      rw (
        lt-ltb p 255 inner,
        z.first,
        z.ends,
        z.place,
        end_at fr cs f u c N.below.0,
        fuel_in_lem (nodes_in fr (c ◂ cs)) (full_length fr (c ◂ cs) N.below) G.update f u,
      )
      (placed_link N (suc f) (while_all child (suc f) (event G y) N.cell.place (event G y) c cs (world_at G f u)) _
      (all_link G d child w g dry N.cell.place fr y c cs p f u N.below e z.first o))
