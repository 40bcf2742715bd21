-- The drivers that go over the children once give what the rules give.
use Rattle.std.specs.Prelude.{◌≡◌, Bool, not, eqb, Float}
use Rattle.std.proofs.Math.Path.{refl}
use Rattle.std.proofs.Math.Bool.{true, false}
use Prim.Native.Nat.{ℕ, zero, suc, ◌+◌, ◌≤◌, ◌<◌}
use Rattle.std.proofs.Common.{not-suc-le-zero, le_of_suc-le-suc, zero-add}
use Rattle.std.proofs.Math.Nat.{add-zero}
use Rattle.std.proofs.Math.Decide.{dec_lt}
use native.Mathlib.Omega.{arith}
use Rattle.std.specs.Float.Ieee.{lt}
use borrow.Author.Tests.{lt-ltb, le-ltb, le-leb, lt-leb}
use Rattle.rules.specs.declared.status.Status.TheVariants.{Running, Success, Failure}
use Rattle.rules.specs.declared.event.Event.{Event}
use Rattle.rules.specs.declared.event.Event.TheVariants.{Update, Other}
use Rattle.rules.specs.Tree.{zero_time, Tree, node, Forest, [], ◌◂◌, fresh, fresh_all, mark, sizes, count}
use Rattle.rules.specs.Outcome.{event_of, World, Out, done, Ticker, waiting, smaller}
use Rattle.rules.specs.Sequence.{keep, pass, sequence_from, sequence_at, memoryless}
use Rattle.rules.specs.WhenAll.{when_all_from, when_all, race_from, after_from, after_at}
use Rattle.work.specs.Word.{place_of}
use Rattle.work.specs.Array.{word_at, end_of, set_place, up_on}
use Rattle.work.specs.Flat.{out, Visitor, sequence_go, sequence, memoryless_go, when_all_go, race_go, race, after_over, after_go, after}
use Rattle.work.specs.Flat as flat
use Rattle.work.specs.declared.result.Seen.TheVariants as seen
use Rattle.refine.specs.Packed.{mark_pack}
use Rattle.refine.specs.Runs.{run, updates_in, passed_in}
use Rattle.refine.specs.Stand.{Given, at_fresh, ats_fresh, at_mark, at_mark_small, ats_less, spot, spot_less}
use Rattle.refine.specs.Frame.{Frame, nodes_in, words_in, times_in, First, All, full_length, over, over_words_lem, over_times, word_in, marked_words, marked_times, end_at}
use Rattle.refine.specs.Frame.{end_next, fresh_words_lem, fresh_times_lem, child_at_lem, child_past}
use Rattle.refine.specs.Sim.{View, Spent, Sim, world_at, event, rest_event, went, still, unspent, sim_keep, sim_either, sim_unless, sim_event, on, trees, Ticks, sim_visit}

-- what a driver leaves: the children, and its place, counted from i, in the node at p; or there the place i
module _ {G : Given} {d : ℕ} (p i : ℕ) (fr : Frame G d) where
  abbrev pub kids : View G (ℕ × Forest)
  kids = record { good = λ x. All fr x.1 × (x.0 ≤ count x.1); words = λ x f u. set_place (words_in fr x.1 f u) p (i + x.0); times = λ x. times_in fr x.1 }

  abbrev held : View G (ℕ × Forest)
  held = record { good = λ x. All fr x.1; words = λ x f u. set_place (words_in fr x.1 f u) p i; times = λ x. times_in fr x.1 }

-- the node at p over the children ts: where it ends, its place, and its first child
pub record Heads {G : Given} {d : ℕ} (fr : Frame G d) (ts : Forest) (f u p i : ℕ) : Type 0 where
  pub ends : end_of (words_in fr ts f u) p ≡ fr.stop
  pub place : place_of (word_at (words_in fr ts f u) p) ≡ i
  pub kept : set_place (words_in fr ts f u) p i ≡ words_in fr ts f u
  pub first : p + 1 ≡ fr.q

shift : (i n : ℕ) → i + 1 + n ≡ i + suc n
shift i n = omega arith

-- 0 or 1
unmarked : (m : ℕ) → m < 2 → eqb m 0 ≡ not (eqb m 1)
unmarked zero l = refl
unmarked (suc zero) l = refl
unmarked (suc (suc m)) l = absurd (let z : suc (suc m) < 2 = l in omega arith)

-- what a driver leaves behind the tree t, with t before it
module _ {G : Given} {d : ℕ} (fr : Frame G d) (t : Tree) (v : First fr t) (f f' : ℕ) (l : f' ≤ f) where
  keep_link : (o : Out Forest) (o' : flat.Out) → Sim (suc f') (trees (over fr t v)) o o' → Sim (suc f) (trees fr) (keep t o) o'
  keep_link o o' e = sim_keep (trees (over fr t v)) (suc f') (trees fr) (suc f) o o' (λ ts. t ◂ ts) e (omega arith) λ ts f u vs. ((v, vs), over_words_lem fr t v ts f u, over_times fr t v ts)

  pass_link : (p i : ℕ) (o : Out (ℕ × Forest)) (o' : flat.Out) → Sim (suc f') (kids p (i + 1) (over fr t v)) o o' → Sim (suc f) (kids p i fr) (pass t o) o'
  pass_link p i o o' e = sim_keep (kids p (i + 1) (over fr t v)) (suc f') (kids p i fr) (suc f) o o' (λ y. (suc y.0, t ◂ y.1)) e (omega arith)
      λ y f u vy. (((v, vy.0), omega (arith, vy.1)), rw (over_words_lem fr t v y.1 f u, shift i y.0), over_times fr t v y.1)

-- the last child has succeeded: the place goes up on an update
up_link : {G : Given} {d : ℕ} (p i : ℕ) (fr : Frame G d) (t : Tree) (x r : Float) (f f' u' : ℕ) → All fr (t ◂ []) → Spent G f f' u' → (b : Bool)
    → Sim (suc f) (kids p i fr) (elim (event_of b x) [ Update _ ↦ done Success r (1, t ◂ []) (world_at G f' u') | Other ↦ done Success r (0, t ◂ []) (world_at G f' u') ])
    (out seen.Success r (set_place (words_in fr (t ◂ []) f' u') p (up_on b i)) (times_in fr (t ◂ [])))
up_link p i fr t x r f f' u' vs e true = went u' (still e) (vs, omega arith) refl refl
up_link p i fr t x r f f' u' vs e false = went u' (still e) (vs, omega arith) (rw (add-zero i)) refl

module _ (G : Given) (d : ℕ) (child : Ticker) (v : Visitor) (g : Ticks G d child v) where
  -- ---- Sequence, from the child i, which is first in the frame
  seq_link : (us : Forest) (fr : Frame G d) (x : Float) (t : Tree) (p i k f u : ℕ)
      → All fr (t ◂ us)
      → u + f ≤ G.fuel
      → count us < k
      → Sim (suc f) (kids p i fr) (sequence_from child (event G x) t us (world_at G f u)) (on fr (t ◂ us) f u (sequence_go v p fr.stop k fr.q i x))
  unfolding sequence_from sequence_go run fresh
  seq_link us fr x t p i zero f u vs e n = absurd (not-suc-le-zero n)
  seq_link [] fr x t p i (suc k) f u vs e n = sim_visit G d child v g (kids p i fr) fr t [] x f u _ _ vs e elim [
    | Running ↦ λ r t' f' u' v' e'. went u' (still e') ((v', vs.1), omega arith) (rw (add-zero i)) refl
    | Failure ↦ λ r t' f' u' v' e'. went u' (still e') ((v', vs.1), omega arith) (rw (add-zero i)) refl
    | Success ↦ λ r t' f' u' v' e'. rw (
      end_at fr [] f' u' t' v',
      le-leb fr.stop (G.ends fr.q) (omega (arith, vs.1)),
      updates_in (nodes_in fr (t' ◂ [])) (full_length fr (t' ◂ []) (v', vs.1)) G.update f' u',
    )
        (up_link p i fr t' x r f f' u' (v', vs.1) e' G.update)
  ]
  seq_link (w ◂ us) fr x t p i (suc k) f u vs e n = sim_visit G d child v g (kids p i fr) fr t (w ◂ us) x f u _ _ vs e elim [
    | Running ↦ λ r t' f' u' v' e'. went u' (still e') ((v', vs.1), omega arith) (rw (add-zero i)) refl
    | Failure ↦ λ r t' f' u' v' e'. went u' (still e') ((v', vs.1), omega arith) (rw (add-zero i)) refl
    | Success ↦ λ r t' f' u' v' e'.
        let vt : First fr (fresh t') = at_fresh G fr.q t' d v' in
        let vw : First (over fr (fresh t') vt) (fresh w) = at_fresh G (G.ends fr.q) w d vs.1.0 in
        rw (
          end_at fr (w ◂ us) f' u' t' v',
          end_next fr us f' u' t' w (v', vs.1),
          lt-leb fr.stop (G.ends fr.q) (ats_less G (G.ends fr.q) w us fr.stop d vs.1),
          updates_in (nodes_in fr (t' ◂ w ◂ us)) (full_length fr (t' ◂ w ◂ us) (v', vs.1)) G.update f' u',
          fresh_words_lem fr (t' ◂ w ◂ []) us (G.ends (G.ends fr.q)) (v', (vs.1.0, refl)) f' u',
          fresh_times_lem fr (t' ◂ w ◂ []) us (G.ends (G.ends fr.q)) (v', (vs.1.0, refl)),
        )
        (sim_event (kids p i fr) (suc f) x _ _ _ _
        (λ up. rw (up r, ← over_words_lem fr (fresh t') vt (fresh w ◂ us) f' u', ← over_times fr (fresh t') vt (fresh w ◂ us))
        (pass_link fr (fresh t') vt f f' (omega (arith, e'.burnt)) p i (sequence_from child (event G r) (fresh w) us (world_at G f' u')) _
        (seq_link us (over fr (fresh t') vt) r (fresh w) p (i + 1) k f' u' (vw, vs.1.1) e'.few (omega arith))))
        (went u' (still e') ((vt, (vw, vs.1.1)), omega arith) refl refl))
  ]

  -- from the place i on; before the frame are j children
  at_link : (ts : Forest) (i : ℕ) (fr : Frame G d) (x : Float) (p j k f u : ℕ)
      → All fr ts
      → u + f ≤ G.fuel
      → i < count ts
      → count ts ≤ k
      → Sim (suc f) (kids p j fr) (sequence_at child i (event G x) ts (world_at G f u)) (on fr ts f u (sequence_go v p fr.stop k (spot G i fr.q) (j + i) x))
  unfolding sequence_at run
  at_link [] i fr x p j k f u vs e l n = absurd (not-suc-le-zero l)
  at_link (t ◂ ts) zero fr x p j k f u vs e l n = rw (add-zero j) (seq_link ts fr x t p j k f u vs e n)
  at_link (t ◂ ts) (suc i) fr x p j k f u vs e l n = rw (← shift j i, ← over_words_lem fr t vs.0 ts f u, ← over_times fr t vs.0 ts)
      (pass_link fr t vs.0 f f (omega arith) p j (sequence_at child i (event G x) ts (world_at G f u)) _
      (at_link ts i (over fr t vs.0) x p (j + 1) k f u vs.1 e (le_of_suc-le-suc l) (omega arith)))

  over_link : (ts : Forest) (p : ℕ) (e : Event) (w : World) → count ts ≤ p → sequence_at child p e ts w ≡ waiting (p, ts) w
  unfolding sequence_at
  over_link [] p e w h = refl
  over_link (t ◂ ts) zero e w h = absurd (not-suc-le-zero h)
  over_link (t ◂ ts) (suc p) e w h = rw (over_link ts p e w (le_of_suc-le-suc h))

  pub sequence_link : (fr : Frame G d) (ts : Forest) (x : Float) (p i f u : ℕ)
      → All fr ts
      → u + f ≤ G.fuel
      → Heads fr ts f u p i
      → i ≤ count ts
      → count ts ≤ 256
      → Sim (suc f) (kids p 0 fr) (sequence_at child i (event G x) ts (world_at G f u)) (on fr ts f u (sequence v p x))
  unfolding sequence
  sequence_link fr ts x p i f u vs e z l n = rw (z.ends, z.place, z.first) (elim (dec_lt i (count ts)) [
    | yes o ↦ rw (child_at_lem ts i fr f u vs l, lt-leb fr.stop (spot G i fr.q) (spot_less G ts i fr.q fr.stop d vs o)) (rw (zero-add i) at (at_link ts i fr x p 0 256 f u vs e o n))
    | no o ↦
        let o' : count ts ≤ i = omega arith in
        rw (child_past ts i fr f u vs o', le-leb fr.stop fr.stop (omega arith), over_link ts i (event G x) (world_at G f u) o')
        (went u (unspent f u e) (vs, l) (rw (zero-add i, z.kept)) refl)
  ])

  -- ---- Memoryless, over children that are fresh
  mem_link : (us : Forest) (fr : Frame G d) (x : Float) (t : Tree) (k f u : ℕ)
      → All fr (t ◂ us)
      → u + f ≤ G.fuel
      → count us < k
      → Sim (suc f) (trees fr) (memoryless child (event G x) (t ◂ us) (world_at G f u)) (on fr (fresh_all (t ◂ us)) f u (memoryless_go v fr.stop k fr.q x))
  unfolding memoryless memoryless_go run fresh
  mem_link us fr x t zero f u vs e n = absurd (not-suc-le-zero n)
  mem_link [] fr x t (suc k) f u vs e n = sim_visit G d child v g (trees fr) fr (fresh t) [] x f u _ _ (at_fresh G fr.q t d vs.0, vs.1) e elim [
    | Running ↦ λ r t' f' u' v' e'. went u' (still e') (v', vs.1) refl refl
    | Failure ↦ λ r t' f' u' v' e'. went u' (still e') (v', vs.1) refl refl
    | Success ↦ λ r t' f' u' v' e'. rw (
      end_at fr [] f u (fresh t) (at_fresh G fr.q t d vs.0),
      le-leb fr.stop (G.ends fr.q) (omega (arith, vs.1)),
      passed_in (nodes_in fr (t' ◂ [])) (full_length fr (t' ◂ []) (v', vs.1)) G.update f' u' r,
      rest_event G x r,
    )
        (went u' (still e') (v', vs.1) refl refl)
  ]
  mem_link (w ◂ us) fr x t (suc k) f u vs e n =
      let ws : Forest = fresh_all (w ◂ us) in
      let vw = ats_fresh G (G.ends fr.q) (w ◂ us) fr.stop d vs.1 in
      sim_visit G d child v g (trees fr) fr (fresh t) ws x f u _ _ (at_fresh G fr.q t d vs.0, vw) e elim [
        | Running ↦ λ r t' f' u' v' e'. went u' (still e') (v', vw) refl refl
        | Failure ↦ λ r t' f' u' v' e'. went u' (still e') (v', vw) refl refl
        | Success ↦ λ r t' f' u' v' e'.
            let vt : First fr (fresh t') = at_fresh G fr.q t' d v' in
            rw (
              end_at fr ws f u (fresh t) (at_fresh G fr.q t d vs.0),
              lt-leb fr.stop (G.ends fr.q) (ats_less G (G.ends fr.q) w us fr.stop d vs.1),
              fresh_words_lem fr (t' ◂ []) ws (G.ends fr.q) (v', refl) f' u',
              fresh_times_lem fr (t' ◂ []) ws (G.ends fr.q) (v', refl),
              rest_event G x r,
              ← over_words_lem fr (fresh t') vt ws f' u',
              ← over_times fr (fresh t') vt ws,
            )
            (keep_link fr (fresh t') vt f f' (omega (arith, e'.burnt)) (memoryless child (event G r) (w ◂ us) (world_at G f' u')) _
            (mem_link us (over fr (fresh t') vt) r w k f' u' vs.1 e'.few (le_of_suc-le-suc n)))
      ]

  pub memoryless_link : (fr : Frame G d) (ts : Forest) (x : Float) (p i f u : ℕ)
      → All fr ts
      → u + f ≤ G.fuel
      → Heads fr ts f u p i
      → count ts ≤ 256
      → Sim (suc f) (trees fr) (memoryless child (event G x) ts (world_at G f u)) (on fr ts f u (flat.memoryless v p x))
  unfolding memoryless flat.memoryless run
  memoryless_link fr [] x p i f u vs e z n = rw (z.ends, z.first, le-leb fr.stop fr.q (omega (arith, vs)), passed_in (nodes_in fr []) (full_length fr [] vs) G.update f u x)
      (went u (unspent f u e) vs refl refl)
  memoryless_link fr (t ◂ us) x p i f u vs e z n = rw (
    z.ends,
    z.first,
    lt-leb fr.stop fr.q (ats_less G fr.q t us fr.stop d vs),
    fresh_words_lem fr (t ◂ us) [] fr.stop vs f u,
    fresh_times_lem fr (t ◂ us) [] fr.stop vs,
  )
      (mem_link us fr x t 256 f u vs e n)

  -- ---- WhenAll
  when_link : (ts : Forest) (fr : Frame G d) (x : Float) (all : Bool) (least : Float) (k f u : ℕ)
      → All fr ts
      → u + f ≤ G.fuel
      → count ts ≤ k
      → Sim (suc f) (trees fr) (when_all_from child (event G x) all least ts (world_at G f u)) (on fr ts f u (when_all_go v fr.stop x k fr.q all least))
  unfolding when_all_from when_all_go run
  when_link [] fr x true least zero f u vs e n = went u (unspent f u e) vs refl refl
  when_link [] fr x false least zero f u vs e n = went u (unspent f u e) vs refl refl
  when_link [] fr x true least (suc k) f u vs e n = rw (le-ltb fr.q fr.stop (omega (arith, vs))) (went u (unspent f u e) vs refl refl)
  when_link [] fr x false least (suc k) f u vs e n = rw (le-ltb fr.q fr.stop (omega (arith, vs))) (went u (unspent f u e) vs refl refl)
  when_link (t ◂ ts) fr x all least zero f u vs e n = absurd (not-suc-le-zero n)
  when_link (node kd m l c bd us ◂ ts) fr x all least (suc k) f u vs e n =
      let t : Tree = node kd m l c bd us in
      let small : c.mark < 2 = at_mark_small G fr.q kd m l c bd us d vs.0 in
      rw (lt-ltb fr.q fr.stop (ats_less G fr.q t ts fr.stop d vs), word_in fr ts f u t, mark_pack (sizes us) kd c.place c.mark c.anew bd small, unmarked c.mark small)
      (sim_unless (trees fr) (suc f) (eqb c.mark 1) _ _ _ _
      (rw (end_at fr ts f u t vs.0, ← over_words_lem fr t vs.0 ts f u, ← over_times fr t vs.0 ts)
      (keep_link fr t vs.0 f f (omega arith) (when_all_from child (event G x) all least ts (world_at G f u)) _
      (when_link ts (over fr t vs.0) x all least k f u vs.1 e (le_of_suc-le-suc n))))
      (sim_visit G d child v g (trees fr) fr t ts x f u _ _ vs e elim [
        | Running ↦ λ r t' f' u' v' e'. rw (end_at fr ts f u t vs.0, ← over_words_lem fr t' v' ts f' u', ← over_times fr t' v' ts)
            (keep_link fr t' v' f f' (omega (arith, e'.burnt)) (when_all_from child (event G x) false least ts (world_at G f' u')) _
            (when_link ts (over fr t' v') x false least k f' u' vs.1 e'.few (le_of_suc-le-suc n)))
        | Failure ↦ λ r t' f' u' v' e'. went u' (still e') (v', vs.1) refl refl
        | Success ↦ λ r t' f' u' v' e'.
            let t'' : Tree = mark (fresh t') in
            let v'' : First fr t'' = at_mark G fr.q (fresh t') d (at_fresh G fr.q t' d v') in
            rw (
              end_at fr ts f u t vs.0,
              fresh_words_lem fr (t' ◂ []) ts (G.ends fr.q) (v', refl) f' u',
              fresh_times_lem fr (t' ◂ []) ts (G.ends fr.q) (v', refl),
              marked_words fr ts f' u' (fresh t'),
              marked_times fr ts (fresh t'),
              ← over_words_lem fr t'' v'' ts f' u',
              ← over_times fr t'' v'' ts,
            )
            (keep_link fr t'' v'' f f' (omega (arith, e'.burnt)) (when_all_from child (event G x) all (smaller least r) ts (world_at G f' u')) _
            (when_link ts (over fr t'' v'') x all (smaller least r) k f' u' vs.1 e'.few (le_of_suc-le-suc n)))
      ]))

  pub when_all_link : (fr : Frame G d) (ts : Forest) (top x : Float) (p i f u : ℕ)
      → All fr ts
      → u + f ≤ G.fuel
      → Heads fr ts f u p i
      → count ts ≤ 256
      → Sim (suc f) (trees fr) (when_all child top (event G x) ts (world_at G f u)) (on fr ts f u (flat.when_all v top p x))
  unfolding when_all flat.when_all
  when_all_link fr [] top x p i f u vs e z n = rw (z.ends, z.first, le-leb fr.stop fr.q (omega (arith, vs)), passed_in (nodes_in fr []) (full_length fr [] vs) G.update f u x)
      (went u (unspent f u e) vs refl refl)
  when_all_link fr (t ◂ ts) top x p i f u vs e z n = rw (z.ends, z.first, lt-leb fr.stop fr.q (ats_less G fr.q t ts fr.stop d vs)) (when_link (t ◂ ts) fr x true top 256 f u vs e n)

  -- ---- Race
  race_go_link : (ts : Forest) (fr : Frame G d) (x : Float) (k f u : ℕ)
      → All fr ts
      → u + f ≤ G.fuel
      → count ts ≤ k
      → Sim (suc f) (trees fr) (race_from child (event G x) ts (world_at G f u)) (on fr ts f u (race_go v fr.stop x k fr.q))
  unfolding race_from race_go run
  race_go_link [] fr x zero f u vs e n = went u (unspent f u e) vs refl refl
  race_go_link [] fr x (suc k) f u vs e n = rw (le-ltb fr.q fr.stop (omega (arith, vs))) (went u (unspent f u e) vs refl refl)
  race_go_link (t ◂ ts) fr x zero f u vs e n = absurd (not-suc-le-zero n)
  race_go_link (t ◂ ts) fr x (suc k) f u vs e n = rw (lt-ltb fr.q fr.stop (ats_less G fr.q t ts fr.stop d vs))
      (sim_visit G d child v g (trees fr) fr t ts x f u _ _ vs e elim [
        | Running ↦ λ r t' f' u' v' e'. rw (end_at fr ts f u t vs.0, ← over_words_lem fr t' v' ts f' u', ← over_times fr t' v' ts)
            (keep_link fr t' v' f f' (omega (arith, e'.burnt)) (race_from child (event G x) ts (world_at G f' u')) _ (race_go_link ts (over fr t' v') x k f' u' vs.1 e'.few (le_of_suc-le-suc n)))
        | Success ↦ λ r t' f' u' v' e'. went u' (still e') (v', vs.1) refl refl
        | Failure ↦ λ r t' f' u' v' e'. went u' (still e') (v', vs.1) refl refl
      ])

  pub race_link : (fr : Frame G d) (ts : Forest) (x : Float) (p i f u : ℕ)
      → All fr ts
      → u + f ≤ G.fuel
      → Heads fr ts f u p i
      → count ts ≤ 256
      → Sim (suc f) (trees fr) (race_from child (event G x) ts (world_at G f u)) (on fr ts f u (race v p x))
  unfolding race
  race_link fr ts x p i f u vs e z n = rw (z.ends, z.first) (race_go_link ts fr x 256 f u vs e n)

  -- ---- After, once a child is Running: the place stays
  late_link : (ts : Forest) (fr : Frame G d) (x least : Float) (p i k f u : ℕ)
      → All fr ts
      → u + f ≤ G.fuel
      → count ts ≤ k
      → Sim (suc f) (held p i fr) (after_from child (event G x) false least ts (world_at G f u)) (on fr ts f u (after_go v p fr.stop x k fr.q i false least))
  unfolding after_from after_go after_over run
  late_link [] fr x least p i zero f u vs e n = went u (unspent f u e) vs refl refl
  late_link [] fr x least p i (suc k) f u vs e n = rw (le-ltb fr.q fr.stop (omega (arith, vs))) (went u (unspent f u e) vs refl refl)
  late_link (t ◂ ts) fr x least p i zero f u vs e n = absurd (not-suc-le-zero n)
  late_link (t ◂ ts) fr x least p i (suc k) f u vs e n = rw (lt-ltb fr.q fr.stop (ats_less G fr.q t ts fr.stop d vs))
      (sim_visit G d child v g (held p i fr) fr t ts x f u _ _ vs e elim [
        | Running ↦ λ r t' f' u' v' e'. rw (end_at fr ts f u t vs.0, ← over_words_lem fr t' v' ts f' u', ← over_times fr t' v' ts)
            (sim_keep (held p i (over fr t' v')) (suc f') (held p i fr) (suc f) (after_from child (event G x) false zero_time ts (world_at G f' u')) _ (λ y. (0, t' ◂ y.1))
            (late_link ts (over fr t' v') x zero_time p i k f' u' vs.1 e'.few (le_of_suc-le-suc n))
            (omega (arith, e'.burnt))
            λ y f'' u'' vy. ((v', vy), rw (over_words_lem fr t' v' y.1 f'' u''), over_times fr t' v' y.1))
        | Failure ↦ λ r t' f' u' v' e'. went u' (still e') (v', vs.1) refl refl
        | Success ↦ λ r t' f' u' v' e'. went u' (still e') (v', vs.1) refl refl
      ])

  after_go_link : (ts : Forest) (fr : Frame G d) (x least : Float) (p i k f u : ℕ)
      → All fr ts
      → u + f ≤ G.fuel
      → count ts ≤ k
      → Sim (suc f) (kids p i fr) (after_from child (event G x) true least ts (world_at G f u)) (on fr ts f u (after_go v p fr.stop x k fr.q i true least))
  unfolding after_from after_go after_over run
  after_go_link [] fr x least p i zero f u vs e n = went u (unspent f u e) (vs, omega arith) (rw (add-zero i)) refl
  after_go_link [] fr x least p i (suc k) f u vs e n = rw (le-ltb fr.q fr.stop (omega (arith, vs))) (went u (unspent f u e) (vs, omega arith) (rw (add-zero i)) refl)
  after_go_link (t ◂ ts) fr x least p i zero f u vs e n = absurd (not-suc-le-zero n)
  after_go_link (t ◂ ts) fr x least p i (suc k) f u vs e n = rw (lt-ltb fr.q fr.stop (ats_less G fr.q t ts fr.stop d vs))
      (sim_visit G d child v g (kids p i fr) fr t ts x f u _ _ vs e elim [
        | Running ↦ λ r t' f' u' v' e'. rw (end_at fr ts f u t vs.0, ← over_words_lem fr t' v' ts f' u', ← over_times fr t' v' ts)
            (sim_keep (held p i (over fr t' v')) (suc f') (kids p i fr) (suc f) (after_from child (event G x) false zero_time ts (world_at G f' u')) _ (λ y. (0, t' ◂ y.1))
            (late_link ts (over fr t' v') x zero_time p i k f' u' vs.1 e'.few (le_of_suc-le-suc n))
            (omega (arith, e'.burnt))
            λ y f'' u'' vy. (((v', vy), omega arith), rw (over_words_lem fr t' v' y.1 f'' u'', add-zero i), over_times fr t' v' y.1))
        | Failure ↦ λ r t' f' u' v' e'. went u' (still e') ((v', vs.1), omega arith) (rw (add-zero i)) refl
        | Success ↦ λ r t' f' u' v' e'. rw (end_at fr ts f u t vs.0) (sim_either (kids p i fr) (suc f) (lt r least) _ _ _ _
            (rw (← over_words_lem fr t' v' ts f' u', ← over_times fr t' v' ts)
            (pass_link fr t' v' f f' (omega (arith, e'.burnt)) p i (after_from child (event G x) true r ts (world_at G f' u')) _
            (after_go_link ts (over fr t' v') x r p (i + 1) k f' u' vs.1 e'.few (le_of_suc-le-suc n))))
            (went u' (still e') ((v', vs.1), omega arith) (rw (add-zero i)) refl))
      ])

  after_at_link : (ts : Forest) (i : ℕ) (fr : Frame G d) (top x : Float) (p j k f u : ℕ)
      → All fr ts
      → u + f ≤ G.fuel
      → i ≤ count ts
      → count ts ≤ k
      → Sim (suc f) (kids p j fr) (after_at child top i (event G x) ts (world_at G f u)) (on fr ts f u (after_go v p fr.stop x k (spot G i fr.q) (j + i) true top))
  unfolding after_at run
  after_at_link ts zero fr top x p j k f u vs e l n = rw (add-zero j) (after_go_link ts fr x top p j k f u vs e n)
  after_at_link [] (suc i) fr top x p j k f u vs e l n = absurd (not-suc-le-zero l)
  after_at_link (t ◂ ts) (suc i) fr top x p j k f u vs e l n = rw (← shift j i, ← over_words_lem fr t vs.0 ts f u, ← over_times fr t vs.0 ts)
      (pass_link fr t vs.0 f f (omega arith) p j (after_at child top i (event G x) ts (world_at G f u)) _
      (after_at_link ts i (over fr t vs.0) top x p (j + 1) k f u vs.1 e (le_of_suc-le-suc l) (omega arith)))

  pub after_link : (fr : Frame G d) (ts : Forest) (top x : Float) (p i f u : ℕ)
      → All fr ts
      → u + f ≤ G.fuel
      → Heads fr ts f u p i
      → i ≤ count ts
      → count ts ≤ 256
      → Sim (suc f) (kids p 0 fr) (after_at child top i (event G x) ts (world_at G f u)) (on fr ts f u (after v top p x))
  unfolding after
  after_link fr ts top x p i f u vs e z l n = rw (z.ends, z.place, z.first, child_at_lem ts i fr f u vs l) (rw (zero-add i) at (after_at_link ts i fr top x p 0 256 f u vs e l n))
