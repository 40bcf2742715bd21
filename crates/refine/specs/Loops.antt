-- While's body and WhileAll give what the rules give.
use Rattle.std.specs.Prelude.{◌≡◌, Bool, true, false, List, ltb, Float}
use Rattle.std.proofs.Math.Path.{refl}
use Rattle.std.proofs.Math.Bool.{cond}
use Prim.Native.Nat.{ℕ, zero, suc, ◌+◌, ◌-◌, ◌≤◌, ◌<◌}
use Rattle.std.proofs.Common.{not-suc-le-zero, le_of_suc-le-suc}
use Rattle.std.proofs.Math.Nat.{zero-add}
use Rattle.std.proofs.Math.Numerals.{add-one}
use Rattle.std.proofs.Math.Decide.{dec_lt}
use native.Mathlib.Omega.{arith}
use Rattle.std.proofs.Math.Dec.{eqb-suc-zero}
use borrow.Author.Tests.{lt-ltb, le-ltb}
use Rattle.rules.specs.declared.status.Status.{Status}
use Rattle.rules.specs.declared.status.Status.TheVariants.{Running, Success, Failure}
use Rattle.rules.specs.declared.event.Event.{Event}
use Rattle.rules.specs.Tree.{Tree, Forest, [], ◌◂◌, fresh, count}
use Rattle.rules.specs.Outcome.{World, world, short, Ticker}
use Rattle.rules.specs.Loops.{put, fresh_at, next, moved, child_at, while_body, while_all}
use Rattle.work.specs.Array.{end_of, fresh_words, fresh_times, child_from}
use Rattle.work.specs.Flat.{Step, Visitor, while_go, while_all_go}
use Rattle.work.specs.Flat as flat
use Rattle.refine.specs.Runs.{run, updates_in}
use Rattle.refine.specs.Stand.{Given, ats_count, ats_fresh_at, spot, spot_less, spot_last, spot_after}
use Rattle.refine.specs.Frame.{Frame, nodes_in, words_in, times_in, All, full_length, over, over_words_lem, over_times, end_at, fresh_words_lem, fresh_times_lem, child_at_lem, child_past}
use Rattle.refine.specs.Sim.{View, Sim, world_at, event, rest_event, went, still, sim_bind, sim_same, sim_more, sim_event, stopped_in, on, tree, Ticks, Dry, sim_visit}
use Rattle.refine.specs.Drivers.{kids}

-- the index behind the last is 0
next_less : (i m : ℕ) → i < m → cond (ltb (suc i) m) (suc i) 0 < m
next_less i m h = elim (dec_lt (suc i) m) [
  | yes l ↦ rw (lt-ltb (suc i) m l) l
  | no l ↦ rw (le-ltb (suc i) m (omega arith)) (omega arith)
]

next_most : (j m : ℕ) → cond (ltb (suc j) m) (suc (suc j)) 0 ≤ m
next_most j m = elim (dec_lt (suc j) m) [
  | yes l ↦ rw (lt-ltb (suc j) m l) l
  | no l ↦ rw (le-ltb (suc j) m (omega arith)) (omega arith)
]

module _ {G : Given} {d : ℕ} where
  -- ---- the child i of the frame's trees: where it ends, and it made fresh
  pub end_spot : (ts : Forest) (i : ℕ) (fr : Frame G d) (f u : ℕ) → All fr ts → i < count ts → end_of (words_in fr ts f u) (spot G i fr.q) ≡ G.ends (spot G i fr.q)
  end_spot [] i fr f u vs l = absurd (not-suc-le-zero l)
  end_spot (t ◂ ts) zero fr f u vs l = end_at fr ts f u t vs.0
  end_spot (t ◂ ts) (suc i) fr f u vs l = rw (← over_words_lem fr t vs.0 ts f u) (end_spot ts i (over fr t vs.0) f u vs.1 (le_of_suc-le-suc l))

  pub spot_words : (ts : Forest) (i : ℕ) (fr : Frame G d) (f u : ℕ) → All fr ts → i < count ts
      → fresh_words (spot G i fr.q) (G.ends (spot G i fr.q) - spot G i fr.q) (words_in fr ts f u) ≡ words_in fr (fresh_at i ts) f u
  unfolding run fresh
  spot_words [] i fr f u vs l = absurd (not-suc-le-zero l)
  spot_words (t ◂ ts) zero fr f u vs l = fresh_words_lem fr (t ◂ []) ts (G.ends fr.q) (vs.0, refl) f u
  spot_words (t ◂ ts) (suc i) fr f u vs l = rw
      (← over_words_lem fr t vs.0 ts f u, ← over_words_lem fr t vs.0 (fresh_at i ts) f u)
      (spot_words ts i (over fr t vs.0) f u vs.1 (le_of_suc-le-suc l))

  pub spot_times : (ts : Forest) (i : ℕ) (fr : Frame G d) → All fr ts → i < count ts
      → fresh_times (spot G i fr.q) (G.ends (spot G i fr.q) - spot G i fr.q) (times_in fr ts) ≡ times_in fr (fresh_at i ts)
  unfolding run fresh
  spot_times [] i fr vs l = absurd (not-suc-le-zero l)
  spot_times (t ◂ ts) zero fr vs l = fresh_times_lem fr (t ◂ []) ts (G.ends fr.q) (vs.0, refl)
  spot_times (t ◂ ts) (suc i) fr vs l = rw (← over_times fr t vs.0 ts, ← over_times fr t vs.0 (fresh_at i ts)) (spot_times ts i (over fr t vs.0) vs.1 (le_of_suc-le-suc l))

  -- ---- the child i has succeeded: it and the next one are made fresh
  module _ (fr : Frame G d) (ts : Forest) (i : ℕ) (t' : Tree) (vs : All fr ts) (vp : All fr (put i t' ts)) (l : i < count ts) where
    moved_ats : All fr (moved i t' ts)
    moved_ats = ats_fresh_at G (fresh_at i (put i t' ts)) (next i ts) fr.q fr.stop d (ats_fresh_at G (put i t' ts) i fr.q fr.stop d vp)

    moved_count : count (moved i t' ts) ≡ count ts
    moved_count = ats_count G fr.q (moved i t' ts) ts fr.stop d moved_ats vs

    moved_link : (f u m : ℕ) (again : ℕ → ℕ → Step)
        → flat.moved fr.stop fr.q again (spot G i fr.q) m (words_in fr (put i t' ts) f u) (times_in fr (put i t' ts))
        ≡ again (spot G (next i ts) fr.q) (cond (ltb (suc i) (count ts)) (suc m) 0) (words_in fr (moved i t' ts) f u) (times_in fr (moved i t' ts))
    unfolding flat.moved
    moved_link f u m again =
        let l₁ : i < count (put i t' ts) = omega (arith, ats_count G fr.q (put i t' ts) ts fr.stop d vp vs) in
        let ts₁ : Forest = fresh_at i (put i t' ts) in
        let vs₁ : All fr ts₁ = ats_fresh_at G (put i t' ts) i fr.q fr.stop d vp in
        let l₂ : next i ts < count ts₁ = rw (ats_count G fr.q ts₁ ts fr.stop d vs₁ vs) (next_less i (count ts) l) in
        rw (
          end_spot (put i t' ts) i fr f u vp l₁,
          spot_words (put i t' ts) i fr f u vp l₁,
          spot_times (put i t' ts) i fr vp l₁,
          spot_last G ts i fr.q fr.stop d vs l,
          add-one m,
          spot_after G (ltb (suc i) (count ts)) i fr.q,
          end_spot ts₁ (next i ts) fr f u vs₁ l₂,
          spot_words ts₁ (next i ts) fr f u vs₁ l₂,
          spot_times ts₁ (next i ts) fr vs₁ l₂,
        )
        refl

  -- the child i, put back
  abbrev pub puts : Frame G d → ℕ → Forest → View G Tree
  puts fr i ts = record { good = λ t. All fr (put i t ts); words = λ t f u. words_in fr (put i t ts) f u; times = λ t. times_in fr (put i t ts) }

module _ (G : Given) (d : ℕ) (child : Ticker) (v : Visitor) (g : Ticks G d child v) where
  pub child_link : (ts : Forest) (i : ℕ) (fr : Frame G d) (x : Float) (f u : ℕ)
      → All fr ts
      → u + f ≤ G.fuel
      → i < count ts
      → Sim f (puts fr i ts) (child_at child i (event G x) ts (world_at G f u)) (on fr ts f u (v (spot G i fr.q) x))
  child_link [] i fr x f u vs e l = absurd (not-suc-le-zero l)
  child_link (t ◂ ts) zero fr x f u vs e l =
      sim_same (tree fr ts) (puts fr 0 (t ◂ ts)) f f (child t (event G x) (world_at G f u)) _ (g fr t ts x f u vs e) (omega arith) λ t' f' u' v'. ((v', vs.1), refl, refl)
  child_link (t ◂ ts) (suc i) fr x f u vs e l = rw (← over_words_lem fr t vs.0 ts f u, ← over_times fr t vs.0 ts)
      (sim_same (puts (over fr t vs.0) i ts) (puts fr (suc i) (t ◂ ts)) f f (child_at child i (event G x) ts (world_at G f u)) _
      (child_link ts i (over fr t vs.0) x f u vs.1 e (le_of_suc-le-suc l))
      (omega arith)
      λ t' f' u' v'. ((vs.0, v'), over_words_lem fr t vs.0 (put i t' ts) f' u', over_times fr t vs.0 (put i t' ts)))

  past_link : (ts : Forest) (p : ℕ) (e : Event) (w : World) → count ts ≤ p → child_at child p e ts w ≡ short
  past_link [] p e w h = refl
  past_link (t ◂ ts) zero e w h = absurd (not-suc-le-zero h)
  past_link (t ◂ ts) (suc p) e w h = past_link ts p e w (le_of_suc-le-suc h)

  module _ (dry : Dry child) where
    dry_at : (ts : Forest) (i : ℕ) (e : Event) (ans : List (Status × Float)) → child_at child i e ts (world 0 ans) ≡ short
    dry_at [] i e ans = refl
    dry_at (t ◂ ts) zero e ans = dry t e ans
    dry_at (t ◂ ts) (suc i) e ans = dry_at ts i e ans

    -- ---- While's body: no more fuel than k, and less than the budget
    body_go_link : (k budget i : ℕ) (fr : Frame G d) (x : Float) (ts : Forest) (p f u : ℕ)
        → All fr ts
        → u + f ≤ G.fuel
        → f ≤ k
        → f < budget
        → i < count ts
        → Sim (suc f) (kids p 0 fr) (while_body child budget i (event G x) ts (world_at G f u)) (on fr ts f u (while_go v p fr.stop fr.q k (spot G i fr.q) i x))
    unfolding while_body while_go
    body_go_link k zero i fr x ts p f u vs e lk lb l = absurd (not-suc-le-zero lb)
    body_go_link zero (suc budget) i fr x ts p zero u vs e lk lb l = rw (dry_at ts i (event G x) _) (stopped_in fr ts vs 0 u)
    body_go_link zero (suc budget) i fr x ts p (suc f) u vs e lk lb l = absurd (not-suc-le-zero lk)
    body_go_link (suc k) (suc budget) i fr x ts p f u vs e lk lb l =
        let within : (t' : Tree) → All fr (put i t' ts) → i ≤ count (put i t' ts) = λ t' v'. omega (arith, ats_count G fr.q (put i t' ts) ts fr.stop d v' vs) in
        rw (lt-ltb (spot G i fr.q) fr.stop (spot_less G ts i fr.q fr.stop d vs l))
        (sim_bind (puts fr i ts) f (kids p 0 fr) (suc f) (child_at child i (event G x) ts (world_at G f u)) _ _ _ (child_link ts i fr x f u vs e l) elim [
          | Running ↦ λ r t' f' u' v' e'. went u' (still e') (v', within t' v') (rw (zero-add i)) refl
          | Failure ↦ λ r t' f' u' v' e'. went u' (still e') (v', within t' v') (rw (zero-add i)) refl
          | Success ↦ λ r t' f' u' v' e'. rw (updates_in (nodes_in fr (put i t' ts)) (full_length fr (put i t' ts) v') G.update f' u')
              (sim_event (kids p 0 fr) (suc f) x _ _ _ _
              (λ up. rw (up r, moved_link fr ts i t' vs v' l f' u' i (λ q' i'. while_go v p fr.stop fr.q k q' i' r))
              (sim_more (kids p 0 fr) (suc f') (suc f) (while_body child budget (next i ts) (event G r) (moved i t' ts) (world_at G f' u')) _
              (body_go_link k budget (next i ts) fr r (moved i t' ts) p f' u' (moved_ats fr ts i t' vs v' l) e'.few (omega (arith, e'.burnt)) (omega (arith, e'.burnt))
              (rw (moved_count fr ts i t' vs v' l) (next_less i (count ts) l)))
              (omega (arith, e'.burnt))))
              (went u' (still e') (v', within t' v') (rw (zero-add i)) refl))
        ])

    go_past : (k p stop q i : ℕ) (x : Float) (ws : List ℕ) (ts : List Float) → while_go v p stop q k stop i x ws ts ≡ flat.stopped ws ts
    unfolding while_go
    go_past zero p stop q i x ws ts = refl
    go_past (suc k) p stop q i x ws ts = rw (le-ltb stop stop (omega arith))

    pub body_link : (budget i : ℕ) (fr : Frame G d) (x : Float) (ts : Forest) (p f u : ℕ)
        → All fr ts
        → u + f ≤ G.fuel
        → f ≤ budget
        → Sim (suc f) (kids p 0 fr) (while_body child (suc budget) i (event G x) ts (world_at G f u))
        (on fr ts f u (while_go v p fr.stop fr.q f (child_from (words_in fr ts f u) fr.stop i fr.q) i x))
    unfolding while_body
    body_link budget i fr x ts p f u vs e lb = elim (dec_lt i (count ts)) [
      | yes l ↦ rw (child_at_lem ts i fr f u vs (omega arith)) (body_go_link f (suc budget) i fr x ts p f u vs e (omega arith) (omega arith) l)
      | no l ↦
          let o : count ts ≤ i = omega arith in
          rw (child_past ts i fr f u vs o, go_past f p fr.stop fr.q i x (words_in fr ts f u) (times_in fr ts), past_link ts i (event G x) (world_at G f u) o) (stopped_in fr ts vs f u)
    ]

    -- ---- WhileAll: the condition c is due at place 0, and the body's child j at place j + 1
    next_at : (c : Bool) (j j' q : ℕ) → cond c (suc (suc j)) 0 ≡ suc j' → spot G (cond c (suc j) 0) q ≡ spot G j' q
    next_at true j j' q m = rw (let z : suc j ≡ j' = omega arith in z)
    next_at false j j' q m = absurd (omega arith)

    first_at : (j q : ℕ) → 1 ≡ suc j → q ≡ spot G j q
    first_at zero q m = refl
    first_at (suc j) q m = absurd (omega arith)

    all_go_link : (k budget i : ℕ) (fr : Frame G d) (whole x : Float) (c : Tree) (ts : Forest) (p q f u : ℕ)
        → All fr (c ◂ ts)
        → u + f ≤ G.fuel
        → f ≤ k
        → f < budget
        → p + 1 ≡ fr.q
        → i ≤ count ts
        → 0 < count ts
        → ((j : ℕ) → i ≡ suc j → q ≡ spot G j (G.ends fr.q))
        → Sim (suc f) (kids p 0 fr) (while_all child budget (event G whole) i (event G x) c ts (world_at G f u))
        (on fr (c ◂ ts) f u (while_all_go v p fr.stop (G.ends fr.q) whole k q i x))
    unfolding while_all while_all_go run
    all_go_link k zero i fr whole x c ts p q f u vs e lk lb z l m at = absurd (not-suc-le-zero lb)
    all_go_link zero (suc budget) i fr whole x c ts p q (suc f) u vs e lk lb z l m at = absurd (not-suc-le-zero lk)
    all_go_link zero (suc budget) zero fr whole x c ts p q zero u vs e lk lb z l m at = rw (dry c (event G whole) _) (stopped_in fr (c ◂ ts) vs 0 u)
    all_go_link zero (suc budget) (suc i) fr whole x c ts p q zero u vs e lk lb z l m at = rw (dry_at ts i (event G x) _) (stopped_in fr (c ◂ ts) vs 0 u)
    all_go_link (suc k) (suc budget) zero fr whole x c ts p q f u vs e lk lb z l m at = rw z (sim_visit G d child v g (kids p 0 fr) fr c ts whole f u _ _ vs e elim [
      | Running ↦ λ r c' f' u' v' e'. sim_more (kids p 0 fr) (suc f') (suc f) (while_all child budget (event G whole) 1 (event G x) c' ts (world_at G f' u')) _
          (all_go_link k budget 1 fr whole x c' ts p (G.ends fr.q) f' u' (v', vs.1) e'.few (omega (arith, e'.burnt)) (omega (arith, e'.burnt)) z m m (λ j y. first_at j (G.ends fr.q) y))
          (omega (arith, e'.burnt))
      | Success ↦ λ r c' f' u' v' e'. went u' (still e') ((v', vs.1), omega arith) refl refl
      | Failure ↦ λ r c' f' u' v' e'. went u' (still e') ((v', vs.1), omega arith) refl refl
    ])
    all_go_link (suc k) (suc budget) (suc i) fr whole x c ts p q f u vs e lk lb z l m at =
        let fr' : Frame G d = over fr c vs.0 in
        let within : (t' : Tree) → All fr' (put i t' ts) → suc i ≤ suc (count (put i t' ts)) = λ t' v'. omega (arith, ats_count G fr'.q (put i t' ts) ts fr.stop d v' vs.1) in
        rw (eqb-suc-zero i, at i refl, lt-ltb (spot G i fr'.q) fr.stop (spot_less G ts i fr'.q fr.stop d vs.1 l), ← over_words_lem fr c vs.0 ts f u, ← over_times fr c vs.0 ts)
        (sim_bind (puts fr' i ts) f (kids p 0 fr) (suc f) (child_at child i (event G x) ts (world_at G f u)) _ _ _ (child_link ts i fr' x f u vs.1 e l) elim [
          | Running ↦ λ r t' f' u' v' e'. went u' (still e') ((vs.0, v'), within t' v') (rw (over_words_lem fr c vs.0 (put i t' ts) f' u', zero-add (suc i))) (over_times fr c vs.0 (put i t' ts))
          | Failure ↦ λ r t' f' u' v' e'. went u' (still e') ((vs.0, v'), within t' v') (rw (over_words_lem fr c vs.0 (put i t' ts) f' u', zero-add (suc i))) (over_times fr c vs.0 (put i t' ts))
          | Success ↦ λ r t' f' u' v' e'.
              let i' : ℕ = cond (ltb (suc i) (count ts)) (suc (suc i)) 0 in
              let n : count (moved i t' ts) ≡ count ts = moved_count fr' ts i t' vs.1 v' l in
              rw (
                moved_link fr' ts i t' vs.1 v' l f' u' (suc i) (λ q' i'. while_all_go v p fr.stop fr'.q whole k q' i' r),
                rest_event G x r,
                over_words_lem fr c vs.0 (moved i t' ts) f' u',
                over_times fr c vs.0 (moved i t' ts),
              )
              (sim_more (kids p 0 fr) (suc f') (suc f) (while_all child budget (event G whole) i' (event G r) c (moved i t' ts) (world_at G f' u')) _
              (all_go_link k budget i' fr whole r c (moved i t' ts) p (spot G (next i ts) fr'.q) f' u' (vs.0, moved_ats fr' ts i t' vs.1 v' l)
              e'.few (omega (arith, e'.burnt)) (omega (arith, e'.burnt)) z (rw n (next_most i (count ts))) (rw n m) (λ j y. next_at (ltb (suc i) (count ts)) i j fr'.q y))
              (omega (arith, e'.burnt)))
        ])

    all_past : (k p stop q i : ℕ) (whole x : Float) (ws : List ℕ) (ts : List Float) → while_all_go v p stop q whole k stop (suc i) x ws ts ≡ flat.stopped ws ts
    unfolding while_all_go
    all_past zero p stop q i whole x ws ts = refl
    all_past (suc k) p stop q i whole x ws ts = rw (eqb-suc-zero i, le-ltb stop stop (omega arith))

    pub all_link : (i : ℕ) (fr : Frame G d) (x : Float) (c : Tree) (ts : Forest) (p f u : ℕ)
        → All fr (c ◂ ts)
        → u + f ≤ G.fuel
        → p + 1 ≡ fr.q
        → 0 < count ts
        → Sim (suc f) (kids p 0 fr) (while_all child (suc f) (event G x) i (event G x) c ts (world_at G f u))
        (on fr (c ◂ ts) f u (while_all_go v p fr.stop (G.ends fr.q) x f (child_from (words_in fr (c ◂ ts) f u) fr.stop i fr.q) i x))
    unfolding while_all
    all_link zero fr x c ts p f u vs e z m = rw (child_at_lem (c ◂ ts) 0 fr f u vs (omega arith))
        (all_go_link f (suc f) 0 fr x x c ts p fr.q f u vs e (omega arith) (omega arith) z (omega arith) m (λ j y. absurd (omega arith)))
    all_link (suc i) fr x c ts p f u vs e z m = elim (dec_lt i (count ts)) [
      | yes l ↦ rw (child_at_lem (c ◂ ts) (suc i) fr f u vs (omega arith))
          (all_go_link f (suc f) (suc i) fr x x c ts p (spot G i (G.ends fr.q)) f u vs e (omega arith) (omega arith) z l m (λ j y. rw (let w : i ≡ j = omega arith in w)))
      | no l ↦ rw (
        child_past (c ◂ ts) (suc i) fr f u vs (omega arith),
        all_past f p fr.stop (G.ends fr.q) i x x (words_in fr (c ◂ ts) f u) (times_in fr (c ◂ ts)),
        past_link ts i (event G x) (world_at G f u) (omega arith),
      )
          (stopped_in fr (c ◂ ts) vs f u)
    ]
