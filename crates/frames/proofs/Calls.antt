-- A call's line: four fields, its answers, and the line's end.
use mathlib.Core.Path.{◌≡◌, refl, sym, ap, subst, ◌∙◌}
use mathlib.Core.List.{List, [], ◌∷◌, ◌++◌}
use Prim.Native.Nat.{ℕ, ◌≤◌, ◌<◌}
use native.Mathlib.Omega.{arith}
use Rattle.std.specs.Prelude.{Some, None}
use Rattle.frames.specs.Line.{Field, Fit, Good, asked_no, fields, body, answers, event_no, event_time}
use Rattle.frames.specs.Parts.{FieldAt, EventIs, Skips, Ends, Body, ahead}
use Rattle.frames.specs.Back.{value, event_of, asked_of_lem}
use Rattle.frames.specs.declared.Call.{Call}
use Rattle.frames.specs.declared.Event.{Event}
use Rattle.frames.specs.declared.Frame.{Frame}
use Rattle.frames.specs.declared.Frame.TheVariants.{Asked}
use Rattle.frames.proofs.Fields.{widths_of, fields_ahead, ahead_same, lacks, only}
use Rattle.frames.proofs.Runs.{answers_widths}

abbrev front : ℕ → ℕ → ℕ → ℕ → List Field
front a b d k = (2, a) ∷ (16, b) ∷ (8, d) ∷ (4, k) ∷ []

module _ (call : Call) (s : List ℕ) where
  none : ((e : Event) (fuel count : ℕ) (xs ys : List ℕ) → Good (Asked call e fuel count) xs ys
      → fields (body (Asked call e fuel count) xs ys) ≡ s → ⊥) → Body (asked_no call) s None
  none h =
      only (asked_no call) s (λ fs xs ys.
      subst (λ (f : Frame). Good f xs ys → fields (body f xs ys) ≡ s → ⊥) (sym (asked_of_lem call fs))
      (h (event_of fs) (value fs 2) (value fs 3) xs ys))

  -- a field of the four is missing
  pub no_front : (r r' : List ℕ) (gs : List Field) (w : ℕ) (ws : List ℕ) → 2 ∷ 16 ∷ 8 ∷ 4 ∷ [] ≡ widths_of gs ++ (w ∷ ws) → Fit gs → s ≡ ahead gs r
      → FieldAt r w None r' → Body (asked_no call) s None
  no_front r r' gs w ws wide fit e h =
      none (λ v fuel count xs ys g q.
      let f = g.fit in
      lacks s r r' gs w ws fit e h (front (event_no v) (event_time v) fuel count) (fields (answers count 0 xs ys)) wide
      (f.0, (f.1.0, (f.1.1.0, (f.1.1.1.0, tt)))) (sym q))

  module _ (r : List ℕ) (a b d k : ℕ) (fit : Fit (front a b d k)) (there : s ≡ ahead (front a b d k) r) where
    -- a frame whose line it is has the numbers that were read, and its answers come next
    on : (e : Event) (fuel count : ℕ) (xs ys : List ℕ) → Good (Asked call e fuel count) xs ys → fields (body (Asked call e fuel count) xs ys) ≡ s
        → (event_no e ≡ a) × (event_time e ≡ b) × (count ≡ k) × (r ≡ fields (answers k 0 xs ys)) × Fit (answers k 0 xs ys)
    on e fuel count xs ys g q =
        let f = g.fit in
        let h =
        ahead_same (front a b d k) (front (event_no e) (event_time e) fuel count) r (fields (answers count 0 xs ys)) refl fit
        (f.0, (f.1.0, (f.1.1.0, (f.1.1.1.0, tt)))) (sym there ∙ sym q) in
        let same : count ≡ k = sym (ap (λ (fs : List Field). value fs 3) h.0) in (
          sym (ap (λ (fs : List Field). value fs 0) h.0),
          sym (ap (λ (fs : List Field). value fs 1) h.0),
          same,
          h.1 ∙ ap (λ (n : ℕ). fields (answers n 0 xs ys)) same,
          subst (λ (n : ℕ). Fit (answers n 0 xs ys)) same f.1.1.1.1,
        )

    pub too_many : 1024 < k → Body (asked_no call) s None
    too_many h = none (λ e fuel count xs ys g q. omega (arith, g.few, (on e fuel count xs ys g q).2))

    pub no_event : EventIs a b None → Body (asked_no call) s None
    no_event h = none (λ e fuel count xs ys g q. let p = on e fuel count xs ys g q in h e p.0 p.1)

    pub no_answers : (end : List ℕ) → Skips r k None end → Body (asked_no call) s None
    no_answers end h =
        none (λ e fuel count xs ys g q. let p = on e fuel count xs ys g q in h xs ys (10 ∷ []) p.4 (p.3 ∙ fields_ahead (answers k 0 xs ys)))

    module _ (end : List ℕ) (skips : Skips r k (Some tt) end) where
      pub no_end : Ends end None → Body (asked_no call) s None
      no_end h =
          none (λ e fuel count xs ys g q.
          let p = on e fuel count xs ys g q in
          h (ahead_same (answers k 0 skips.0 skips.1) (answers k 0 xs ys) end (10 ∷ []) (answers_widths k 0 skips.0 skips.1 xs ys) skips.4 p.4
          (sym skips.5 ∙ p.3 ∙ fields_ahead (answers k 0 xs ys))).1)

      pub is_asked : (e : Event) → k ≤ 1024 → EventIs a b (Some e) → Ends end (Some tt) → Body (asked_no call) s (Some (Asked call e d k))
      is_asked e few ev h =
          let xs = skips.0 in
          let ys = skips.1 in
          let q : r ≡ fields (answers k 0 xs ys) = skips.5 ∙ ap (ahead (answers k 0 xs ys)) h ∙ sym (fields_ahead (answers k 0 xs ys)) in
          let p : s ≡ ahead (front a b d k) (fields (answers k 0 xs ys)) = there ∙ ap (ahead (front a b d k)) q in (
            refl,
            (
              xs,
              ys,
              record {
                few = few;
                statuses = omega (arith, skips.2);
                leftovers = omega (arith, skips.3);
                fit = (rw ev.0 fit.0, (rw ev.1 fit.1.0, (fit.1.1.0, (fit.1.1.1.0, skips.4))));
              },
              rw (ev.0, ev.1) (sym p),
            ),
          )
