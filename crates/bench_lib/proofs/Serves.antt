-- One line after another: what was printed so far, and what is still to come.
use Rattle.std.proofs.Common.{◌≡◌, sym, ap, ◌∙◌, Bool, true, cond, Some, List, [], ◌∷◌, ◌++◌, append_assoc}
use Rattle.std.proofs.Common.{ℕ, ◌+◌, ◌-◌, ◌≤◌, arith, length, take, drop, length-append, length-take-le, take_at, drop-drop}
use borrow.Rule.Slice.PartMut.{put_mid}
use Rattle.std.proofs.Math.Seq.{slice}
use Rattle.std.proofs.lemmas.Slice.{between_is}
use Rattle.bench_line.specs.Bench.{Line, State, step, after, cut, from}
use Rattle.bench_line.specs.Held.{Prints, Steps}
use Rattle.bench_lib.specs.Served.{Ends, Serves}

after_more : (s : State) (l : Line) (ls : List Line) → s.on ≡ true → after s (l ∷ ls) ≡ (step s l).1 ++ after (step s l).0 ls
unfolding after
after_more s l ls on = ap (λ b. cond b ((step s l).1 ++ after (step s l).0 ls) []) on

serves_more : (last : Bool) (s₀ s : State) (u₀ out u : List ℕ) (n : ℕ)
    → s.on ≡ true
    → Ends u last (Some n)
    → Serves last s₀ u₀ out s u
    → let r = step s (take n u) in
    Serves last s₀ u₀ (out ++ r.1) r.0 (drop n u)
unfolding from
serves_more last s₀ s u₀ out u n on ends serves =
    let r = step s (take n u) in
    record {
      so =
          λ more b.
          let ls = cut (drop n u ++ more) in
          serves.so more b
          ∙ ap (λ x. out ++ after s x) (ends.2 more b)
          ∙ ap (λ x. out ++ x) (after_more s (take n u) ls on)
          ∙ sym (append_assoc out r.1 (after r.0 ls));
    }

-- a line printed behind what was printed before
printed_more : (out room room' : List ℕ) {l : Line} (w k : ℕ) {n : ℕ} → w ≤ length out → Prints l room n room'
    → take (w + n) (put_mid w k out room') ≡ take w out ++ l
printed_more out room room' {l} w k {n} h p =
    let front = take w out in
    let rest = drop (length l) room ++ drop k (drop w out) in
    let whole : put_mid w k out room' ≡ (front ++ l) ++ rest =
    ap (λ x. front ++ (x ++ drop k (drop w out))) p.bytes
    ∙ ap (λ x. front ++ x) (append_assoc l (drop (length l) room) (drop k (drop w out)))
    ∙ sym (append_assoc front l rest) in
    ap (take (w + n)) whole
    ∙ take_at (front ++ l) rest (w + n) (omega (arith, p.count, length-append front l, length-take-le w out h))

-- one line more was served
pub serves_line : (last : Bool) (s₀ s s' : State) (u₀ input : List ℕ) (start end n : ℕ) (output room room' : List ℕ) (w k p : ℕ)
    → s.on ≡ true
    → w ≤ length output
    → Ends (take (end - start) (drop start input)) last (Some n)
    → Serves last s₀ u₀ (take w output) s (slice start end input)
    → Steps s (take n (take (end - start) (drop start input))) room p s' room'
    → Serves last s₀ u₀ (take (w + p) (put_mid w k output room')) s' (slice (start + n) end input)
serves_line last s₀ s s' u₀ input start end n output room room' w k p on h ends serves steps =
    let u = slice start end input in
    let same : take (end - start) (drop start input) ≡ u = between_is input start end in
    rw (steps.state, printed_more output room room' w k h steps.prints, same, ← drop-drop n start (take end input))
    (serves_more last s₀ s u₀ (take w output) u n on (rw same at ends) serves)
