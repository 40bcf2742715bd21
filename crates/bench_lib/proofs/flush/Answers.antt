use Rattle.std.proofs.Common.{◌≡◌, ℕ, ◌+◌, ◌-◌, ◌≤◌, List, ◌++◌, arith, length, take, drop, sym, ap, ◌∙◌, subst, length-take, length-drop, take-take, take-add}
use Rattle.std.specs.Io.KnownBytes.{Appends}
use Rattle.std.proofs.KnownBytes.{Appends-trans}
use Rattle.bench_lib.proofs.flush.Goals as goal

-- n more bytes of the first w, behind d of them
more : (d n w : ℕ) (o : List ℕ) → n ≤ w - d → take d o ++ take n (take (w - d) (drop d o)) ≡ take (d + n) o
more d n w o h = ap (λ l. take d o ++ l) (take-take n (w - d) (drop d o) h) ∙ sym (take-add d n o)

pub loop-done-preserved : goal.loop-done-preserved
loop-done-preserved g c =
    let d = c.loop-done.done in
    let n = c.in_ok-n.n in
    let o = c.args.printed.now in
    let k : n ≤ length o - d = omega (arith, simp (length-take, length-drop) at c.in_ok-n.ensures.bound) in
    record {
      within = omega arith;
      wrote = subst (Appends _ _) (more d n (length o) o k) (Appends-trans _ _ _ _ _ c.loop-done.invariant.wrote c.in_ok-n.ensures.bytes);
    }
