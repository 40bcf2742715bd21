use Rattle.std.proofs.Common.{◌≡◌, ℕ, ◌+◌, ◌-◌, ◌≤◌, List, ◌++◌, arith, length, take, sym, ap, ap₂, ◌∙◌, subst, length-take, length-drop, length-take-le, take-add, take_at, drop_at}
use Rattle.std.proofs.Math.Seq.{take-append-le}
use borrow.Rule.Slice.PartMut.{put_mid, post_of, same_len_mid}
use Rattle.std.specs.Io.KnownBytes.{Consumes}
use Rattle.std.proofs.KnownBytes.{Consumes-trans}
use Rattle.give_up.proofs.input.fill.Goals as goal

-- n more bytes behind the first k
more : (k n : ℕ) (s room : List ℕ) → k ≤ length s → n ≤ length room → take k s ++ take n room ≡ take (k + n) (put_mid k (length s - k) s room)
more k n s room h f =
    let front = take k s in
    let after = post_of k (length s - k) s in
    let rest = room ++ after in
    let long = length-take-le k s h in
    sym (
    take-add k n (front ++ rest)
    ∙ ap₂ (λ (x y : List ℕ). x ++ take n y) (take_at front rest k long) (drop_at front rest k long)
    ∙ ap (λ x. front ++ x) (take-append-le n room after f)
    )

pub loop-done-preserved : goal.loop-done-preserved
loop-done-preserved g c =
    let k = c.loop-done.done in
    let s = c.loop-done.room in
    let room = c.read.new.buf in
    let n = c.in_ok-n.n in
    let same = same_len_mid k (length s - k) s room c.read.auto.buf in
    let long = simp (length-take, length-drop) at c.read.auto.buf in
    let fits : n ≤ length room = c.in_ok-n.ensures.bound.0 in
    record {
      within = omega arith;
      took =
          subst (Consumes _ _) (more k n s room c.loop-done.invariant.within fits)
          (Consumes-trans _ _ _ _ _ c.loop-done.invariant.took c.in_ok-n.ensures.bytes.0);
    }
