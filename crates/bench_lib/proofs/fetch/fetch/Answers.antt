-- The bytes in front stay, and what is behind them is what was read.
use Rattle.std.proofs.Common.{◌≡◌, ℕ, ◌+◌, ◌-◌, ◌≤◌, List, ◌++◌, arith, length, take, drop, sym, ap, ap₂, ◌∙◌, subst, length-take, length-drop, length-take-le, take-add, take_at, drop_at}
use Rattle.std.proofs.Math.Seq.{slice, take-append-le}
use borrow.Rule.Slice.PartMut.{put_mid, post_of, same_len_mid}
use Rattle.std.specs.Io.KnownBytes.{Consumes}
use Rattle.bench_lib.proofs.fetch.fetch.Goals as goal

-- the first n of the bytes put behind the first k
behind : (k n : ℕ) (s room : List ℕ) → k ≤ length s → n ≤ length room → take n room ≡ slice k (k + n) (put_mid k (length s - k) s room)
behind k n s room h f =
    let front = take k s in
    let after = post_of k (length s - k) s in
    let rest = room ++ after in
    let long = length-take-le k s h in
    sym
    (ap (drop k)
    (take-add k n (front ++ rest)
    ∙ ap₂ (λ (x y : List ℕ). x ++ take n y) (take_at front rest k long) (drop_at front rest k long))
    ∙ drop_at front (take n rest) k long
    ∙ take-append-le n room after f)

pub returns-clause-ok : goal.returns-clause-ok
returns-clause-ok g c =
    let k = c.args.kept in
    let s = c.args.input.now in
    let room = c.read.new.buf in
    let n = c.in_ok-got.got in
    let same = same_len_mid k (length s - k) s room c.read.auto.buf in
    let long = simp (length-take, length-drop) at c.read.auto.buf in
    let fits : n ≤ length room = c.in_ok-got.ensures.bound.0 in
    record {
      fetches = record {
        behind = omega arith;
        within = omega arith;
        bytes = take_at (take k s) _ k (length-take-le k s c.requires);
      };
      took = subst (Consumes _ _) (behind k n s room c.requires fits) c.in_ok-got.ensures.bytes.0;
      ended = λ e l. c.in_ok-got.ensures.bytes.1 (omega arith) (omega arith);
    }
