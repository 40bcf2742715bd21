-- A fold below the sign: each that was folded in is below it.
use Rattle.std.specs.List.{zip}
use borrow.Author.Tests.{tests}
use Rattle.std.proofs.Common.{take, rules, arith}
use Rattle.std.proofs.lemmas.Fn.{fold_over, fronts}
use Rattle.std.proofs.lemmas.Iterator.{YieldsList-from_slice, YieldsList-from_zip, zips}
use Rattle.load.proofs.SixteenLaws.{Below, below_push, timed_part}
use Rattle.load.proofs.sixteens.times_of.Goals as goal

pub returns : goal.returns
returns c =
    let ts = take c.args.n c.args.times.now in
    let ls = take c.args.n c.args.limits.now in
    let pairs = YieldsList-from_zip {s = c.zip.result} (YieldsList-from_slice ts (cc)) (YieldsList-from_slice ls (cc)) in
    let all = fold_over (zips fronts fronts) (λ p. (p.0.now, p.1.now)) _ Below _
    (λ ps a x b q j k. let push = below_push ps (x.0.now, x.1.now) a in search (rules, tests))
    c.zip.result (zip ts ls) 0 c.fold.result pairs.runs (λ e k d h. absurd (omega arith)) c.fold.ensures.ran in
    λ h i low. timed_part c.args.n c.args.times.now c.args.limits.now c.requires.0 c.requires.1 (all h) i low
