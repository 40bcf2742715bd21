-- The fold over each time and its limit.
use Rattle.std.proofs.Common.{sym, ◌∙◌, true, rules}
use borrow.Author.Tests.{tests}
use Rattle.std.proofs.lemmas.Iterator.{YieldsList-from_slice, YieldsList-from_zip}
use Rattle.std.proofs.lemmas.Iterator.Consumers.{fold_from_yields_List}
use Rattle.leaves.proofs.WaitLaws.{still, none_ends}
use Rattle.leaves.proofs.waits.none_ends.Goals as goal

pub returns : goal.returns
returns c e =
    let pairs = YieldsList-from_zip (YieldsList-from_slice c.args.times.now (cc)) (YieldsList-from_slice c.args.limits.now (cc)) in
    let folded = fold_from_yields_List _ (still c.args.dt) true c.fold.result c.fold.ensures.ran pairs (λ a x b q k. search (rules, tests)) in
    (none_ends c.args.dt true c.args.times.now c.args.limits.now (sym folded ∙ e)).1
