-- The fold over the sixteen elements.
use Rattle.std.proofs.Common.{sym, ◌∙◌, ◌≡◌, true, rules, ◌+◌, ◌-◌, arith}
use borrow.Author.Tests.{tests}
use borrow.Rule.Slice.PartMut.{mid_of}
use Rattle.std.proofs.lemmas.Iterator.{YieldsList-from_slice}
use Rattle.std.proofs.lemmas.Iterator.Consumers.{fold_from_yields_List}
use Rattle.load.proofs.SixteenLaws.{zeros, part_zero}
use Rattle.load.proofs.sixteens.are_zero.Goals as goal

pub returns : goal.returns
returns g c e =
    let at = c.args.at in
    let z = c.args.zero in
    let items = YieldsList-from_slice (mid_of at (at + 16 - at) c.args.items.now) (cc) in
    let folded = fold_from_yields_List _ (zeros g.T.PartialEq.eq z) true c.fold.result c.fold.ensures.ran items (λ a x b q k. search (rules, tests)) in
    let k : at + 16 - at ≡ 16 = omega arith in
    part_zero g.T.PartialEq.eq z at 16 c.args.items.now c.requires (rw k at (sym folded ∙ e))
