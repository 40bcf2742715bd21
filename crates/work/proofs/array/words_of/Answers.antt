-- The fold over the sixteen words.
use Rattle.std.proofs.Common.{sym, ◌≡◌, rules, subst, ◌+◌, ◌-◌, arith}
use borrow.Author.Tests.{tests}
use borrow.Rule.Slice.PartMut.{mid_of}
use lib.Bits.{bit_or}
use Rattle.std.proofs.lemmas.Iterator.{YieldsList-from_slice}
use Rattle.std.proofs.lemmas.Iterator.Consumers.{fold_from_yields_List}
use Rattle.work.specs.Array.{word_at, Covered}
use Rattle.work.proofs.Laws.{covered_part}
use Rattle.work.proofs.array.words_of.Goals as goal

pub returns : goal.returns
returns c i h =
    let at = c.args.at in
    let ws = c.args.work.now in
    let words = YieldsList-from_slice (mid_of at (at + 16 - at) ws) (cc) in
    let folded = fold_from_yields_List _ bit_or 0 c.fold.result c.fold.ensures.ran words (λ a x b q k. search (rules, tests)) in
    let k : at + 16 - at ≡ 16 = omega arith in
    subst (λ r. Covered (word_at ws (at + i)) r) (sym (rw k at folded)) (covered_part ws at 16 i 0 h (omega arith))
