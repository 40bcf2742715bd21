-- The rows one by one are the tree's.
use borrow.Author.Rules.{rules}
use borrow.Author.Tests.{tests}
use mathlib.Core.Path.{◌∙◌}
use lib.Ieee.{binary64}
use Rattle.std.proofs.lemmas.Iterator.{YieldsList-from_slice, YieldsList-from_zip}
use Rattle.std.proofs.lemmas.Iterator.Search.{all_from_yields_List}
use Rattle.bound.proofs.Rows.{triple_bounded, all_told}
use Rattle.bound.proofs.all_bounded.Goals as goal

pub returns : goal.returns
returns c ends t h =
    let a = c.args.table.now in
    all_from_yields_List (triple_bounded binary64) c.all.new.self _ c.all.result c.all.ensures.ran
    (YieldsList-from_zip (YieldsList-from_zip (YieldsList-from_slice a.kinds.now cc) (YieldsList-from_slice a.ns.now cc)) (YieldsList-from_slice a.limits.now cc))
    (λ x b q k. search (rules, tests)) ∙ all_told binary64 a.kinds.now a.ns.now a.limits.now ends t h.held h.all
