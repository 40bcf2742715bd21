-- The place of the first bad pair is that of the first bad answer.
use borrow.Author.Rules.{rules}
use mathlib.Core.Path.{◌∙◌}
use borrow.Author.Tests.{tests}
use Rattle.std.specs.List.{zip}
use Rattle.std.proofs.lemmas.Iterator.{YieldsList-from_slice, YieldsList-from_zip}
use Rattle.std.proofs.lemmas.Iterator.Search.{position_from_yields_List}
use Rattle.std.proofs.lemmas.Iterator.Adapters.{position_from-zero}
use Rattle.tables.proofs.FirstBad.{bad_pair, first}
use Rattle.tables.proofs.answers.bad_answer.Goals as goal

pub returns : goal.returns
returns c =
    let a = c.args.answers.now in
    position_from_yields_List bad_pair c.position.new.self _ c.position.result c.position.ensures.ran
    (YieldsList-from_zip (YieldsList-from_slice a.statuses.now cc) (YieldsList-from_slice a.leftovers.now cc)) (λ x b q k. search (rules, tests))
    ∙ position_from-zero bad_pair (zip a.statuses.now a.leftovers.now) ∙ first a.statuses.now a.leftovers.now
