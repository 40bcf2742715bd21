-- The first LF, if there is one.
use Rattle.std.proofs.Common.{◌≡◌, sym, ◌∙◌, rules, tests}
use Rattle.std.proofs.lemmas.Iterator.{YieldsList-from_slice}
use Rattle.std.proofs.lemmas.Iterator.Search.{position_from_yields_List}
use Rattle.std.proofs.lemmas.Iterator.Adapters.{position_from-zero}
use Rattle.std.specs.List.{position_from}
use Rattle.bench_lib.proofs.Cuts.{ends_line, line_ends, last_line, some_bytes}
use Rattle.bench_lib.proofs.cut.line_end.Goals as goal
use Rattle.bench_lib.proofs.cut.line_end.Goals.{After-position}

place : (c : After-position) → c.position.result ≡ position_from ends_line 0 c.args.bytes.now
place c =
    position_from_yields_List ends_line _ _ _ c.position.ensures.ran (YieldsList-from_slice c.args.bytes.now cc) (λ x b q k. search (rules, tests))
    ∙ position_from-zero ends_line c.args.bytes.now

pub returns-in-Some : goal.returns-in-Some
returns-in-Some c = line_ends c.args.bytes.now c.args.last c.in-Some.before (sym (place (goal.at.returns-in-Some c).After-position) ∙ c.in-Some.is)

pub returns-in-None : goal.returns-in-None
returns-in-None c =
    last_line c.args.bytes.now c.args.last c.if-last.true (some_bytes c.args.bytes.now c.if-not-is_empty.ensures) (sym (place (goal.at.returns-in-None c).After-position) ∙ c.in-None.is)
