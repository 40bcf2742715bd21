-- States of 0: none of the nodes before p has a place or a mark.
use Rattle.std.proofs.Common.{rules, arith, ◌<◌}
use Rattle.std.proofs.lemmas.List.{get_or-take}
use borrow.Author.Count.{below_more}
use borrow.Author.Tests.{eqb-true}
use Rattle.work.proofs.Laws.{or_first, or_second}
use Rattle.shown.proofs.ShowLaws.{none_shown}
use Rattle.shown.proofs.all_bare.Goals as goal

pub loop-p-preserved : goal.loop-p-preserved
loop-p-preserved c = λ e.
    let s = c.loop-p.states in
    let t = c.state_in-states.result in
    let lt : c.loop-p.p < c.args.n = search rules in
    below_more _ _ (c.loop-p.invariant (omega (arith, or_first s t, e))) (rw get_or-take at (c.state_in-states.ensures (omega (arith, or_second s t, e))))

pub returns : goal.returns
returns c = λ e. none_shown _ _ c.requires (λ q h. c.loop-p.invariant (eqb-true _ _ e) q (search rules)) _ _ (omega arith)
