-- What is done at each child is to put its word through a function.
use Rattle.std.proofs.Common.{rules, ◌∙◌}
use Rattle.work.specs.Flat.{seen_no}
use Rattle.shown.specs.Show.{marked_word}
use Rattle.shown.proofs.ShowLaws.{each_put, marked_sets}
use Rattle.shown.proofs.show_marked.Goals as goal

pub returns : goal.returns
returns c =
    let s = seen_no c.args.seen in
    c.put_each.ensures (marked_word s) (λ w v e. search rules) ∙ each_put _ _ (marked_sets s) _ _ _ _
