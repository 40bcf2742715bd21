-- What is done at each child is to put its word through a function.
use Rattle.std.proofs.Common.{rules, ◌∙◌}
use Rattle.work.specs.Flat.{seen_no}
use Rattle.shown.specs.Show.{ended_word}
use Rattle.shown.proofs.ShowLaws.{each_put, ended_sets}
use Rattle.shown.proofs.show_before.Goals as goal

pub returns : goal.returns
returns c =
    let s = seen_no c.args.seen in
    c.put_each.ensures (ended_word s) (λ w v e. search rules) ∙ each_put _ _ (ended_sets s) _ _ _ _
