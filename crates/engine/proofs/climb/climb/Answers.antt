-- Each round uses fuel.
use mathlib.Core.Path.{◌∙◌}
use lib.Ieee.{binary64}
use Rattle.lent.specs.Lent.{levels_in}
use Rattle.work.specs.Flat.{lent_in}
use Rattle.engine.proofs.Ways.{root_due, round_over}
use Rattle.engine.proofs.climb.climb.Goals as goal

pub returns-in-Done-clause-times_value : goal.returns-in-Done-clause-times_value
returns-in-Done-clause-times_value c =
    let a = c.args in
    root_due binary64 (lent_in a.reads.now) c.entered.result a.dt (levels_in a.room.now) a.work.now a.times.now (rw c.entered.ensures)
    ∙ round_over c.loop-next.invariant.way c.down.ensures.downs c.in-Done.ensures
