-- Each number comes out of its slice.
use native.Mathlib.Omega.{arith}
use lib.Ieee.{nan}
use Rattle.rules.specs.Tree.{zero_time}
use Rattle.work.proofs.Laws.{any_default}
use Rattle.engine.specs.Stands.{level_at}
use Rattle.engine.proofs.room.kept.Goals as goal

pub returns : goal.returns
unfolding level_at
returns c =
    let a = c.args in
    rw (any_default a.room.now.wholes.now a.at zero_time nan (omega (arith, c.requires)), any_default a.room.now.rests.now a.at zero_time nan (omega (arith, c.requires)))
    c.unpacked.ensures
