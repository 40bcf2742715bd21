-- Each number goes into its slice.
use Rattle.engine.specs.Stands.{put_at}
use Rattle.engine.proofs.room.keep.Goals as goal

pub returns-clause-put : goal.returns-clause-put
unfolding put_at
returns-clause-put c = rw c.packed.ensures
