-- A tree that starts fresh, or from its cells.
use Rattle.load.proofs.pass.scan.Goals as goal

pub returns-then-fresh : goal.returns-then-fresh
returns-then-fresh c = rw c.if-fresh.true (c.look_fresh.ensures _ _ _)
