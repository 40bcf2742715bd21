-- `write` meets its contract.
use Rattle.std.proofs.Common.{arith}
use Rattle.writer.proofs.Writes.{too_short, bytes}
use Rattle.writer.proofs.write.Goals as goal

pub returns-then-room-bytes-clause-room_after : goal.returns-then-room-bytes-clause-room_after
returns-then-room-bytes-clause-room_after c =
    let a = c.args in
    too_short a.frame a.statuses.now a.leftovers.now _ _ c.count-n.ensures _ c.size-bytes.ensures (omega arith) (omega arith)

pub returns-clause-room_after : goal.returns-clause-room_after
returns-clause-room_after c =
    let a = c.args in
    bytes a.frame a.statuses.now a.leftovers.now _ _ c.count-n.ensures _ c.size-bytes.ensures (omega arith) _ (omega arith) c.lay.ensures.room_after
