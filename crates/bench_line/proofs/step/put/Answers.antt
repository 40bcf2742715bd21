-- A frame without answers is written whole.
use Rattle.std.proofs.Common.{[]}
use Rattle.bench_line.proofs.Puts.{prints}
use Rattle.bench_line.proofs.step.put.Goals as goal

pub returns : goal.returns
returns c =
    let r = c.requires in
    prints c.args.frame [] [] c.args.room.now r.frame_value r.in_bounds c.write.result c.write.new.room c.unwrap_or.result c.write.ensures.room_after c.unwrap_or.ensures
