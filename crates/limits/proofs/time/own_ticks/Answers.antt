-- A limit of 0 takes one tick, a longer one what it takes.
use Rattle.std.proofs.Common.{arith}
use lib.Ieee.{binary64}
use Rattle.limits.proofs.WholeTimes.{rounded}
use Rattle.limits.proofs.time.own_ticks.Goals as goal

pub returns : goal.returns
returns c e =
    let ticks = rounded binary64 _ _ c.whole_limit.ensures c.args.step _ c.in_ok-whole_limit.was (omega arith) in
    rw (c.ticks_of.ensures, c.max.ensures, c.div_ceil.ensures, ticks)
