-- Each decorator that is opened goes on along the way of those before it.
use Rattle.std.proofs.Common.{rules, arith}
use Rattle.engine.proofs.DecoratorLaws.{any_way, open_on, opened}
use Rattle.engine.proofs.decorators.open_decorators.Goals as goal

pub returns-clause-opens : goal.returns-clause-opens
returns-clause-opens c = opened c.loop-level.invariant.way

pub loop-level-preserved : goal.loop-level-preserved
loop-level-preserved c = record {
  way = open_on c.loop-level.invariant.way (c.next_opens.ensures c.loop-level-test.true) c.kind_of.ensures c.decorating-level.ensures c.keep.ensures.put;
  same_room = search rules;
}

pub keep-requires-clause-at_bound : goal.keep-requires-clause-at_bound
keep-requires-clause-at_bound c =
    let way = c.loop-level.invariant.way in
    omega (arith, way.some, (any_way way).held.few, (any_way way).held.room)
