-- A worked instance in f64: Timeout(2, Action) with d = 1, each tick lent the answers (Running, 0) and (Running, 0.5). The second is not used, so it need
-- not be whole, and the tree gives up at the second tick.
use Rattle.std.specs.Prelude.{refl}
use Rattle.std.specs.Float.{binary64}
use Rattle.std.specs.Float.Ieee.{to_unsigned, whole}
use Rattle.rules.specs.Kinds.{kind_of}
use Rattle.rules.specs.Tree.{size}
use Rattle.rules.specs.Cells.{cells}
use Rattle.rules.specs.Bound.{num, bound_call}
use Rattle.laws.specs.History.{stands, after_all}
use Rattle.finish.specs.Answered.{is_told}
use Rattle.finish.specs.Public.{FinishesBy}
use Rattle.finish.proofs.Public.{finishes}
use Rattle.finish.specs.Instance.{one, kinds, ns, limits, tree, zeros, fresh, both, covered}

pub gives_up : FinishesBy 2 (after_all binary64 (stands fresh zeros 0) both)
unfolding bound_call num to_unsigned whole kind_of size cells
gives_up = finishes binary64 kinds ns limits tree refl one 2 (is_told refl) fresh refl zeros (refl, (refl, tt)) both covered
