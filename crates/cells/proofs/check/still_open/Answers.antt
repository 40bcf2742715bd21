-- As many nodes are open as of those that are left.
use mathlib.Core.Path.{sym, ◌∙◌}
use Prim.Native.Nat.{◌-◌}
use native.Mathlib.Omega.{arith}
use Rattle.cells.specs.Check.{stops_of}
use Rattle.cells.proofs.Opens.{stop_at}
use Rattle.cells.proofs.Still.{all_stay, drops, ends}
use Rattle.cells.proofs.check.still_open.Goals as goal

pub loop-left-preserved : goal.loop-left-preserved
loop-left-preserved c =
    let a = c.args in
    let top = stop_at a.opens.now (c.loop-left.left - 1) (omega (arith, c.loop-left.invariant.0)) in
    let dropped = drops (stops_of a.opens.now) a.at c.loop-left.left c.loop-left-test.true (omega (arith, c.if-opens-left.true)) in
    (omega (arith, c.loop-left.invariant.0), sym dropped ∙ c.loop-left.invariant.1)

pub returns-else-opens-left : goal.returns-else-opens-left
returns-else-opens-left c =
    let a = c.args in
    let top = stop_at a.opens.now (c.loop-left.left - 1) (omega (arith, c.loop-left.invariant.0)) in
    sym (all_stay (stops_of a.opens.now) a.at c.loop-left.left (omega arith) (omega (arith, c.if-opens-left.false))) ∙ c.loop-left.invariant.1

pub returns-after-loop-left : goal.returns-after-loop-left
returns-after-loop-left c =
    let a = c.args in
    sym (ends (stops_of a.opens.now) a.at c.loop-left.left c.loop-left-test.false) ∙ c.loop-left.invariant.1
