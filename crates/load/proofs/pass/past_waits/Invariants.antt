-- From `from` on plain Waits stand, and their words: first whole groups, then one by one.
use Prim.Native.Nat.{◌-◌}
use Rattle.load.specs.Scans.{PassesIn}
use Rattle.load.proofs.pass.past_waits.Given as goal

abbrev pub invariant-loop-begin : goal.invariant-loop-begin
invariant-loop-begin l = PassesIn l.table l.cells l.may_end l.initial.work l.work l.from l.to l.begin

abbrev pub decreases-loop-begin : goal.decreases-loop-begin
decreases-loop-begin l = l.to - l.begin

-- a run of its own, behind that of the groups
abbrev pub invariant-loop-at : goal.invariant-loop-at
invariant-loop-at l = PassesIn l.table l.cells l.may_end l.initial.work l.work l.begin l.to l.at
