-- Node by node, each column; the slices stay the same ones.
use Prim.Native.Nat.{ℕ}
use Rattle.rules.specs.Tree.{zero_time}
use Rattle.lent.specs.Lent.{SameTree}
use Rattle.branch.specs.declared.write.Cut.{Cut}
use Rattle.branch.specs.Write.{source_of, from, at, limit_at, always}
use Rattle.branch.proofs.Filling.{Filling}
use Rattle.branch.proofs.write.write.Given as goal

abbrev made : {A : Type 0} → Cut → (ℕ → A) → (ℕ → A) → ℕ → A
made cut old new i = from old new (source_of cut i)

abbrev pub invariant-loop-i : goal.invariant-loop-i
invariant-loop-i l =
    let to = l.to in
    let start = l.initial.to in
    Filling (made l.cut (at 0 l.table.kinds.now) (at 0 l.branch.kinds.now)) start.kinds.now l.cut.nodes l.i to.kinds.now
    × Filling (made l.cut (at 0 l.table.ns.now) (at 0 l.branch.ns.now)) start.ns.now l.cut.nodes l.i to.ns.now
    × Filling (made l.cut (limit_at l.table.limits.now) (limit_at l.branch.limits.now)) start.limits.now l.cut.nodes l.i to.limits.now
    × Filling (made l.cut (at zero_time l.cells.times.now) (always zero_time)) start.times.now l.cut.nodes l.i to.times.now
    × Filling (made l.cut (at 0 l.cells.places.now) (always 0)) start.places.now l.cut.nodes l.i to.places.now
    × Filling (made l.cut (at 0 l.cells.marks.now) (always 0)) start.marks.now l.cut.nodes l.i to.marks.now
    × Filling (made l.cut (at 0 l.cells.sinces.now) (always l.«record».ticks)) start.sinces.now l.cut.nodes l.i to.sinces.now
    × SameTree start to
