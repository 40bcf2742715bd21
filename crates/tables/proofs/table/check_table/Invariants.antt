-- A tree is next, or a tree has ended: each way through a turn keeps what is known of the open nodes.
use Rattle.tables.proofs.Turn.{Nodes, Ended, begins_of, owed_of}
use Rattle.tables.proofs.table.check_table.Given as goal

abbrev pub invariant-loop-left : goal.invariant-loop-left
invariant-loop-left l =
    let t = l.table in
    Ended l.deep t.kinds.now t.ns.now t.limits.now l.initial.ends (begins_of l.opens) (owed_of l.opens) l.ends l.open l.left l.at

abbrev pub decreases-loop-left : goal.decreases-loop-left
decreases-loop-left l = l.open

abbrev pub invariant-loop-begin : goal.invariant-loop-begin
invariant-loop-begin l =
    let t = l.table in
    Nodes l.deep t.kinds.now t.ns.now t.limits.now l.initial.ends (begins_of l.opens) (owed_of l.opens) l.ends l.open l.left l.begin
