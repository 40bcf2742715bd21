-- Where no word says that its node was made fresh, nothing is to be put.
use mathlib.Core.Path.{sym, ◌∙◌}
use native.Mathlib.Omega.{arith}
use Rattle.settle.proofs.BackLaws.{stamping_start, stamping_more, stamped_none}
use Rattle.settle.proofs.back.put_sinces.Goals as goal
use Rattle.settle.proofs.back.put_sinces.Goals.{then-anew_of, else-anew_of}

pub returns-then-not-anew_of : goal.returns-then-not-anew_of
returns-then-not-anew_of c =
    let none = rw c.all_bits.ensures at (sym c.anew_of.ensures ∙ c.if-not-anew_of.true) in
    sym (stamped_none c.args.this c.args.n 0 c.args.work.now c.args.sinces.now (omega arith) c.requires.1 none)

pub loop-i-init : goal.loop-i-init
loop-i-init c = stamping_start

pub loop-i-preserved : goal.loop-i-preserved
loop-i-preserved c =
    let e = c.anew_of-in-loop-i.ensures in
    stamping_more (omega arith) c.requires.1 c.loop-i.invariant (omega arith)
    (elim c.if-anew_of.branch [ then-anew_of w ↦ rw (← e, w.if-anew_of.true) w.sinces-is | else-anew_of w ↦ rw (← e, w.if-anew_of.false) w.sinces-is ])
