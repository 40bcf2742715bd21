-- Of the numbers what stands before i is put.
use Rattle.settle.proofs.BackLaws.{Stamping}
use Rattle.settle.proofs.back.put_sinces.Given as goal

abbrev pub invariant-loop-i : goal.invariant-loop-i
invariant-loop-i l = Stamping l.this l.work l.initial.sinces l.n l.i l.sinces
