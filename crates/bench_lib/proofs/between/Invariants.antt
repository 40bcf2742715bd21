-- What was read and written so far is what the definition says. The loop ends with its turns.
use Rattle.lent.specs.Lent.{run_in}
use Rattle.bench_line.specs.Held.{state_of}
use Rattle.bench_lib.specs.Served.{rest}
use Rattle.bench_lib.proofs.Told.{Told}
use Rattle.bench_lib.proofs.between.Given as goal

abbrev pub invariant-loop : goal.invariant-loop
invariant-loop g l =
    Told (g.R.Read.remaining l.initial.from) (g.R.Read.remaining l.from) (g.W.Write.contents l.initial.to) (g.W.Write.contents l.to)
    l.input.last (state_of l.held l.rows (run_in l.cells)) (rest l.input)
