-- One line after another. The measure is what is left of the part.
use Rattle.std.proofs.Common.{◌-◌, ◌≡◌}
use Rattle.lent.specs.Lent.{run_in, SameCells}
use Rattle.bench_line.specs.Held.{state_of, SameRows, SameAnswered}
use Rattle.bench_lib.specs.Served.{Serves, rest, printed}
use Rattle.bench_lib.proofs.lines.Given as goal

abbrev pub invariant-loop-held : goal.invariant-loop-held
invariant-loop-held l =
    record {
      serves : Serves l.initial.input.last (state_of l.initial.held l.initial.rows (run_in l.initial.cells)) (rest l.initial.input) (printed l.output)
          (state_of l.held l.rows (run_in l.cells)) (rest l.input);
      last : l.input.last ≡ l.initial.input.last;
      same_rows : SameRows l.initial.rows l.rows;
      same_cells : SameCells l.initial.cells l.cells;
      same_answered : SameAnswered l.initial.answered l.answered;
    }

abbrev pub decreases-loop-held : goal.decreases-loop-held
decreases-loop-held l = l.input.end - l.input.start
