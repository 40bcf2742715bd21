-- One line more.
use Rattle.std.proofs.Common.{arith, ◌∙◌, subst, Bool, Some, take, drop, ◌-◌}
use Rattle.bench_lib.specs.Served.{Ends}
use Rattle.bench_lib.proofs.Serves.{serves_line}
use Rattle.bench_lib.proofs.lines.Goals as goal

pub loop-held-preserved : goal.loop-held-preserved
loop-held-preserved c =
    let l = c.loop-held in
    let i = l.input in
    let n = c.in-Some.n in
    let ends = subst (λ (b : Bool). Ends (take (i.end - i.start) (drop i.start i.bytes)) b (Some n)) l.invariant.last c.in-Some.ensures in
    let now = l.invariant in
    let rows = c.one-printed.ensures.same_rows in
    let cells = c.one-printed.ensures.same_cells in
    let answered = c.one-printed.ensures.same_answered in
    record {
      serves = serves_line _ _ _ _ _ i.bytes i.start i.end n l.output.bytes _ _ _ _ _ c.loop-held-test.true (omega arith) ends l.invariant.serves c.one-printed.ensures.steps;
      last = l.invariant.last;
      same_rows = (rows.0 ∙ now.same_rows.0, rows.1 ∙ now.same_rows.1, rows.2 ∙ now.same_rows.2);
      same_cells = (cells.0 ∙ now.same_cells.0, cells.1 ∙ now.same_cells.1, cells.2 ∙ now.same_cells.2, cells.3 ∙ now.same_cells.3);
      same_answered = (answered.0 ∙ now.same_answered.0, answered.1 ∙ now.same_answered.1, answered.2 ∙ now.same_answered.2);
    }
