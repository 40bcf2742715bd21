-- Each kind of line, by what was read and admitted.
use Rattle.std.proofs.Common.{arith, ◌≡◌, ◌∙◌, ℕ, length, take, length-take-le, sym, refl, ap, subst, ◌≤◌}
use Rattle.frames.specs.declared.order.Input.TheVariants as inputs
use Rattle.frames.specs.Order.{admitted}
use Rattle.lent.specs.Lent.{run_in}
use Rattle.frames.specs.declared.Frame.{Frame}
use Rattle.bench_line.specs.Bench.{printed}
use Rattle.bench_line.specs.Held.{state_of, Prints}
use Rattle.bench_line.proofs.Came.{Came, came, node_step, call_step, stop_step}
use Rattle.bench_line.proofs.step.one.Goals as goal
use Rattle.bench_line.proofs.step.one.Goals.{After-admit-input}

-- the line as it was read
read : (c : After-admit-input) → Came (state_of c.args.held.now c.args.rows.now (run_in c.args.cells.now)) c.args.line.now c.read-reading.new.statuses c.read-reading.new.leftovers c.admit-input.result
read c =
    let h = c.args.held.now in
    let a = c.args.answered.now in
    let t = c.args.rows.now in
    let nodes : h.nodes ≡ length (take h.nodes t.kinds.now) = sym (length-take-le h.nodes t.kinds.now (omega arith)) in
    let s : 1024 ≤ length a.statuses.now = omega arith in
    let p : 1024 ≤ length a.patterns.now = omega arith in
    came (state_of h t (run_in c.args.cells.now)) c.args.line.now a.statuses.now a.patterns.now c.read-reading.result _ _ _ s p c.read-reading.ensures
    (c.admit-input.ensures ∙ ap (λ (n : ℕ). admitted n h.begun c.read-reading.result) nodes)

pub returns-in-Node-clause-steps : goal.returns-in-Node-clause-steps
returns-in-Node-clause-steps c =
    node_step (read (goal.at.returns-in-Node-clause-steps c).After-admit-input) _ _ _ _ _ c.in-Node.is (c.keep.ensures.kept _)

pub returns-in-Asked-clause-steps : goal.returns-in-Asked-clause-steps
returns-in-Asked-clause-steps c =
    let x = c.in-Asked in
    call_step (read (goal.at.returns-in-Asked-clause-steps c).After-admit-input) x.call x.event x.fuel c.from-count.result
    (x.is ∙ ap (λ (n : ℕ). inputs.Asked x.call x.event x.fuel n) (sym c.from-count.ensures)) c.args.answered.now.leftovers.now c.times.new.out c.serve-answer.result _ _ _ _
    (omega arith) c.times.ensures c.serve-answer.ensures.served (subst (λ (f : Frame). Prints (printed f) c.args.room.now c.put.result c.put.new.room) c.said.ensures c.put.ensures)

pub returns-in-Malformed-clause-steps : goal.returns-in-Malformed-clause-steps
returns-in-Malformed-clause-steps c =
    stop_step (read (goal.at.returns-in-Malformed-clause-steps c).After-admit-input) _ _ _ _ c.in-Malformed.is refl c.put-in-Malformed.ensures
