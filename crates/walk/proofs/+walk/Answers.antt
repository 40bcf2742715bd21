-- Each member of the cycle meets its contract.
use Rattle.std.proofs.Common.{suc, ◌-◌, refl, sym, ◌∙◌, arith}
use mathlib.Core.Logic.{⊎_elim}
use lib.Ieee.{binary64, of_bits}
use Rattle.work.specs.Array.{chosen_words, chosen_times, decided_words}
use Rattle.work.specs.Flat.{turning, visiting, if_node, branch, chosen}
use Rattle.std.proofs.lemmas.Grind.{common_steps}
use borrow.Author.Rules.{rules}
use Rattle.work.proofs.VisitLaws.{gave_ended, ended_told, told_as, turn_out_lem, turn_visit, turned_back}
use Rattle.work.proofs.VisitLaws as law
use Rattle.leaves.proofs.WaitLaws.{passed_on}
use Rattle.walk.proofs.NodeLaws as node_law
use Rattle.walk.proofs.LoopLaws as loop-law
use Rattle.walk.proofs.SequenceLaws as seq-law
use Rattle.walk.proofs.WhenAllLaws as when-law
use Rattle.walk.proofs.TurnLaws.{some_left, one_less, farther, turns_left, as_it_was}
use Rattle.walk.proofs.+walk.Goals as goal
use Rattle.walk.proofs.+walk.Goals.{loops::while_all-then-i-eq0+in-Running, loops::while_all-else-i-eq0+else-stop-q+in-Success}

-- ---- tick_node: The rule of the kind, and the status on the board.
pub tick_node-returns : goal.tick_node-returns
tick_node-returns t c =
    law.tick_on _ _ _ _ _ _ _ _ _ _ c.if-depth-eq0.false c.if-fuel-eq0.false c.kind_of-kind.ensures c.by_kind-result.ensures
    (law.seen_put _ _ _ _ _ _ (law.gave_unless _ _ c.eq.ensures c.if-eq.false) c.put_seen.ensures)

-- ---- decorators: Down a chain of decorators, and up again: the loops go along `up`.
pub decorators-returns-then-p-ge255 : goal.decorators-returns-then-p-ge255
decorators-returns-then-p-ge255 t c = rw c.stopped.ensures (node_law.decorator_none _ _ _ _ _ _ _ c.if-p-ge255.true)

pub decorators-loop-p-init : goal.decorators-loop-p-init
decorators-loop-p-init t c = ((0, (omega arith, node_law.up_start _ _ _ _ _ _ _ c.if-p-ge255.false _ refl)), omega (arith, c.if-p-ge255.false), omega arith)

pub decorators-returns-then-below-eq0 : goal.decorators-returns-then-below-eq0
decorators-returns-then-below-eq0 t c =
    rw c.stopped-then-below-eq0.ensures (c.loop-p.invariant.0.1.1 ∙ node_law.down_deep _ _ _ _ _ _ _ _ _
    c.kind_of.ensures (sym c.decorates.ensures ∙ c.loop-p-test.true) _ c.if-below-eq0.true)

pub decorators-returns-then-fuel-eq0 : goal.decorators-returns-then-fuel-eq0
decorators-returns-then-fuel-eq0 t c =
    rw c.stopped-then-fuel-eq0.ensures (c.loop-p.invariant.0.1.1 ∙ node_law.down_spent _ _ _ _ _ _ _ _ _
    c.kind_of.ensures (sym c.decorates.ensures ∙ c.loop-p-test.true) _ c.if-fuel-eq0.true)

pub decorators-returns-then-q-ge255 : goal.decorators-returns-then-q-ge255
decorators-returns-then-q-ge255 t c =
    rw c.stopped-then-q-ge255.ensures (c.loop-p.invariant.0.1.1 ∙ node_law.down_end _ _ _ _ _ _ _ _ _ c.kind_of.ensures
    (sym c.decorates.ensures ∙ c.loop-p-test.true) c.if-below-eq0.false c.if-fuel-eq0.false _ refl _ c.if-q-ge255.true)

pub decorators-loop-p-preserved : goal.decorators-loop-p-preserved
decorators-loop-p-preserved t c = (
  (
    suc c.loop-p.invariant.0.0,
    (
      omega (arith, c.loop-p.invariant.0.1.0),
      c.loop-p.invariant.0.1.1 ∙ node_law.down_one _ _ _ _ _ _ _ _ _ c.kind_of.ensures (sym c.decorates.ensures ∙ c.loop-p-test.true)
          c.if-below-eq0.false c.if-fuel-eq0.false _ refl _ c.loop-p.invariant.0.1.0 c.if-q-ge255.false,
    ),
  ),
  omega (arith, c.if-q-ge255.false),
  omega (arith, c.loop-p.invariant.2, c.if-below-eq0.false),
)

pub decorators-returns-then-eq : goal.decorators-returns-then-eq
decorators-returns-then-eq t c =
    c.loop-p.invariant.0.1.1 ∙ rw c.visit-result.ensures (node_law.up_stopped _ _ _ _ _ _ _ _ _ (law.stopped_told _ _ c.eq.ensures c.if-eq.true))

pub decorators-loop-at-init : goal.decorators-loop-at-init
decorators-loop-at-init t c = (
  (c.loop-p.invariant.0.0, (c.loop-p.invariant.0.1.0, c.loop-p.invariant.0.1.1 ∙ rw c.visit-result.ensures)),
  law.gave_unless _ _ c.eq.ensures c.if-eq.false,
)

pub decorators-loop-at-preserved : goal.decorators-loop-at-preserved
decorators-loop-at-preserved t c =
    let i = c.loop-at.invariant.0 in
    let gave = node_law.then_gave _ _ _ _ _ _ _ _ _ _ _ _ c.loop-at.invariant.1 (c.decorated-result.ensures c.args.reads.now.statuses.now c.args.reads.now.leftovers.now) in (
      (
        i.0 - 1,
        (
          omega (arith, i.1.0, c.loop-at-test.true),
          i.1.1 ∙ node_law.up_one _ _ _ _ _ _ _ (omega (arith, i.1.0, c.loop-at-test.true)) (omega (arith, i.1.0, c.loop-at-test.true)) _ _ _ _ _ _
              (c.decorated-result.ensures c.args.reads.now.statuses.now c.args.reads.now.leftovers.now) gave c.put_seen.ensures,
        ),
      ),
      gave,
    )

pub decorators-returns : goal.decorators-returns
decorators-returns t c =
    let i = c.loop-at.invariant.0 in
    i.1.1 ∙ node_law.up_end _ _ _ _ _ (omega (arith, i.1.0, c.loop-at-test.false)) _ _ (c.decorated.ensures _ _)

-- ---- if_node: The branch that the condition chooses.
pub if_node-returns-then-stop-branch : goal.if_node-returns-then-stop-branch
unfolding if_node branch chosen chosen_words chosen_times decided_words
if_node-returns-then-stop-branch t c = search rules

pub if_node-returns : goal.if_node-returns
unfolding if_node branch chosen chosen_words chosen_times decided_words
if_node-returns t c = grind (arith, common_steps)

-- ---- while_loop: A turn for each of the fuel.
pub loops::while_loop-loop-preserved : goal.loops::while_loop-loop-preserved
loops::while_loop-loop-preserved t c = (
  c.loop.invariant.0 ∙ loop-law.while_again _ _ _ _ _ _ _ _ _ c.if-stop-q.false _ _ _ _ _ _ c.end_of-next.ensures.0 c.index_after-i.ensures
      c.move_on-q.ensures.value _ _ c.move_on-q.ensures.work_after c.move_on-q.ensures.times_after _ _ (some_left c.loop-test.true) (one_less c.loop-test.true)
      (told_as c.visit-result.ensures c.in-Success.is) (sym c.updates.ensures ∙ c.if-not-updates.false) _ refl,
  rw
      (c.index_after-i.ensures, c.move_on-q.ensures.value)
      (loop-law.index_within _ _ _ _ _ c.loop.invariant.1 (c.end_of-next.ensures.2 (omega arith))),
)

-- ---- while_all: A turn for each of the fuel.
pub loops::while_all-returns-in_default : goal.loops::while_all-returns-in_default
loops::while_all-returns-in_default t c =
    c.loop.invariant.0 ∙ loop-law.all_ended _ _ _ _ _ _ _ _ _ _ _ (some_left c.loop-test.true) c.if-i-eq0.true _
    (gave_ended c.visit-condition.result.seen c.in_default.in_default-own.keys3) (ended_told c.visit-condition.result.seen c.in_default.in_default-own.keys3) _ _ _ c.visit-condition.ensures _
    c.put_place.ensures

pub loops::while_all-returns-in-Running-seen : goal.loops::while_all-returns-in-Running-seen
loops::while_all-returns-in-Running-seen t c =
    rw c.waiting.ensures (c.loop.invariant.0 ∙ loop-law.all_running _ _ _ _ _ _ _ _ _ _ c.if-i-eq0.false c.if-stop-q.false _ _ _ _
    (some_left c.loop-test.true) (told_as c.visit-result.ensures c.in-Running-seen.is) _ c.put_place-in-Running-seen.ensures)

pub loops::while_all-returns-in-Failure : goal.loops::while_all-returns-in-Failure
loops::while_all-returns-in-Failure t c =
    c.loop.invariant.0 ∙ loop-law.all_failed _ _ _ _ _ _ _ _ _ _ c.if-i-eq0.false c.if-stop-q.false _ _ _ _ (some_left c.loop-test.true) _
    c.in-Failure.is c.visit-result.ensures _ c.put_place-in-Failure.ensures

pub loops::while_all-loop-preserved : goal.loops::while_all-loop-preserved
loops::while_all-loop-preserved t c = elim c.if-i-eq0.branch [
  | loops::while_all-then-i-eq0+in-Running w ↦ rw (w.work-is, w.times-is, w.i-is, w.q-is, w.rest-is) (
    c.loop.invariant.0 ∙ loop-law.all_due _ _ _ _ _ _ _ _ _ _ _ _ (some_left c.loop-test.true) (one_less c.loop-test.true) w.if-i-eq0.true _ _ _
        (told_as w.visit-condition.ensures w.in-Running.is) _ refl,
    omega arith,
  )
  | loops::while_all-else-i-eq0+else-stop-q+in-Success w ↦ rw (w.work-is, w.times-is, w.i-is, w.q-is, w.rest-is) (
    c.loop.invariant.0 ∙ loop-law.all_again _ _ _ _ _ _ _ _ _ _ w.if-i-eq0.false w.if-stop-q.false _ _ _ _ _ _ w.end_of-next.ensures.0
        w.index_after-i.ensures w.move_on-q.ensures.value _ _ w.move_on-q.ensures.work_after w.move_on-q.ensures.times_after _ _
        (some_left c.loop-test.true) (one_less c.loop-test.true) (told_as w.visit-result.ensures w.in-Success.is) _ refl,
    rw
        (w.index_after-i.ensures, w.move_on-q.ensures.value)
        (loop-law.index_within _ _ _ _ _ c.loop.invariant.1 (w.end_of-next.ensures.2 (omega arith))),
  )
]

-- ---- sequence: The turns that are left lead to what the driver is to give.
pub sequence::sequence-returns-then-stop-q : goal.sequence::sequence-returns-then-stop-q
sequence::sequence-returns-then-stop-q t c =
    rw c.waiting.ensures (turn_out_lem _ _ _ _ _ _ _ (seq-law.seq_over _ _ _ _ _ _ c.end_of-stop.ensures.0 _ _ c.place_of-i.ensures.0
    c.child-q.ensures.0 c.if-stop-q.true) refl)

pub sequence::sequence-loop-result-init : goal.sequence::sequence-loop-result-init
sequence::sequence-loop-result-init t c = (
  (λ r e. seq-law.seq_start _ _ _ _ _ _ c.end_of-stop.ensures.0 _ _ c.place_of-i.ensures.0 c.child-q.ensures.0 c.if-stop-q.false _
      (e 256 (omega (arith, c.end_of-stop.ensures.1)))),
  omega (arith, c.place_of-i.ensures.1),
  c.if-stop-q.false,
)

pub sequence::sequence-returns-in-Stopped : goal.sequence::sequence-returns-in-Stopped
sequence::sequence-returns-in-Stopped t c =
    let told = sym c.turned.ensures ∙ c.in-Stopped.is in
    turn_out_lem _ _ _ _ _ _ _ (c.loop-result.invariant.0 _ (λ k h. seq-law.seq_stopped _ _ _ _ _ _ _ _ _ _ _ k (turns_left c.loop-result.invariant.2 h)
    (turn_visit _ _ _ _ _ _ _ c.visit-result.ensures told))) told

pub sequence::sequence-returns-in-Running : goal.sequence::sequence-returns-in-Running
sequence::sequence-returns-in-Running t c =
    rw c.waiting-in-Running.ensures (turn_out_lem _ _ _ _ _ _ _ (c.loop-result.invariant.0 _ (λ k h. seq-law.seq_running _ _ _ _ _ _ _ _ _ _ _ k (turns_left c.loop-result.invariant.2 h)
    (turn_visit _ _ _ _ _ _ _ c.visit-result.ensures (sym c.turned.ensures ∙ c.in-Running.is)) _ c.put_place.ensures)) refl)

pub sequence::sequence-returns-in-Failure : goal.sequence::sequence-returns-in-Failure
sequence::sequence-returns-in-Failure t c =
    let told = sym c.turned.ensures ∙ c.in-Failure.is in
    turn_out_lem _ _ _ _ _ _ _ (c.loop-result.invariant.0 _ (λ k h. seq-law.seq_failed _ _ _ _ _ _ _ _ _ _ _ k (turns_left c.loop-result.invariant.2 h)
    (turn_visit _ _ _ _ _ _ _ c.visit-result.ensures told) _ c.put_place-in-Failure.ensures)) told

pub sequence::sequence-returns-then-stop-next : goal.sequence::sequence-returns-then-stop-next
sequence::sequence-returns-then-stop-next t c =
    let told = sym c.turned.ensures ∙ c.in-Success.is in
    turn_out_lem _ _ _ _ _ _ _ (c.loop-result.invariant.0 _ (λ k h. seq-law.seq_last _ _ _ _ _ _ _ _ _ _ _ (turn_visit _ _ _ _ _ _ _ c.visit-result.ensures told) _ c.end_of-next.ensures.0 k
    (turns_left c.loop-result.invariant.2 h) c.if-stop-next.true _ c.updates-update.ensures _ c.up_on.ensures _ c.put_place-then-stop-next.ensures)) told

pub sequence::sequence-returns-then-not-update : goal.sequence::sequence-returns-then-not-update
sequence::sequence-returns-then-not-update t c =
    rw c.waiting-then-not-update.ensures (turn_out_lem _ _ _ _ _ _ _ (c.loop-result.invariant.0 _ (λ k h. seq-law.seq_other _ _ _ _ _ _ _ _ _ _ _
    (turn_visit _ _ _ _ _ _ _ c.visit-result.ensures (sym c.turned.ensures ∙ c.in-Success.is)) _ c.end_of-next.ensures.0
    c.if-stop-next.false _ c.end_of-behind.ensures.0 _ _ c.fresh.ensures.work_after c.fresh.ensures.times_after k (turns_left c.loop-result.invariant.2 h)
    (sym c.updates-update.ensures ∙ c.if-not-update.true) _ c.put_place-then-not-update.ensures)) refl)

pub sequence::sequence-loop-result-preserved : goal.sequence::sequence-loop-result-preserved
sequence::sequence-loop-result-preserved t c =
    let n = c.end_of-next.ensures.2 (omega arith) in (
      (λ r e. c.loop-result.invariant.0 r (λ k h. seq-law.seq_again _ _ _ _ _ _ _ _ _ _ _
          (turn_visit _ _ _ _ _ _ _ c.visit-result.ensures (sym c.turned.ensures ∙ c.in-Success.is)) _ c.end_of-next.ensures.0
          c.if-stop-next.false _ c.end_of-behind.ensures.0 _ _ c.fresh.ensures.work_after c.fresh.ensures.times_after k h n
          (sym c.updates-update.ensures ∙ c.if-not-update.false) r e)),
      omega (arith, c.loop-result.invariant.1, n),
      c.if-stop-next.false,
    )

-- ---- memoryless: The turns that are left lead to what the driver is to give.
pub sequence::memoryless-returns-then-stop-q : goal.sequence::memoryless-returns-then-stop-q
sequence::memoryless-returns-then-stop-q t c =
    turn_out_lem _ _ _ _ _ _ _ (seq-law.mem_empty _ _ _ _ _ _ c.end_of-stop.ensures.0 c.if-stop-q.true _ c.passed.ensures) (turned_back _ _ _ (sym c.turned.ensures))

pub sequence::memoryless-loop-rest-init : goal.sequence::memoryless-loop-rest-init
sequence::memoryless-loop-rest-init t c = (
  (λ r e. seq-law.mem_start _ _ _ _ _ _ c.end_of-stop.ensures.0 c.if-stop-q.false _ _ c.fresh.ensures.work_after c.fresh.ensures.times_after _
      (e 256 (omega (arith, c.end_of-stop.ensures.1)))),
  c.if-stop-q.false,
)

pub sequence::memoryless-returns-in-Stopped : goal.sequence::memoryless-returns-in-Stopped
sequence::memoryless-returns-in-Stopped t c = ⊎_elim
    (λ e. let told = sym c.turned-in-loop-rest.ensures ∙ e in
    turn_out_lem _ _ _ _ _ _ _ (c.loop-rest.invariant.0 _ (λ k h. seq-law.mem_stopped _ _ _ _ _ _ _ _ _ k (turns_left c.loop-rest.invariant.1 h)
    (turn_visit _ _ _ _ _ _ _ c.visit-result.ensures told))) told)
    (λ e. let told = sym c.turned-in-loop-rest.ensures ∙ e in
    turn_out_lem _ _ _ _ _ _ _ (c.loop-rest.invariant.0 _ (λ k h. seq-law.mem_failed _ _ _ _ _ _ _ _ _ k (turns_left c.loop-rest.invariant.1 h)
    (turn_visit _ _ _ _ _ _ _ c.visit-result.ensures told))) told)
    c.in-Stopped.is

pub sequence::memoryless-returns-in-Running : goal.sequence::memoryless-returns-in-Running
sequence::memoryless-returns-in-Running t c =
    rw c.waiting.ensures (turn_out_lem _ _ _ _ _ _ _ (c.loop-rest.invariant.0 _ (λ k h. seq-law.mem_running _ _ _ _ _ _ _ _ _ k (turns_left c.loop-rest.invariant.1 h)
    (turn_visit _ _ _ _ _ _ _ c.visit-result.ensures (sym c.turned-in-loop-rest.ensures ∙ c.in-Running.is)))) refl)

pub sequence::memoryless-returns-then-stop-next : goal.sequence::memoryless-returns-then-stop-next
sequence::memoryless-returns-then-stop-next t c =
    let told = sym c.turned-in-loop-rest.ensures ∙ c.in-Success.is in
    turn_out_lem _ _ _ _ _ _ _ (c.loop-rest.invariant.0 _ (λ k h. seq-law.mem_last _ _ _ _ _ _ _ _ _ (turn_visit _ _ _ _ _ _ _ c.visit-result.ensures told) _
    c.end_of-next.ensures.0 k (turns_left c.loop-rest.invariant.1 h) c.if-stop-next.true _ c.passed-then-stop-next.ensures)) told

pub sequence::memoryless-loop-rest-preserved : goal.sequence::memoryless-loop-rest-preserved
sequence::memoryless-loop-rest-preserved t c = (
  (λ r e. c.loop-rest.invariant.0 r (λ k h. seq-law.mem_again _ _ _ _ _ _ _ _ _
      (turn_visit _ _ _ _ _ _ _ c.visit-result.ensures (sym c.turned-in-loop-rest.ensures ∙ c.in-Success.is)) _ c.end_of-next.ensures.0 k h
      (c.end_of-next.ensures.2 (omega arith)) c.if-stop-next.false _ _ c.fresh-in-Success.ensures.work_after c.fresh-in-Success.ensures.times_after r e)),
  c.if-stop-next.false,
)

-- ---- when_all: The turns that are left lead to what the driver is to give.
pub when_all::when_all-returns-then-stop-q : goal.when_all::when_all-returns-then-stop-q
unfolding of_bits
when_all::when_all-returns-then-stop-q t c =
    turn_out_lem _ _ _ _ _ _ _ (when-law.when_empty _ _ _ _ _ _ c.end_of-stop.ensures.0 _ c.if-stop-q.true _ c.passed.ensures)
    (turned_back _ _ _ (sym c.turned.ensures))

pub when_all::when_all-loop-q-init : goal.when_all::when_all-loop-q-init
unfolding of_bits
when_all::when_all-loop-q-init t c = (λ r e. when-law.when_start _ _ _ _ _ _ c.end_of-stop.ensures.0 _ c.if-stop-q.false _ (e 256 (omega (arith, c.end_of-stop.ensures.1))))

pub when_all::when_all-returns-in-Stopped : goal.when_all::when_all-returns-in-Stopped
unfolding of_bits
when_all::when_all-returns-in-Stopped t c = ⊎_elim
    (λ e. let told = sym c.turned-else-keeps_waiting.ensures ∙ e in
    turn_out_lem _ _ _ _ _ _ _ (c.loop-q.invariant _ (λ k h. when-law.when_stopped _ _ _ _ _ _ _ _ c.loop-q-test.true _
    c.mark_of.ensures.0 c.if-mark_of-eq0.true _ _ _ k h (as_it_was (turning _ (visiting binary64 _ _)) _ _ (c.keeps_waiting.ensures.work_unchanged c.if-keeps_waiting.false)
    (turn_visit _ _ _ _ _ _ _ c.visit-result.ensures told)))) told)
    (λ e. let told = sym c.turned-else-keeps_waiting.ensures ∙ e in
    turn_out_lem _ _ _ _ _ _ _ (c.loop-q.invariant _ (λ k h. when-law.when_failed _ _ _ _ _ _ _ _ c.loop-q-test.true _
    c.mark_of.ensures.0 c.if-mark_of-eq0.true _ _ _ k h (as_it_was (turning _ (visiting binary64 _ _)) _ _ (c.keeps_waiting.ensures.work_unchanged c.if-keeps_waiting.false)
    (turn_visit _ _ _ _ _ _ _ c.visit-result.ensures told)))) told)
    c.in-Stopped.is

pub when_all::when_all-loop-q-smaller-then-next-eq2 : goal.when_all::when_all-loop-q-smaller-then-next-eq2
when_all::when_all-loop-q-smaller-then-next-eq2 t c =
    farther c.loop-q-test.true (c.end_of-next.ensures.2 (omega arith)) (passed_on c.past_waits-next.ensures.waiting)

pub when_all::when_all-loop-q-preserved-then-next-eq2 : goal.when_all::when_all-loop-q-preserved-then-next-eq2
unfolding of_bits
when_all::when_all-loop-q-preserved-then-next-eq2 t c =
    (λ r e. c.loop-q.invariant r (λ k h. when-law.when_running _ _ _ _ _ _ _ _ c.loop-q-test.true _ c.mark_of.ensures.0 c.if-mark_of-eq0.true _ _ _ k h
    (turn_visit _ _ _ _ _ _ _ (c.keeps_waiting.ensures.times_value c.if-keeps_waiting.true _ _ _) refl) _ c.end_of-next.ensures.0
    (c.end_of-next.ensures.2 (omega arith)) r
    (when-law.when_waiting _ _ _ _ _ _ c.past_waits-next.ensures.waiting c.past_waits-next.ensures.upper_bound r e)))

pub when_all::when_all-loop-q-preserved-else-next-eq2 : goal.when_all::when_all-loop-q-preserved-else-next-eq2
unfolding of_bits
when_all::when_all-loop-q-preserved-else-next-eq2 t c =
    (λ r e. c.loop-q.invariant r (λ k h. when-law.when_running _ _ _ _ _ _ _ _ c.loop-q-test.true _ c.mark_of.ensures.0 c.if-mark_of-eq0.true _ _ _ k h
    (turn_visit _ _ _ _ _ _ _ (c.keeps_waiting.ensures.times_value c.if-keeps_waiting.true _ _ _) refl) _ c.end_of-next.ensures.0
    (c.end_of-next.ensures.2 (omega arith)) r e))

pub when_all::when_all-loop-q-preserved-in-Running : goal.when_all::when_all-loop-q-preserved-in-Running
unfolding of_bits
when_all::when_all-loop-q-preserved-in-Running t c =
    (λ r e. c.loop-q.invariant r (λ k h. when-law.when_running _ _ _ _ _ _ _ _ c.loop-q-test.true _ c.mark_of.ensures.0 c.if-mark_of-eq0.true _ _ _ k h
    (as_it_was (turning _ (visiting binary64 _ _)) _ _ (c.keeps_waiting.ensures.work_unchanged c.if-keeps_waiting.false)
    (turn_visit _ _ _ _ _ _ _ c.visit-result.ensures (sym c.turned-else-keeps_waiting.ensures ∙ c.in-Running.is))) _ c.end_of-next.ensures.0
    (c.end_of-next.ensures.2 (omega arith)) r e))

pub when_all::when_all-loop-q-preserved-in-Success : goal.when_all::when_all-loop-q-preserved-in-Success
unfolding of_bits
when_all::when_all-loop-q-preserved-in-Success t c =
    (λ r e. c.loop-q.invariant r (λ k h. when-law.when_success _ _ _ _ _ _ _ _ c.loop-q-test.true _ c.mark_of.ensures.0 c.if-mark_of-eq0.true _ _ _ k h
    (as_it_was (turning _ (visiting binary64 _ _)) _ _ (c.keeps_waiting.ensures.work_unchanged c.if-keeps_waiting.false)
    (turn_visit _ _ _ _ _ _ _ c.visit-result.ensures (sym c.turned-else-keeps_waiting.ensures ∙ c.in-Success.is))) _ c.end_of-next.ensures.0
    (c.end_of-next.ensures.2 (omega arith)) _ _ c.fresh.ensures.work_after c.fresh.ensures.times_after _ c.put_mark.ensures _
    c.smaller-least.ensures r e))

pub when_all::when_all-loop-q-preserved : goal.when_all::when_all-loop-q-preserved
unfolding of_bits
when_all::when_all-loop-q-preserved t c =
    (λ r e. c.loop-q.invariant r (λ k h. when-law.when_marked _ _ _ _ _ _ _ _ c.loop-q-test.true _ c.mark_of.ensures.0 k h c.if-mark_of-eq0.false _ c.end_of-next.ensures.0
    (c.end_of-next.ensures.2 (omega arith)) r e))

pub when_all::when_all-returns-then-all_marked : goal.when_all::when_all-returns-then-all_marked
unfolding of_bits
when_all::when_all-returns-then-all_marked t c =
    turn_out_lem _ _ _ _ _ _ _ (c.loop-q.invariant _ (λ k h. when-law.when_all_over _ _ _ _ _ _ _ _ k c.loop-q-test.false c.if-all_marked.true))
    (turned_back _ _ _ (sym c.turned-then-all_marked.ensures))

pub when_all::when_all-returns : goal.when_all::when_all-returns
unfolding of_bits
when_all::when_all-returns t c =
    rw c.waiting.ensures (turn_out_lem _ _ _ _ _ _ _
    (c.loop-q.invariant _ (λ k h. when-law.when_some_over _ _ _ _ _ _ _ _ k c.loop-q-test.false c.if-all_marked.false)) refl)

-- ---- race: The turns that are left lead to what the driver is to give.
pub when_all::race-loop-q-init : goal.when_all::race-loop-q-init
when_all::race-loop-q-init t c = (λ r e. when-law.race_start _ _ _ _ _ _ c.end_of-stop.ensures.0 _ (e 256 (omega (arith, c.end_of-stop.ensures.1))))

pub when_all::race-returns-then-ne : goal.when_all::race-returns-then-ne
when_all::race-returns-then-ne t c =
    c.loop-q.invariant _ (λ k h. when-law.race_ended _ _ _ _ _ _ c.loop-q-test.true _ _ _ k h _
    (law.not_running_unless _ _ c.ne.ensures c.if-ne.true) c.visit-result.ensures)

pub when_all::race-loop-q-smaller-then-next-eq2 : goal.when_all::race-loop-q-smaller-then-next-eq2
when_all::race-loop-q-smaller-then-next-eq2 t c =
    farther c.loop-q-test.true (c.end_of-next.ensures.2 (omega arith)) (passed_on c.past_waits-next.ensures.waiting)

pub when_all::race-loop-q-preserved-then-next-eq2 : goal.when_all::race-loop-q-preserved-then-next-eq2
when_all::race-loop-q-preserved-then-next-eq2 t c =
    (λ r e. c.loop-q.invariant r (λ k h. when-law.race_running _ _ _ _ _ _ c.loop-q-test.true _ _ _ k h (told_as c.visit-result.ensures (law.running_told _ _ c.ne.ensures c.if-ne.false)) _
    c.end_of-next.ensures.0 (c.end_of-next.ensures.2 (omega arith)) r
    (when-law.race_waiting _ _ _ _ c.past_waits-next.ensures.waiting c.past_waits-next.ensures.upper_bound r e)))

pub when_all::race-loop-q-preserved : goal.when_all::race-loop-q-preserved
when_all::race-loop-q-preserved t c =
    (λ r e. c.loop-q.invariant r (λ k h. when-law.race_running _ _ _ _ _ _ c.loop-q-test.true _ _ _ k h (told_as c.visit-result.ensures (law.running_told _ _ c.ne.ensures c.if-ne.false)) _
    c.end_of-next.ensures.0 (c.end_of-next.ensures.2 (omega arith)) r e))

pub when_all::race-returns : goal.when_all::race-returns
when_all::race-returns t c = rw c.waiting.ensures (c.loop-q.invariant _ (λ k h. when-law.race_over _ _ _ _ _ _ k c.loop-q-test.false))

-- ---- after: The turns that are left lead to what the driver is to give.
pub when_all::after-loop-q-init : goal.when_all::after-loop-q-init
unfolding of_bits
when_all::after-loop-q-init t c = (
  (λ r e. when-law.after_start _ _ _ _ _ _ c.end_of-stop.ensures.0 _ _ _ c.place_of-place.ensures.0 c.child-q.ensures.0 _
      (e 256 (omega (arith, c.end_of-stop.ensures.1)))),
  omega (arith, c.place_of-place.ensures.1),
)

pub when_all::after-returns-in-Stopped : goal.when_all::after-returns-in-Stopped
unfolding of_bits
when_all::after-returns-in-Stopped t c =
    c.loop-q.invariant.0 _ (λ k h. when-law.after_stopped _ _ _ _ _ _ _ _ _ _ c.loop-q-test.true _ _ _ k h _
    c.in-Stopped.is c.visit-result.ensures)

pub when_all::after-returns-in-Failure : goal.when_all::after-returns-in-Failure
unfolding of_bits
when_all::after-returns-in-Failure t c =
    c.loop-q.invariant.0 _ (λ k h. when-law.after_failed _ _ _ _ _ _ _ _ _ _ c.loop-q-test.true _ _ _ k h _
    c.in-Failure.is c.visit-result.ensures _ c.put_place.ensures)

pub when_all::after-returns-then-not-sooner : goal.when_all::after-returns-then-not-sooner
unfolding of_bits
when_all::after-returns-then-not-sooner t c =
    c.loop-q.invariant.0 _ (λ k h. when-law.after_late _ _ _ _ _ _ _ _ _ _ c.loop-q-test.true _ _ _ k h
    (told_as c.visit-result.ensures c.in-Success.is) (sym c.sooner.ensures ∙ c.if-not-sooner.true) _
    c.put_place-then-not-sooner.ensures _ c.smaller.ensures)

pub when_all::after-loop-q-preserved-in-Running : goal.when_all::after-loop-q-preserved-in-Running
unfolding of_bits
when_all::after-loop-q-preserved-in-Running t c =
    let n = c.end_of-next.ensures.2 (omega arith) in (
      (λ r e. c.loop-q.invariant.0 r (λ k h. when-law.after_running _ _ _ _ _ _ _ _ _ _ c.loop-q-test.true _ _ _ _ c.end_of-next.ensures.0 n r k h
          (told_as c.visit-result.ensures c.in-Running.is) e)),
      omega (arith, n, c.loop-q.invariant.1),
    )

pub when_all::after-loop-q-preserved : goal.when_all::after-loop-q-preserved
unfolding of_bits
when_all::after-loop-q-preserved t c =
    let n = c.end_of-next.ensures.2 (omega arith) in (
      (λ r e. c.loop-q.invariant.0 r (λ k h. when-law.after_sooner _ _ _ _ _ _ _ _ _ _ c.loop-q-test.true _ _ _ _ c.end_of-next.ensures.0 n r k h
          (told_as c.visit-result.ensures c.in-Success.is) (sym c.sooner.ensures ∙ c.if-not-sooner.false) e)),
      omega (arith, n, c.loop-q.invariant.1),
    )

pub when_all::after-returns-then-none_running : goal.when_all::after-returns-then-none_running
unfolding of_bits
when_all::after-returns-then-none_running t c =
    c.loop-q.invariant.0 _
    (λ k h. when-law.after_all_over _ _ _ _ _ _ _ _ _ _ k c.loop-q-test.false c.if-none_running.true _ c.put_place-2.ensures)

pub when_all::after-returns : goal.when_all::after-returns
unfolding of_bits
when_all::after-returns t c =
    rw c.waiting.ensures (c.loop-q.invariant.0 _
    (λ k h. when-law.after_some_over _ _ _ _ _ _ _ _ _ _ k c.loop-q-test.false c.if-none_running.false _ c.put_place-2.ensures))
