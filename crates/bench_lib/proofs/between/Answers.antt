use Rattle.std.proofs.Common.{sym, ◌∙◌, subst, leb-true, OnErr, Result, Ok, Err}
use lib.Ieee.{of_bits}
use Rattle.bench_line.specs.Bench.{fresh_run}
use Rattle.bench_lib.specs.Served.{Waits}
use Rattle.bench_lib.proofs.Told.{told_first, told_lined, told_reads, breaks_written, breaks_read, breaks, done_off, done_end, done_all}
use Rattle.bench_lib.proofs.between.Goals as goal
use Rattle.bench_lib.proofs.between.Goals.{then-has_room+else-input+in_ok-read_on, else-has_room}

on_err : {A E : Type 0} (r : Result A E) {P : Type 0} → P → OnErr r P
on_err (Ok x) p = tt
on_err (Err e) p = p

pub loop-init : goal.loop-init
unfolding fresh_run of_bits
loop-init g c = told_first _ _ _ _ (c.new-held.ensures.state _ _ _) c.new-input.ensures

pub returns-in_err-flush-clause-err : goal.returns-in_err-flush-clause-err
returns-in_err-flush-clause-err g c =
    let e = c.in_err-flush.ensures.err in
    on_err _ (breaks_written _ _ _ _ _ _ c.loop.invariant c.lines.ensures.lined e.0 e.2)

pub returns-then-not-held-clause-ok : goal.returns-then-not-held-clause-ok
returns-then-not-held-clause-ok g c =
    let d = told_lined _ _ _ _ _ _ c.loop.invariant c.lines.ensures.lined c.in_ok-flush.ensures.ok in
    done_all _ _ _ _ (done_off _ _ _ _ _ _ _ d c.if-not-held.true)

pub returns-then-not-held-clause-read : goal.returns-then-not-held-clause-read
returns-then-not-held-clause-read g c =
    let d = told_lined _ _ _ _ _ _ c.loop.invariant c.lines.ensures.lined c.in_ok-flush.ensures.ok in
    let e = done_off _ _ _ _ _ _ _ d c.if-not-held.true in
    (e.read, e.took, e.wrote)

pub returns-then-input-clause-ok : goal.returns-then-input-clause-ok
returns-then-input-clause-ok g c =
    let l = c.lines.ensures.lined in
    let d = told_lined _ _ _ _ _ _ c.loop.invariant l c.in_ok-flush.ensures.ok in
    let w = subst (Waits _) (sym l.last) (l.waits c.if-not-held.false (leb-true _ _ (sym c.has_room.ensures ∙ c.if-has_room.true))) in
    done_all _ _ _ _ (done_end _ _ _ _ _ _ _ d c.if-input.true w)

pub returns-then-input-clause-read : goal.returns-then-input-clause-read
returns-then-input-clause-read g c =
    let l = c.lines.ensures.lined in
    let d = told_lined _ _ _ _ _ _ c.loop.invariant l c.in_ok-flush.ensures.ok in
    let w = subst (Waits _) (sym l.last) (l.waits c.if-not-held.false (leb-true _ _ (sym c.has_room.ensures ∙ c.if-has_room.true))) in
    let e = done_end _ _ _ _ _ _ _ d c.if-input.true w in
    (e.read, e.took, e.wrote)

pub returns-in_err-read_on-clause-err : goal.returns-in_err-read_on-clause-err
returns-in_err-read_on-clause-err g c =
    let d = told_lined _ _ _ _ _ _ c.loop.invariant c.lines.ensures.lined c.in_ok-flush.ensures.ok in
    on_err _ (breaks_read _ _ _ _ _ _ _ _ d c.in_err-read_on.ensures.err)

pub returns-clause-err : goal.returns-clause-err
returns-clause-err g c = breaks _ _ _ _ _ _ _ c.loop.invariant

pub loop-preserved : goal.loop-preserved
loop-preserved g c =
    let l = c.lines.ensures.lined in
    let d = told_lined _ _ _ _ _ _ c.loop.invariant l c.in_ok-flush.ensures.ok in
    elim c.if-has_room.branch [
      | then-has_room+else-input+in_ok-read_on w ↦
          let waits = subst (Waits _) (sym l.last) (l.waits c.if-not-held.false (leb-true _ _ (sym c.has_room.ensures ∙ w.if-has_room.true))) in
          rw (w.from-is, w.input-is) (told_reads _ _ _ _ d w.if-input.false w.in_ok-read_on.ensures.ok waits)
      | else-has_room w ↦ rw (w.from-is, w.input-is) d
    ]
