-- The refusals in their order, then the root's ticks as they are told.
use Rattle.std.proofs.Common.{sym, ◌∙◌}
use Rattle.std.specs.Float.{binary64}
use Rattle.std.proofs.lemmas.Result.{err_from_is_err_and}
use Rattle.tables.proofs.Good.{found_good, found_bad}
use Rattle.limits.proofs.WholeTimes.{whole_known, whole_none}
use Rattle.bound.proofs.Calls.{bad_told, rooted, step_allowed_lem, good_ready, step_not_whole, step_zero, not_bounded, bounded_told}
use Rattle.bound.proofs.root_ticks.Goals as goal
use Rattle.bound.proofs.root_ticks.Goals.{then-d-eq0-via-then-d-eq0, then-d-eq0-via-else-d-eq0+then-not-all_bounded}

pub returns-in_err-check_table : goal.returns-in_err-check_table
returns-in_err-check_table c =
    let refused = err_from_is_err_and c.from_residual.result c.from_residual.ensures.1 in
    rw (refused.1, refused.2) (bad_told binary64 _ _ _ _ (found_bad _ _ _ _ _ _ c.check_table.ensures _ c.in_err-check_table.was) _)

pub returns-in_default : goal.returns-in_default
returns-in_default c =
    let found = found_good _ _ _ _ _ _ c.check_table.ensures _ c.in_ok-check_table.was in
    step_not_whole _ _ _ _ _ found binary64 _ (whole_none binary64 _ _ c.whole.ensures c.in_default.is)

pub returns-then-d-eq0 : goal.returns-then-d-eq0
returns-then-d-eq0 c =
    let found = found_good _ _ _ _ _ _ c.check_table.ensures _ c.in_ok-check_table.was in
    let whole = whole_known binary64 _ _ c.whole.ensures _ c.in-Some.is in
    elim c.then-d-eq0.branch [
      | then-d-eq0-via-then-d-eq0 w ↦ step_zero _ _ _ _ _ found binary64 _ _ whole.0 whole.1 w.if-d-eq0.true
      | then-d-eq0-via-else-d-eq0+then-not-all_bounded w ↦
          let bounded = w.all_bounded.ensures c.check_table.new.ends _ (rooted _ _ _ found) in
          not_bounded _ _ _ _ _ found binary64 _ _ whole.0 whole.1 w.if-d-eq0.false (sym bounded ∙ w.if-not-all_bounded.true)
    ]

pub ticks-requires-clause-step : goal.ticks-requires-clause-step
ticks-requires-clause-step c =
    let whole = whole_known binary64 _ _ c.whole.ensures _ c.in-Some.is in
    step_allowed_lem binary64 _ c.if-d-eq0.false whole.2

pub ticks-requires-clause-ready : goal.ticks-requires-clause-ready
ticks-requires-clause-ready c =
    let found = found_good _ _ _ _ _ _ c.check_table.ensures _ c.in_ok-check_table.was in
    let bounded = c.all_bounded.ensures c.check_table.new.ends _ (rooted _ _ _ found) in
    good_ready _ _ _ _ _ found binary64 (sym bounded ∙ c.if-not-all_bounded.false)

pub returns : goal.returns
returns c =
    let found = found_good _ _ _ _ _ _ c.check_table.ensures _ c.in_ok-check_table.was in
    let whole = whole_known binary64 _ _ c.whole.ensures _ c.in-Some.is in
    let bounded = c.all_bounded.ensures c.check_table.new.ends _ (rooted _ _ _ found) in
    let b = sym bounded ∙ c.if-not-all_bounded.false in
    let t = c.ticks.ensures found.tree (record { held = found.stands; whole = b }) in
    bounded_told _ _ _ _ _ found binary64 _ _ whole.0 whole.1 c.if-d-eq0.false b _ t
