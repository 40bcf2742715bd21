-- `said` meets its contract: a field that is missing, or more behind the last.
use Rattle.std.proofs.Common.{[], ◌∷◌}
use Rattle.frames.proofs.Bodies.{said_wide, body_lacks, body_end}
use Rattle.frames.proofs.reader.said.Goals as goal

pub returns-in_err-status : goal.returns-in_err-status
returns-in_err-status c =
    rw c.from_residual-in_err-status.ensures
    (body_lacks _ c.args.rest.now.bytes.now c.field.new.self.bytes.now c.field-2.new.self.bytes.now
    ((2, c.in_ok-no.field-0) ∷ []) 2 (16 ∷ 8 ∷ 4 ∷ 4 ∷ []) (said_wide c.args.call)
    (c.in_ok-no.ensures.0, tt) (c.in_ok-no.ensures.1) c.in_err-status.ensures)

pub returns-in_err-time : goal.returns-in_err-time
returns-in_err-time c =
    rw c.from_residual-in_err-time.ensures
    (body_lacks _ c.args.rest.now.bytes.now c.field-2.new.self.bytes.now c.field-3.new.self.bytes.now
    ((2, c.in_ok-no.field-0) ∷ (2, c.in_ok-status.field-0) ∷ []) 16 (8 ∷ 4 ∷ 4 ∷ []) (said_wide c.args.call)
    (c.in_ok-no.ensures.0, (c.in_ok-status.ensures.0, tt)) (cc (c.in_ok-no.ensures.1, c.in_ok-status.ensures.1)) c.in_err-time.ensures)

pub returns-in_err-visits : goal.returns-in_err-visits
returns-in_err-visits c =
    rw c.from_residual-in_err-visits.ensures
    (body_lacks _ c.args.rest.now.bytes.now c.field-3.new.self.bytes.now c.field-4.new.self.bytes.now
    ((2, c.in_ok-no.field-0) ∷ (2, c.in_ok-status.field-0) ∷ (16, c.in_ok-time.time) ∷ []) 8 (4 ∷ 4 ∷ []) (said_wide c.args.call)
    (c.in_ok-no.ensures.0, (c.in_ok-status.ensures.0, (c.in_ok-time.ensures.0, tt))) (cc (c.in_ok-no.ensures.1, c.in_ok-status.ensures.1, c.in_ok-time.ensures.1)) c.in_err-visits.ensures)

pub returns-in_err-used : goal.returns-in_err-used
returns-in_err-used c =
    rw c.from_residual-in_err-used.ensures
    (body_lacks _ c.args.rest.now.bytes.now c.field-4.new.self.bytes.now c.field-5.new.self.bytes.now
    ((2, c.in_ok-no.field-0) ∷ (2, c.in_ok-status.field-0) ∷ (16, c.in_ok-time.time) ∷ (8, c.in_ok-visits.field-0) ∷ []) 4 (4 ∷ []) (said_wide c.args.call)
    (c.in_ok-no.ensures.0, (c.in_ok-status.ensures.0, (c.in_ok-time.ensures.0, (c.in_ok-visits.ensures.0, tt)))) (cc (
      c.in_ok-no.ensures.1,
      c.in_ok-status.ensures.1,
      c.in_ok-time.ensures.1,
      c.in_ok-visits.ensures.1,
    )) c.in_err-used.ensures)

pub returns-in_err-extra : goal.returns-in_err-extra
returns-in_err-extra c =
    rw c.from_residual-in_err-extra.ensures
    (body_lacks _ c.args.rest.now.bytes.now c.field-5.new.self.bytes.now c.field-6.new.self.bytes.now
    ((2, c.in_ok-no.field-0) ∷ (2, c.in_ok-status.field-0) ∷ (16, c.in_ok-time.time) ∷ (8, c.in_ok-visits.field-0) ∷ (4, c.in_ok-used.field-0) ∷ []) 4 [] (said_wide c.args.call)
    (c.in_ok-no.ensures.0, (c.in_ok-status.ensures.0, (c.in_ok-time.ensures.0, (c.in_ok-visits.ensures.0, (c.in_ok-used.ensures.0, tt))))) (cc
    (c.in_ok-no.ensures.1, c.in_ok-status.ensures.1, c.in_ok-time.ensures.1, c.in_ok-visits.ensures.1, c.in_ok-used.ensures.1))
    c.in_err-extra.ensures)

pub returns-in_err-end : goal.returns-in_err-end
returns-in_err-end c =
    rw c.from_residual-in_err-end.ensures
    (body_end _ c.args.rest.now.bytes.now c.field-6.new.self.bytes.now
    ((2, c.in_ok-no.field-0) ∷ (2, c.in_ok-status.field-0) ∷ (16, c.in_ok-time.time) ∷ (8, c.in_ok-visits.field-0) ∷ (4, c.in_ok-used.field-0) ∷ (
      4,
      c.in_ok-extra.field-0,
    ) ∷ []) (said_wide c.args.call) (
      c.in_ok-no.ensures.0,
      (
        c.in_ok-status.ensures.0,
        (
          c.in_ok-time.ensures.0,
          (
            c.in_ok-visits.ensures.0,
            (
              c.in_ok-used.ensures.0,
              (c.in_ok-extra.ensures.0, tt),
            ),
          ),
        ),
      ),
    ) (cc (
      c.in_ok-no.ensures.1,
      c.in_ok-status.ensures.1,
      c.in_ok-time.ensures.1,
      c.in_ok-visits.ensures.1,
      c.in_ok-used.ensures.1,
      c.in_ok-extra.ensures.1,
    )) c.in_err-end.ensures)
