-- `fill` meets its contract.
use Rattle.std.proofs.Common.{arith, refl, sym, ap, subst, ◌≡◌, ◌∙◌, ℕ, [], ◌∷◌, drop, length-set}
use Rattle.frames.specs.Line.{answers}
use Rattle.frames.proofs.Fields.{fields_ahead}
use Rattle.frames.proofs.Runs.{Taken, none_taken, taken_all, one_taken, drop_front}
use Rattle.frames.proofs.reader.fill.Goals as goal
use Rattle.frames.proofs.reader.fill.Goals.{After-split_at}

-- the answers' part of the line
front : (c : After-split_at) → c.split_at.result.1.now ≡ drop 36 c.args.line.now
front c = c.split_at.ensures.back ∙ ap (λ (k : ℕ). drop k c.args.line.now) c.min.ensures ∙ drop_front c.args.line.now

pub loop-i-init : goal.loop-i-init
loop-i-init c = record { statuses_length = refl; leftovers_length = refl; taken = none_taken _ _ _ }

pub returns-in_err-status : goal.returns-in_err-status
returns-in_err-status c =
    let l = c.loop-i in
    let h = l.invariant.taken in
    rw c.from_residual.ensures (
      omega arith,
      λ xs ys f e.
          taken_all c.split_at.result.1.now l.rest.bytes.now c.answer.new.self.bytes.now l.i c.args.count l.statuses l.leftovers (omega arith) h.fit h.there c.in_err-status.ensures
          xs ys (10 ∷ []) f (front (goal.at.returns-in_err-status c).After-split_at ∙ e ∙ fields_ahead (answers c.args.count 0 xs ys)),
    )

pub loop-i-preserved : goal.loop-i-preserved
loop-i-preserved c =
    let l = c.loop-i in
    record {
      statuses_length = simp length-set l.invariant.statuses_length;
      leftovers_length = simp length-set l.invariant.leftovers_length;
      taken = one_taken c.split_at.result.1.now l.i c.args.statuses.now l.statuses c.args.leftovers.now l.leftovers l.rest.bytes.now c.answer.new.self.bytes.now
          (c.in_ok-status.status, c.in_ok-status.leftover) (omega arith) (omega arith) l.invariant.taken c.in_ok-status.ensures;
    }

pub returns : goal.returns
returns c =
    let l = c.loop-i in
    let e : l.i ≡ c.args.count = omega arith in
    let h = subst (λ (k : ℕ). Taken c.split_at.result.1.now k c.args.statuses.now l.statuses c.args.leftovers.now l.leftovers l.rest.bytes.now) e l.invariant.taken in
    (h.statuses, h.leftovers, h.fit, (l.rest.bytes.now, sym (front (goal.at.returns c).After-split_at) ∙ h.there))
