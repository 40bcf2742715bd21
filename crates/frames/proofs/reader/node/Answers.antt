-- `node` meets its contract: a field that is missing, or more behind the last.
use Rattle.std.proofs.Common.{refl, [], ◌∷◌}
use Rattle.frames.proofs.Bodies.{body_lacks, body_end}
use Rattle.frames.proofs.reader.node.Goals as goal

pub returns-in_err-n : goal.returns-in_err-n
returns-in_err-n c =
    rw c.from_residual-in_err-n.ensures
    (body_lacks 1 c.args.rest.now.bytes.now c.field.new.self.bytes.now c.field-2.new.self.bytes.now
    ((2, c.in_ok-kind.field-0) ∷ []) 4 (16 ∷ []) (λ fs xs ys. refl)
    (c.in_ok-kind.ensures.0, tt) (c.in_ok-kind.ensures.1) c.in_err-n.ensures)

pub returns-in_err-limit : goal.returns-in_err-limit
returns-in_err-limit c =
    rw c.from_residual-in_err-limit.ensures
    (body_lacks 1 c.args.rest.now.bytes.now c.field-2.new.self.bytes.now c.field-3.new.self.bytes.now
    ((2, c.in_ok-kind.field-0) ∷ (4, c.in_ok-n.field-0) ∷ []) 16 [] (λ fs xs ys. refl)
    (c.in_ok-kind.ensures.0, (c.in_ok-n.ensures.0, tt)) (cc (c.in_ok-kind.ensures.1, c.in_ok-n.ensures.1)) c.in_err-limit.ensures)

pub returns-in_err-end : goal.returns-in_err-end
returns-in_err-end c =
    rw c.from_residual-in_err-end.ensures
    (body_end 1 c.args.rest.now.bytes.now c.field-3.new.self.bytes.now
    ((2, c.in_ok-kind.field-0) ∷ (4, c.in_ok-n.field-0) ∷ (16, c.in_ok-limit.limit) ∷ []) (λ fs xs ys. refl)
    (c.in_ok-kind.ensures.0, (c.in_ok-n.ensures.0, (c.in_ok-limit.ensures.0, tt))) (cc (c.in_ok-kind.ensures.1, c.in_ok-n.ensures.1, c.in_ok-limit.ensures.1)) c.in_err-end.ensures)
