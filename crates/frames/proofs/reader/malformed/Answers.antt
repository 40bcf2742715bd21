-- `malformed` meets its contract: a field that is missing, or more behind the last.
use Rattle.std.proofs.Common.{refl, [], ◌∷◌}
use Rattle.frames.proofs.Bodies.{body_end}
use Rattle.frames.proofs.reader.malformed.Goals as goal

pub returns-in_err-end : goal.returns-in_err-end
returns-in_err-end c =
    rw c.from_residual-in_err-end.ensures
    (body_end 0x8f c.args.rest.now.bytes.now c.field.new.self.bytes.now
    ((4, c.in_ok-line.field-0) ∷ []) (λ fs xs ys. refl)
    (c.in_ok-line.ensures.0, tt) (c.in_ok-line.ensures.1) c.in_err-end.ensures)
