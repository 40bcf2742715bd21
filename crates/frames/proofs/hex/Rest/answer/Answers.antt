-- `answer` meets its contract: where the status stands there and no leftover behind it, no answer does.
use Rattle.std.proofs.Common.{refl, [], ◌∷◌}
use Rattle.frames.proofs.Fields.{lacks}
use Rattle.frames.proofs.hex.Rest.answer.Goals as goal

pub returns-in_err-leftover : goal.returns-in_err-leftover
returns-in_err-leftover c =
    let status = c.in_ok-status in
    rw c.from_residual-in_err-leftover.ensures
    (λ a b t h k e.
    lacks c.args.self.now.bytes.now c.field.new.self.bytes.now c.field-2.new.self.bytes.now ((2, status.field-0) ∷ []) 16 []
    (status.ensures.0, tt) status.ensures.1 c.in_err-leftover.ensures ((2, a) ∷ (16, b) ∷ []) t refl (h, (k, tt)) e)
