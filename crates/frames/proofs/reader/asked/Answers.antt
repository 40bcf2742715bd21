-- `asked` meets its contract: its four fields and its answers stand one after another up to the line's end, or no such fields do.
use Rattle.std.proofs.Common.{arith, refl, subst, ℕ, [], ◌∷◌}
use Rattle.std.specs.Prelude.{Some, None}
use Rattle.frames.specs.Parts.{Skips}
use Rattle.frames.proofs.Calls.{no_front, too_many, no_event, no_answers, no_end, is_asked}
use Rattle.frames.proofs.reader.asked.Goals as goal

pub returns-in_err-dt : goal.returns-in_err-dt
returns-in_err-dt c =
    let a = c.in_ok-number in
    rw c.from_residual-in_err-dt.ensures
    (no_front c.args.call c.args.rest.now.bytes.now c.field.new.self.bytes.now c.field-2.new.self.bytes.now ((2, a.number) ∷ []) 16 (8 ∷ 4 ∷ []) refl
    (a.ensures.0, tt) a.ensures.1 c.in_err-dt.ensures)

pub returns-in_err-fuel : goal.returns-in_err-fuel
returns-in_err-fuel c =
    let a = c.in_ok-number in
    let b = c.in_ok-dt in
    rw c.from_residual-in_err-fuel.ensures
    (no_front c.args.call c.args.rest.now.bytes.now c.field-2.new.self.bytes.now c.field-3.new.self.bytes.now ((2, a.number) ∷ (16, b.dt) ∷ []) 8 (4 ∷ []) refl
    (a.ensures.0, (b.ensures.0, tt)) (cc (a.ensures.1, b.ensures.1)) c.in_err-fuel.ensures)

pub returns-in_err-count : goal.returns-in_err-count
returns-in_err-count c =
    let a = c.in_ok-number in
    let b = c.in_ok-dt in
    let d = c.in_ok-fuel in
    rw c.from_residual-in_err-count.ensures
    (no_front c.args.call c.args.rest.now.bytes.now c.field-3.new.self.bytes.now c.field-4.new.self.bytes.now
    ((2, a.number) ∷ (16, b.dt) ∷ (8, d.field-0) ∷ []) 4 [] refl
    (a.ensures.0, (b.ensures.0, (d.ensures.0, tt))) (cc (a.ensures.1, b.ensures.1, d.ensures.1)) c.in_err-count.ensures)

pub returns-then-count-gt1024 : goal.returns-then-count-gt1024
returns-then-count-gt1024 c =
    let a = c.in_ok-number in
    let b = c.in_ok-dt in
    let d = c.in_ok-fuel in
    let k = c.in_ok-count in
    too_many c.args.call c.args.rest.now.bytes.now c.field-4.new.self.bytes.now a.number b.dt d.field-0 k.field-0
    (a.ensures.0, (b.ensures.0, (d.ensures.0, (k.ensures.0, tt)))) (cc (a.ensures.1, b.ensures.1, d.ensures.1, k.ensures.1)) (omega arith)

pub returns-in_err-skip : goal.returns-in_err-skip
returns-in_err-skip c =
    let a = c.in_ok-number in
    let b = c.in_ok-dt in
    let d = c.in_ok-fuel in
    let k = c.in_ok-count in
    rw c.from_residual-in_err-skip.ensures
    (no_answers c.args.call c.args.rest.now.bytes.now c.field-4.new.self.bytes.now a.number b.dt d.field-0 k.field-0
    (a.ensures.0, (b.ensures.0, (d.ensures.0, (k.ensures.0, tt)))) (cc (a.ensures.1, b.ensures.1, d.ensures.1, k.ensures.1)) c.skip.new.self.bytes.now
    (subst (λ (n : ℕ). Skips c.field-4.new.self.bytes.now n None c.skip.new.self.bytes.now) c.from.ensures c.in_err-skip.ensures))

pub returns-in_err-end : goal.returns-in_err-end
returns-in_err-end c =
    let a = c.in_ok-number in
    let b = c.in_ok-dt in
    let d = c.in_ok-fuel in
    let k = c.in_ok-count in
    rw c.from_residual-in_err-end.ensures
    (no_end c.args.call c.args.rest.now.bytes.now c.field-4.new.self.bytes.now a.number b.dt d.field-0 k.field-0
    (a.ensures.0, (b.ensures.0, (d.ensures.0, (k.ensures.0, tt)))) (cc (a.ensures.1, b.ensures.1, d.ensures.1, k.ensures.1)) c.skip.new.self.bytes.now
    (subst (λ (n : ℕ). Skips c.field-4.new.self.bytes.now n (Some tt) c.skip.new.self.bytes.now) c.from.ensures c.in_ok-skip.ensures) c.in_err-end.ensures)

pub returns-in_err-event : goal.returns-in_err-event
returns-in_err-event c =
    let a = c.in_ok-number in
    let b = c.in_ok-dt in
    let d = c.in_ok-fuel in
    let k = c.in_ok-count in
    rw c.from_residual-in_err-event.ensures
    (no_event c.args.call c.args.rest.now.bytes.now c.field-4.new.self.bytes.now a.number b.dt d.field-0 k.field-0
    (a.ensures.0, (b.ensures.0, (d.ensures.0, (k.ensures.0, tt)))) (cc (a.ensures.1, b.ensures.1, d.ensures.1, k.ensures.1)) c.in_err-event.ensures)

pub returns : goal.returns
returns c =
    let a = c.in_ok-number in
    let b = c.in_ok-dt in
    let d = c.in_ok-fuel in
    let k = c.in_ok-count in
    is_asked c.args.call c.args.rest.now.bytes.now c.field-4.new.self.bytes.now a.number b.dt d.field-0 k.field-0
    (a.ensures.0, (b.ensures.0, (d.ensures.0, (k.ensures.0, tt)))) (cc (a.ensures.1, b.ensures.1, d.ensures.1, k.ensures.1)) c.skip.new.self.bytes.now
    (subst (λ (n : ℕ). Skips c.field-4.new.self.bytes.now n (Some tt) c.skip.new.self.bytes.now) c.from.ensures c.in_ok-skip.ensures)
    c.in_ok-event.event (omega arith) c.in_ok-event.ensures c.in_ok-end.ensures
