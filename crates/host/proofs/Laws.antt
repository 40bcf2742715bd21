-- What a call by value leaves, told in numbers.
use mathlib.Core.Path.{◌≡◌}
use mathlib.Core.List.{List}
use Prim.Native.Nat.{ℕ}
use Rattle.rules.specs.declared.answer.Answer.{Answer}
use Rattle.rules.specs.declared.answer.Record.{Record}
use Rattle.rules.specs.declared.event.Event.{Event}
use Rattle.rules.specs.Call.{Run, Left, left, said_of}
use Rattle.host.specs.declared.Told.{Told}
use Rattle.host.specs.Host.{host_left, told}

-- by its event, which was made from a flag and a time
pub deep_told :
    (l : Event → Left) {e f : Event} {a : Answer} {r : Record} {c s : Run} {b : List ℕ} {t : Told} →
    e ≡ f → l e ≡ left a r c s b → (t.said ≡ said_of a) × (t.«record» ≡ r) → told (l f) ≡ host_left t.said t.«record» c s b
deep_told l d e n = rw (← d, e, n.0, n.1)
