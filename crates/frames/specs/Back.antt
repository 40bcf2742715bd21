-- A frame is told by its kind and its fields.
use Rattle.std.specs.Prelude.{◌≡◌, refl, true, false, cond, List, ◌++◌, ℕ, ◌^◌, ◌<◌, eqb, get_or}
use Rattle.std.proofs.Common.{sym, ap, ◌∙◌, lit<}
use Rattle.frames.specs.Line.{Field, asked_no, said_no, kind_of, front, answers, answers_of, minus_zero, body}
use Rattle.frames.specs.declared.Call.{Call}
use Rattle.frames.specs.declared.Call.TheVariants.{Tick, Restart}
use Rattle.frames.specs.declared.Event.{Event}
use Rattle.frames.specs.declared.Event.TheVariants.{Other, Update}
use Rattle.frames.specs.declared.Frame.{Frame}
use Rattle.frames.specs.declared.Frame.TheVariants.{Node, Asked, Said, Malformed}

abbrev pub value : List Field → ℕ → ℕ
value fs i = (get_or fs i (0, 0)).1

abbrev pub event_of : List Field → Event
event_of fs = cond (eqb (value fs 0) 0) (Other (eqb (value fs 1) minus_zero)) (Update (value fs 1))

-- the call with these fields, and what is said of it
abbrev pub asked_of : Call → List Field → Frame
asked_of c fs = Asked c (event_of fs) (value fs 2) (value fs 3)

abbrev pub said_of : Call → List Field → Frame
said_of c fs = Said c (value fs 0) (value fs 1) (value fs 2) (value fs 3) (value fs 4) (value fs 5)

abbrev pub frame_of : ℕ → List Field → Frame
frame_of k fs =
    cond (eqb k 0x01) (Node (value fs 0) (value fs 1) (value fs 2))
    (cond (eqb k 0x02) (asked_of Tick fs)
    (cond (eqb k 0x03) (asked_of Restart fs)
    (cond (eqb k 0x82) (said_of Tick fs)
    (cond (eqb k 0x83) (said_of Restart fs) (Malformed (value fs 0))))))

pub asked_of_lem : (c : Call) (fs : List Field) → frame_of (asked_no c) fs ≡ asked_of c fs
asked_of_lem Tick fs = refl
asked_of_lem Restart fs = refl

pub said_of_lem : (c : Call) (fs : List Field) → frame_of (said_no c) fs ≡ said_of c fs
said_of_lem Tick fs = refl
said_of_lem Restart fs = refl

-- whatever fields come behind them
pub frame_back : (f : Frame) (more : List Field) → frame_of (kind_of f) (front f ++ more) ≡ f
frame_back (Node kind n limit) more = refl
frame_back (Asked c (Other true) fuel count) more = asked_of_lem c (front (Asked c (Other true) fuel count) ++ more)
frame_back (Asked c (Other false) fuel count) more = asked_of_lem c (front (Asked c (Other false) fuel count) ++ more)
frame_back (Asked c (Update dt) fuel count) more = asked_of_lem c (front (Asked c (Update dt) fuel count) ++ more)
frame_back (Said c num status time visits used extra) more = said_of_lem c (front (Said c num status time visits used extra) ++ more)
frame_back (Malformed number) more = refl

-- a frame of kind k is the one that its fields say
pub frame_of_lem : (k : ℕ) (f : Frame) (ss ls : List ℕ) → kind_of f ≡ k → frame_of k (body f ss ls) ≡ f
frame_of_lem k f ss ls e = ap (λ (j : ℕ). frame_of j (body f ss ls)) (sym e) ∙ frame_back f (answers (answers_of f) 0 ss ls)

asked_small : (c : Call) → asked_no c < 16 ^ 2
asked_small Tick = lit< tt
asked_small Restart = lit< tt

said_small : (c : Call) → said_no c < 16 ^ 2
said_small Tick = lit< tt
said_small Restart = lit< tt

pub kind_small : (f : Frame) → kind_of f < 16 ^ 2
kind_small (Node kind n limit) = lit< tt
kind_small (Asked c event fuel count) = asked_small c
kind_small (Said c num status time visits used extra) = said_small c
kind_small (Malformed number) = lit< tt
