-- The line of each frame, as a run of bytes, and what reading and writing are by it.
use Rattle.std.specs.Prelude.{◌≡◌, cond, Result, Ok, Err, List, [], ◌∷◌, ◌++◌, ℕ, zero, suc, ◌^◌, ◌≤◌, ◌<◌, min, leb, length, get_or, drop}
use Rattle.frames.specs.Hex.{digits}
use Rattle.frames.specs.declared.Call.{Call}
use Rattle.frames.specs.declared.Call.TheVariants.{Tick, Restart}
use Rattle.frames.specs.declared.Event.{Event}
use Rattle.frames.specs.declared.Event.TheVariants.{Other, Update}
use Rattle.frames.specs.declared.Frame.{Frame}
use Rattle.frames.specs.declared.Frame.TheVariants.{Node, Asked, Said, Malformed}
use Rattle.frames.specs.declared.Unread.{Unread}
use Rattle.frames.specs.declared.Unwritten.{Unwritten}

-- a field: how many digits, and the number
abbrev pub Field : Type 0
Field = ℕ × ℕ

-- fields, each after a space, which is byte 32, and LF, which is 10
abbrev pub fields : List Field → List ℕ
fields [] = 10 ∷ []
fields (f ∷ fs) = (32 ∷ digits f.0 f.1) ++ fields fs

-- the two digits at the line's start, by which a tick and a restart are told apart
abbrev pub asked_no : Call → ℕ
asked_no Tick = 0x02
asked_no Restart = 0x03

abbrev pub said_no : Call → ℕ
said_no Tick = 0x82
said_no Restart = 0x83

abbrev pub kind_of : Frame → ℕ
kind_of (Node kind n limit) = 0x01
kind_of (Asked call event fuel count) = asked_no call
kind_of (Said call num status time visits used extra) = said_no call
kind_of (Malformed line) = 0x8f

abbrev pub event_no : Event → ℕ
event_no (Other minus) = 0
event_no (Update dt) = 1

-- the sign bit alone
abbrev pub minus_zero : ℕ
minus_zero = 0x8000000000000000

-- beside an other event, zero with either sign
abbrev pub event_time : Event → ℕ
event_time (Other minus) = cond minus minus_zero 0
event_time (Update dt) = dt

-- k answers from the i-th on
abbrev pub answers : ℕ → ℕ → List ℕ → List ℕ → List Field
answers zero i statuses leftovers = []
answers (suc k) i statuses leftovers = (2, get_or statuses i 0) ∷ (16, get_or leftovers i 0) ∷ answers k (suc i) statuses leftovers

-- the fields after the kind, up to the answers
abbrev pub front : Frame → List Field
front (Node kind n limit) = (2, kind) ∷ (4, n) ∷ (16, limit) ∷ []
front (Asked call event fuel count) = (2, event_no event) ∷ (16, event_time event) ∷ (8, fuel) ∷ (4, count) ∷ []
front (Said call num status time visits used extra) = (2, num) ∷ (2, status) ∷ (16, time) ∷ (8, visits) ∷ (4, used) ∷ (4, extra) ∷ []
front (Malformed number) = (4, number) ∷ []

-- how many answers a frame has
abbrev pub answers_of : Frame → ℕ
answers_of (Node kind n limit) = 0
answers_of (Asked call event fuel count) = count
answers_of (Said call num status time visits used extra) = 0
answers_of (Malformed number) = 0

abbrev pub body : Frame → List ℕ → List ℕ → List Field
body f ss ls = front f ++ answers (answers_of f) 0 ss ls

abbrev pub line : Frame → List ℕ → List ℕ → List ℕ
line f ss ls = digits 2 (kind_of f) ++ fields (body f ss ls)

-- each number has room in its field
abbrev pub Fit : List Field → Type 0
Fit [] = Unit {0}
Fit (f ∷ fs) = (f.1 < 16 ^ f.0) × Fit fs

-- f with the answers in ss and ls is a frame: at most 1,024 answers, all of them there, and every number within its width
pub record Good (f : Frame) (ss ls : List ℕ) : Type 0 where
  pub few : answers_of f ≤ 1024
  pub statuses : answers_of f ≤ length ss
  pub leftovers : answers_of f ≤ length ls
  pub fit : Fit (body f ss ls)

-- a is b from its k-th element on, and as long
abbrev pub Kept : ℕ → List ℕ → List ℕ → Type 0
Kept k a b = (length a ≡ length b) × (drop k a ≡ drop k b)

-- what reading l may answer, with what the two slices hold then: the frame whose line l is, with its answers in front of what was there;
-- that l is no frame's line; or that there is no room for its answers
abbrev pub Reads : List ℕ → List ℕ → List ℕ → Result Frame Unread → List ℕ → List ℕ → Type 0
Reads l ss ls (Ok f) ss' ls' =
    Good f ss' ls' × (line f ss' ls' ≡ l) × Kept (answers_of f) ss' ss × Kept (answers_of f) ls' ls
Reads l ss ls (Err Unread.NoFrame) ss' ls' =
    ((f : Frame) (xs ys : List ℕ) → Good f xs ys → line f xs ys ≡ l → ⊥) × (ss' ≡ ss) × (ls' ≡ ls)
Reads l ss ls (Err Unread.TooShort) ss' ls' =
    ((f : Frame) × (xs : List ℕ) × (ys : List ℕ) × Good f xs ys × (line f xs ys ≡ l) × (min (length ss) (length ls) < answers_of f))
    × (ss' ≡ ss) × (ls' ≡ ls)

-- a line in front of what a room held
abbrev pub laid : List ℕ → List ℕ → List ℕ
laid l room = l ++ drop (length l) room

-- what writing f with the answers in ss and ls answers, and what the room holds then: no such frame or too little room leave it as it was
abbrev pub wrote : Frame → List ℕ → List ℕ → List ℕ → Result ℕ Unwritten × List ℕ
wrote f ss ls room =
    cond (leb (answers_of f) (min 1024 (min (length ss) (length ls))))
    (cond (leb (length (line f ss ls)) (length room))
    (Ok (length (line f ss ls)), laid (line f ss ls) room)
    (Err Unwritten.TooShort, room))
    (Err Unwritten.NoFrame, room)
