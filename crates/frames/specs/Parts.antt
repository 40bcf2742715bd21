-- What the parts of reading and writing answer. None of it is cited by what a caller is promised.
use Rattle.std.specs.Prelude.{◌≡◌, Option, Some, None, List, [], ◌∷◌, ◌++◌, ℕ, suc, ◌+◌, ◌*◌, ◌^◌, ◌<◌, length, take, drop}
use Rattle.frames.specs.Hex.{digit, digits}
use Rattle.frames.specs.Line.{Field, Fit, Good, fields, kind_of, body, line, answers, event_no, event_time}
use Rattle.frames.specs.declared.Event.{Event}
use Rattle.frames.specs.declared.Frame.{Frame}
use Rattle.frames.specs.declared.Frame.TheVariants.{Node, Asked, Said, Malformed}

-- r is the number of the digit b, and None where b is no digit
abbrev pub Nibble : ℕ → Option ℕ → Type 0
Nibble b (Some d) = (d < 16) × (b ≡ digit d)
Nibble b None = (d : ℕ) → d < 16 → b ≡ digit d → ⊥

-- r is the number in front of a run, where numbers are written as bytes says, and rest is what stands behind it; None where none is there
abbrev pub Stands : (ℕ → List ℕ) → List ℕ → ℕ → Option ℕ → List ℕ → Type 0
Stands bytes s w (Some v) rest = (v < 16 ^ w) × (s ≡ bytes v ++ rest)
Stands bytes s w None rest = (v : ℕ) (t : List ℕ) → v < 16 ^ w → s ≡ bytes v ++ t → ⊥

-- the number in w digits in front of a run
abbrev pub Number : List ℕ → ℕ → Option ℕ → List ℕ → Type 0
Number s w = Stands (digits w) s w

-- the number in w digits after a space in front of a run
abbrev pub FieldAt : List ℕ → ℕ → Option ℕ → List ℕ → Type 0
FieldAt s w = Stands (λ v. 32 ∷ digits w v) s w

-- fields, each after a space, in front of a run
abbrev pub ahead : List Field → List ℕ → List ℕ
ahead [] t = t
ahead (f ∷ fs) t = (32 ∷ digits f.0 f.1) ++ ahead fs t

-- the answer in front of a run: its status and its leftover
abbrev pub AnswerAt : List ℕ → Option (ℕ × ℕ) → List ℕ → Type 0
AnswerAt s (Some p) rest = (p.0 < 16 ^ 2) × (p.1 < 16 ^ 16) × (s ≡ ahead ((2, p.0) ∷ (16, p.1) ∷ []) rest)
AnswerAt s None rest = (a b : ℕ) (t : List ℕ) → a < 16 ^ 2 → b < 16 ^ 16 → s ≡ ahead ((2, a) ∷ (16, b) ∷ []) t → ⊥

-- k answers stand in front of a run, and rest behind them; None where so many are not there
abbrev pub Skips : List ℕ → ℕ → Option Unit → List ℕ → Type 0
Skips s k (Some u) rest =
    (xs : List ℕ) × (ys : List ℕ) × (length xs ≡ k) × (length ys ≡ k) × Fit (answers k 0 xs ys) × (s ≡ ahead (answers k 0 xs ys) rest)
Skips s k None rest = (xs ys t : List ℕ) → Fit (answers k 0 xs ys) → s ≡ ahead (answers k 0 xs ys) t → ⊥

-- whether a run is the end of a line alone
abbrev pub Ends : List ℕ → Option Unit → Type 0
Ends rest (Some u) = rest ≡ fields []
Ends rest None = rest ≡ fields [] → ⊥

-- the event that two fields say
abbrev pub EventIs : ℕ → ℕ → Option Event → Type 0
EventIs num dt (Some e) = (event_no e ≡ num) × (event_time e ≡ dt)
EventIs num dt None = (e : Event) → event_no e ≡ num → event_time e ≡ dt → ⊥

-- rest is what stands after the digits of a kind
abbrev pub Body : ℕ → List ℕ → Option Frame → Type 0
Body kind rest (Some f) =
    (kind_of f ≡ kind) × ((xs : List ℕ) × (ys : List ℕ) × Good f xs ys × (fields (body f xs ys) ≡ rest))
Body kind rest None = (f : Frame) (xs ys : List ℕ) → kind_of f ≡ kind → Good f xs ys → fields (body f xs ys) ≡ rest → ⊥

-- l is the line of a frame, whatever its answers
abbrev pub Whole : List ℕ → Option Frame → Type 0
Whole l (Some f) = (xs : List ℕ) × (ys : List ℕ) × Good f xs ys × (line f xs ys ≡ l)
Whole l None = (f : Frame) (xs ys : List ℕ) → Good f xs ys → line f xs ys ≡ l → ⊥

-- the answers that stand in l, in front of what the slices held; None where no k answers are the rest of the line
abbrev pub Filled : List ℕ → ℕ → List ℕ → List ℕ → Option Unit → List ℕ → List ℕ → Type 0
Filled l k ss ls (Some u) ss' ls' =
    (drop k ss' ≡ drop k ss) × (drop k ls' ≡ drop k ls) × Fit (answers k 0 ss' ls')
    × ((t : List ℕ) × (drop 36 l ≡ ahead (answers k 0 ss' ls') t))
Filled l k ss ls None ss' ls' = (0 < k) × ((xs ys : List ℕ) → Fit (answers k 0 xs ys) → drop 36 l ≡ fields (answers k 0 xs ys) → ⊥)

-- a run with others put over it from a place on
abbrev pub over : List ℕ → ℕ → List ℕ → List ℕ
over d at s = take at d ++ (s ++ drop (at + length s) d)

-- fields, each after a space
abbrev pub spread : List Field → List ℕ
spread [] = []
spread (f ∷ fs) = (32 ∷ digits f.0 f.1) ++ spread fs

-- how many bytes they take
abbrev pub span : List Field → ℕ
span [] = 0
span (f ∷ fs) = suc f.0 + span fs

-- fields put over a run from a place on, up to next
pub record Puts (d : List ℕ) (at : ℕ) (fs : List Field) (d' : List ℕ) (next : ℕ) : Type 0 where
  pub bytes : d' ≡ over d at (spread fs)
  pub place : next ≡ at + span fs

-- how many bytes a frame's line has
abbrev pub size_of : Frame → ℕ
size_of (Node kind n limit) = 28
size_of (Asked call event fuel count) = 37 + 20 * count
size_of (Said call num status time visits used extra) = 45
size_of (Malformed number) = 8
