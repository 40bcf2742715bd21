-- The frame whose line some bytes are, as a function of the bytes: fields are taken by their widths, and the frame that they say is the
-- bytes' own only if its line is those bytes again. `Finds` shows that every frame is found from its line, and from no other bytes.
use Rattle.std.specs.Prelude.{Bool, true, false, cond, Result, Ok, Err, ◌&&◌, ◌||◌, List, [], ◌∷◌, ℕ, zero, suc, ◌+◌, ◌-◌, ◌*◌, ◌^◌, leb, ltb, eqb, take, drop}
use Rattle.frames.specs.Line.{Field, body, answers_of, line}
use Rattle.frames.specs.Back.{frame_of}
use Rattle.frames.specs.declared.Frame.{Frame}
use Rattle.frames.specs.declared.Unread.{Unread}

-- the number of a digit, and of digits behind a number
abbrev pub nibble : ℕ → ℕ
nibble b = cond (ltb b 97) (b - 48) (b - 87)

abbrev pub numeral : ℕ → List ℕ → ℕ
numeral v [] = v
numeral v (b ∷ bs) = numeral (v * 16 + nibble b) bs

-- fields of these widths, each after one byte, and the bytes behind them
abbrev pub taken : List ℕ → List ℕ → List Field
taken [] bs = []
taken (w ∷ ws) bs = (w, numeral 0 (take w (drop 1 bs))) ∷ taken ws (drop w (drop 1 bs))

abbrev pub behind : List ℕ → List ℕ → List ℕ
behind [] bs = bs
behind (w ∷ ws) bs = behind ws (drop w (drop 1 bs))

-- the widths of a kind's fields, and of k answers
abbrev pub widths : ℕ → List ℕ
widths k =
    cond (eqb k 0x01) (2 ∷ 4 ∷ 16 ∷ [])
    (cond (eqb k 0x02 || eqb k 0x03) (2 ∷ 16 ∷ 8 ∷ 4 ∷ [])
    (cond (eqb k 0x82 || eqb k 0x83) (2 ∷ 2 ∷ 16 ∷ 8 ∷ 4 ∷ 4 ∷ []) (4 ∷ [])))

abbrev pub pairs : ℕ → List ℕ
pairs zero = []
pairs (suc k) = 2 ∷ 16 ∷ pairs k

-- the first of each two numbers, and the second
abbrev pub firsts : List Field → List ℕ
firsts [] = []
firsts (f ∷ []) = []
firsts (f ∷ g ∷ fs) = f.1 ∷ firsts fs

abbrev pub seconds : List Field → List ℕ
seconds [] = []
seconds (f ∷ []) = []
seconds (f ∷ g ∷ fs) = g.1 ∷ seconds fs

-- what the bytes say, if they are a frame's line
abbrev pub kind_in : List ℕ → ℕ
kind_in l = numeral 0 (take 2 l)

abbrev pub frame_in : List ℕ → Frame
frame_in l = frame_of (kind_in l) (taken (widths (kind_in l)) (drop 2 l))

abbrev pub answers_in : List ℕ → List Field
answers_in l = taken (pairs (answers_of (frame_in l))) (behind (widths (kind_in l)) (drop 2 l))

unfoldable pub statuses_in : List ℕ → List ℕ
statuses_in l = firsts (answers_in l)

unfoldable pub leftovers_in : List ℕ → List ℕ
leftovers_in l = seconds (answers_in l)

-- tests of what a frame must be
abbrev pub fitting : List Field → Bool
fitting [] = true
fitting (f ∷ fs) = ltb f.1 (16 ^ f.0) && fitting fs

abbrev pub same : List ℕ → List ℕ → Bool
same [] [] = true
same [] (y ∷ ys) = false
same (x ∷ xs) [] = false
same (x ∷ xs) (y ∷ ys) = eqb x y && same xs ys

abbrev pub is_line : Frame → List ℕ → List ℕ → List ℕ → Bool
is_line f ss ls l = leb (answers_of f) 1024 && fitting (body f ss ls) && same (line f ss ls) l

-- the frame whose line l is, or that it is no frame's
unfoldable pub found : List ℕ → Result Frame Unread
unfolding statuses_in leftovers_in
found l = cond (is_line (frame_in l) (statuses_in l) (leftovers_in l) l) (Ok (frame_in l)) (Err Unread.NoFrame)
