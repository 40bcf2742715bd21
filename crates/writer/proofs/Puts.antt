-- A line put into a room field by field.
use mathlib.Core.Path.{◌≡◌, refl, sym, ap, ap₂, subst, ◌∙◌}
use mathlib.Core.List.{List, [], ◌∷◌, ◌++◌, append_assoc}
use Prim.Native.Nat.{ℕ, zero, suc, ◌+◌, ◌*◌, ◌/◌, ◌%◌, ◌^◌, ◌≤◌, ◌<◌}
use native.Mathlib.Nat.{zero-add}
use native.Mathlib.Numerals.{add-one}
use native.Mathlib.Omega.{arith}
use lib.Seq.{take-suc}
use lib.ListN.{length, get_or, take, drop, set, length-append}
use Rattle.frames.specs.Hex.{digit, digits}
use Rattle.frames.specs.Digits.{length_digits}
use Rattle.frames.specs.Over.{over_set, over_over, over_before, length_over}
use Rattle.frames.specs.declared.Frame.{Frame}
use Rattle.frames.specs.declared.Frame.TheVariants.{Node, Asked, Said, Malformed}
use Rattle.frames.specs.Line.{Field, Fit, fields, front, laid, answers, answers_of}
use Rattle.frames.specs.Answers.{pair, answers_more}
use Rattle.frames.specs.Parts.{over, spread, size_of, span, Puts}

-- the last digit is put first
pub digit_first : (d : List ℕ) (at i j n : ℕ) → j ≡ i + 1 → at + j ≤ length d
    → over (set d (at + i) (digit (n % 16))) at (digits i (n / 16)) ≡ over d at (digits j n)
unfolding digits
digit_first d at i j n e h =
    let s = digits i (n / 16) in
    let b = digit (n % 16) in
    let l : length s ≡ i = length_digits i (n / 16) in
    ap (λ (x : List ℕ). over x at s) (over_set d (at + i) b (omega arith) ∙ ap (λ (k : ℕ). over d (at + k) (b ∷ [])) (sym l))
    ∙ over_before d at s (b ∷ []) (omega arith)
    ∙ ap (λ (k : ℕ). over d at (digits k n)) (sym (e ∙ add-one i))

length_spread : (fs : List Field) → length (spread fs) ≡ span fs
length_spread [] = refl
length_spread (f ∷ fs) =
    length-append (32 ∷ digits f.0 f.1) (spread fs)
    ∙ ap (λ (k : ℕ). k + length (spread fs)) (ap suc (length_digits f.0 f.1))
    ∙ ap (λ (k : ℕ). suc f.0 + k) (length_spread fs)

spread_both : (fs gs : List Field) → spread (fs ++ gs) ≡ spread fs ++ spread gs
spread_both [] gs = refl
spread_both (f ∷ fs) gs =
    ap (λ (l : List ℕ). (32 ∷ digits f.0 f.1) ++ l) (spread_both fs gs)
    ∙ sym (append_assoc (32 ∷ digits f.0 f.1) (spread fs) (spread gs))

span_both : (fs gs : List Field) → span (fs ++ gs) ≡ span fs + span gs
span_both [] gs = sym (zero-add (span gs))
span_both (f ∷ fs) gs = omega (arith, span_both fs gs)

pub puts_on : {d : List ℕ} {at : ℕ} {fs gs : List Field} {d' d'' : List ℕ} {n m : ℕ} → at ≤ length d → Puts d at fs d' n → Puts d' n gs d'' m
    → Puts d at (fs ++ gs) d'' m
puts_on {d} {at} {fs} {gs} {d'} {d''} {n} {m} h p q =
    record {
      bytes =
          q.bytes
          ∙ ap (λ (x : List ℕ). over x n (spread gs)) p.bytes
          ∙ ap (λ (k : ℕ). over (over d at (spread fs)) k (spread gs)) (p.place ∙ ap (λ (k : ℕ). at + k) (sym (length_spread fs)))
          ∙ over_over d at (spread fs) (spread gs) h
          ∙ ap (over d at) (sym (spread_both fs gs));
      place = omega (arith, p.place, q.place, span_both fs gs);
    }

pub answer_put : {d : List ℕ} {at : ℕ} (i : ℕ) (ss ls : List ℕ) {d' d'' d''' : List ℕ} {n m o s l : ℕ} → at ≤ length d
    → Puts d at (answers i 0 ss ls) d' n → Puts d' n ((2, s) ∷ []) d'' m → Puts d'' m ((16, l) ∷ []) d''' o
    → (2, s) ∷ (16, l) ∷ [] ≡ pair i ss ls → Puts d at (answers (i + 1) 0 ss ls) d''' o
answer_put {d} {at} i ss ls {d''' = d'''} {o = o} {s} {l} h p q r e =
    let a = puts_on h p q in
    let b = puts_on h a r in
    rw (answers_more i ss ls, ← e)
    (subst (λ (fs : List Field). Puts d at fs d''' o) (append_assoc (answers i 0 ss ls) ((2, s) ∷ []) ((16, l) ∷ [])) b)

fields_spread : (fs : List Field) → spread fs ++ (10 ∷ []) ≡ fields fs
fields_spread [] = refl
fields_spread (f ∷ fs) =
    append_assoc (32 ∷ digits f.0 f.1) (spread fs) (10 ∷ [])
    ∙ ap (λ (l : List ℕ). (32 ∷ digits f.0 f.1) ++ l) (fields_spread fs)

-- ---- a line from its start
pub kind_room : (d : List ℕ) (k : ℕ) → 2 ≤ length d → 2 ≤ length (over d 0 (digits 2 k))
kind_room d k h = rw (length_over d 0 (digits 2 k) (omega (arith, length_digits 2 k))) h

-- the kind's digits, its fields and LF are the whole line
pub line_put : (d : List ℕ) (k : ℕ) {fs : List Field} {d' : List ℕ} {n : ℕ} → Puts (over d 0 (digits 2 k)) 2 fs d' n → n < length d'
    → set d' n 10 ≡ laid (digits 2 k ++ fields fs) d
line_put d k {fs} {d'} {n} p h =
    let s = digits 2 k in
    let two : 2 ≡ 0 + length s = omega (arith, length_digits 2 k) in
    let here : n ≡ 0 + length (s ++ spread fs) = omega (arith, p.place, length-append s (spread fs), length_spread fs) in
    let q : d' ≡ over d 0 (s ++ spread fs) =
    p.bytes ∙ ap (λ (j : ℕ). over (over d 0 s) j (spread fs)) two ∙ over_over d 0 s (spread fs) (omega arith) in
    over_set d' n 10 h
    ∙ ap₂ (λ (x : List ℕ) (j : ℕ). over x j (10 ∷ [])) q here
    ∙ over_over d 0 (s ++ spread fs) (10 ∷ []) (omega arith)
    ∙ ap (over d 0) (append_assoc s (spread fs) (10 ∷ []) ∙ ap (λ (t : List ℕ). s ++ t) (fields_spread fs))
    ∙ ap (λ (j : ℕ). (s ++ fields fs) ++ drop j d) (zero-add (length (s ++ fields fs)))

-- one field more
pub fields_more : (i : ℕ) (fs : List Field) → i < length fs → take i fs ++ (get_or fs i (0, 0) ∷ []) ≡ take (i + 1) fs
fields_more i fs h = rw (add-one i) (sym (take-suc fs i (0, 0) h))

-- the i-th of the fields has its place among them
pub field_room : (i : ℕ) (fs : List Field) → i < length fs → span (take i fs) + suc (get_or fs i (0, 0)).0 ≤ span fs
field_room i [] h = absurd (omega arith)
field_room zero (f ∷ fs) h = omega arith
field_room (suc i) (f ∷ fs) h = omega (arith, field_room i fs (omega arith))

-- a line's bytes: its kind, its fields up to the answers, the answers, and LF
pub line_room : (f : Frame) → 3 + span (front f) + 20 * answers_of f ≡ size_of f
line_room (Node kind n limit) = refl
line_room (Asked call event fuel count) = refl
line_room (Said call num status time visits used extra) = refl
line_room (Malformed number) = refl

pub answers_fit : (k i : ℕ) (ss ls : List ℕ) → ((j : ℕ) → get_or ss j 0 < 2 ^ 8) → ((j : ℕ) → get_or ls j 0 < 2 ^ 64) → Fit (answers k i ss ls)
answers_fit zero i ss ls p q = tt
answers_fit (suc k) i ss ls p q = (p i, (q i, answers_fit k (suc i) ss ls p q))
