-- Reading and writing undo each other: a line is one frame's, and what is written reads back.
use Rattle.std.specs.Prelude.{◌≡◌, refl, Bool, true, false, cond, Result, Ok, Err, List, [], ◌∷◌, ◌++◌, ℕ, zero, suc, ◌+◌, ◌-◌, ◌/◌, ◌%◌, ◌^◌, ◌≤◌, ◌<◌, min, leb, length, get_or, take, drop}
use Rattle.std.proofs.Common.{sym, ap, ap₂, subst, ◌∙◌, ⊎_elim, eq-or-lt_of_le, arith, le-leb, lit<, take_at, drop_at, get_or-drop, ext_get_or}
use Rattle.std.proofs.Math.Decide.{dec_lt}
use Rattle.frames.specs.Hex.{digit, digits}
use Rattle.frames.specs.Digits.{cut, digit_above, length_digits, digits_one}
use Rattle.frames.specs.Line.{Field, Fit, Good, Kept, Reads, fields, kind_of, front, body, answers, answers_of, line, laid, wrote}
use Rattle.frames.specs.Answers.{Agree, answers_agree}
use Rattle.frames.specs.Back.{value, frame_of, frame_of_lem, kind_small}
use Rattle.frames.specs.declared.Frame.{Frame}
use Rattle.frames.specs.declared.Unread.{Unread}
use Rattle.frames.specs.declared.Unwritten.{Unwritten}

-- bytes that are above a space and LF, as digits are
abbrev Above : List ℕ → Type 0
Above [] = Unit {0}
Above (x ∷ xs) = (48 ≤ x) × Above xs

above_both : (xs ys : List ℕ) → Above xs → Above ys → Above (xs ++ ys)
above_both [] ys p q = q
above_both (x ∷ xs) ys p q = (p.0, above_both xs ys p.1 q)

digits_above : (w n : ℕ) → Above (digits w n)
unfolding digits
digits_above zero n = tt
digits_above (suc w) n = above_both (digits w (n / 16)) (digit (n % 16) ∷ []) (digits_above w (n / 16)) (digit_above (n % 16), tt)

-- a run of digits ends at the first byte that is none
run_end : (xs ys : List ℕ) (a b : ℕ) (s t : List ℕ) → Above xs → Above ys → a < 48 → b < 48 → xs ++ (a ∷ s) ≡ ys ++ (b ∷ t)
    → (xs ≡ ys) × (a ∷ s ≡ b ∷ t)
run_end [] [] a b s t p q ha hb e = (refl, e)
run_end [] (y ∷ ys) a b s t p q ha hb e = absurd (omega (arith, q.0, ap (λ (l : List ℕ). get_or l 0 0) e))
run_end (x ∷ xs) [] a b s t p q ha hb e = absurd (omega (arith, p.0, ap (λ (l : List ℕ). get_or l 0 0) e))
run_end (x ∷ xs) (y ∷ ys) a b s t p q ha hb e =
    let r = run_end xs ys a b s t p.1 q.1 ha hb (ap (drop 1) e) in
    let h : x ≡ y = ap (λ (l : List ℕ). get_or l 0 0) e in
    (ap₂ (λ (z : ℕ) (l : List ℕ). z ∷ l) h r.0, r.1)

field_end : (xs ys : List ℕ) (fs gs : List Field) → Above xs → Above ys → xs ++ fields fs ≡ ys ++ fields gs → (xs ≡ ys) × (fields fs ≡ fields gs)
field_end xs ys [] [] p q e = run_end xs ys 10 10 [] [] p q (lit< tt) (lit< tt) e
field_end xs ys [] (g ∷ gs) p q e = run_end xs ys 10 32 [] (digits g.0 g.1 ++ fields gs) p q (lit< tt) (lit< tt) e
field_end xs ys (f ∷ fs) [] p q e = run_end xs ys 32 10 (digits f.0 f.1 ++ fields fs) [] p q (lit< tt) (lit< tt) e
field_end xs ys (f ∷ fs) (g ∷ gs) p q e =
    run_end xs ys 32 32 (digits f.0 f.1 ++ fields fs) (digits g.0 g.1 ++ fields gs) p q (lit< tt) (lit< tt) e

pub field_one : (w w' v v' : ℕ) → v < 16 ^ w → v' < 16 ^ w' → digits w v ≡ digits w' v' → (w ≡ w') × (v ≡ v')
field_one w w' v v' h h' e =
    let p : w ≡ w' = sym (length_digits w v) ∙ ap length e ∙ length_digits w' v' in
    (p, digits_one w v v' h (subst (λ (k : ℕ). v' < 16 ^ k) (sym p) h') (e ∙ ap (λ (k : ℕ). digits k v') (sym p)))

-- bytes that are fields' are those fields' alone
fields_one : (fs gs : List Field) → Fit fs → Fit gs → fields fs ≡ fields gs → fs ≡ gs
fields_one [] [] p q e = refl
fields_one [] (g ∷ gs) p q e = absurd (omega (arith, ap (λ (l : List ℕ). get_or l 0 0) e))
fields_one (f ∷ fs) [] p q e = absurd (omega (arith, ap (λ (l : List ℕ). get_or l 0 0) e))
fields_one (f ∷ fs) (g ∷ gs) p q e =
    let r = field_end (digits f.0 f.1) (digits g.0 g.1) fs gs (digits_above f.0 f.1) (digits_above g.0 g.1) (ap (drop 1) e) in
    let here = field_one f.0 g.0 f.1 g.1 p.0 q.0 r.0 in
    let rest = fields_one fs gs p.1 q.1 r.1 in
    ap₂ (λ (h : Field) (l : List Field). h ∷ l) (ap₂ (λ (w v : ℕ). (w, v)) here.0 here.1) rest

answers_one : (k i : ℕ) (a b a' b' : List ℕ) → answers k i a b ≡ answers k i a' b' → (j : ℕ) → i ≤ j → j < i + k
    → (get_or a j 0 ≡ get_or a' j 0) × (get_or b j 0 ≡ get_or b' j 0)
answers_one zero i a b a' b' e j h l = absurd (omega arith)
answers_one (suc k) i a b a' b' e j h l =
    ⊎_elim
    (λ p. (
      ap (λ (m : ℕ). get_or a m 0) (sym p) ∙ ap (λ (fs : List Field). value fs 0) e ∙ ap (λ (m : ℕ). get_or a' m 0) p,
      ap (λ (m : ℕ). get_or b m 0) (sym p) ∙ ap (λ (fs : List Field). value fs 1) e ∙ ap (λ (m : ℕ). get_or b' m 0) p,
    ))
    (λ p. answers_one k (suc i) a b a' b' (ap (drop 2) e) j p (omega arith))
    (eq-or-lt_of_le h)

-- a frame's answers are its fields behind the front
body_answers : (f : Frame) (a b a' b' : List ℕ) → body f a b ≡ body f a' b' → answers (answers_of f) 0 a b ≡ answers (answers_of f) 0 a' b'
body_answers f a b a' b' e = sym (drop_at (front f) _ (length (front f)) refl) ∙ ap (drop (length (front f))) e ∙ drop_at (front f) _ (length (front f)) refl

pub body_agree : (f : Frame) (a b a' b' : List ℕ) → answers (answers_of f) 0 a b ≡ answers (answers_of f) 0 a' b' → body f a b ≡ body f a' b'
body_agree f a b a' b' e = ap (λ (fs : List Field). front f ++ fs) e

-- a line is one frame's, with one run of answers
pub line_one : (f g : Frame) (a b a' b' : List ℕ) → Good f a b → Good g a' b' → line f a b ≡ line g a' b'
    → (f ≡ g) × Agree (answers_of f) a a' × Agree (answers_of f) b b'
line_one f g a b a' b' p q e =
    let r =
    cut (digits 2 (kind_of f)) (digits 2 (kind_of g)) (fields (body f a b)) (fields (body g a' b'))
    (length_digits 2 (kind_of f) ∙ sym (length_digits 2 (kind_of g))) e in
    let k : kind_of f ≡ kind_of g = digits_one 2 (kind_of f) (kind_of g) (kind_small f) (kind_small g) r.0 in
    let s : body f a b ≡ body g a' b' = fields_one (body f a b) (body g a' b') p.fit q.fit r.1 in
    let h : f ≡ g = sym (frame_of_lem (kind_of f) f a b refl) ∙ ap₂ frame_of k s ∙ frame_of_lem (kind_of g) g a' b' refl in
    let t : answers (answers_of f) 0 a b ≡ answers (answers_of f) 0 a' b' =
    body_answers f a b a' b' (s ∙ ap (λ (x : Frame). body x a' b') (sym h)) in (
      h,
      λ j l. (answers_one (answers_of f) 0 a b a' b' t j (omega arith) (omega arith)).0,
      λ j l. (answers_one (answers_of f) 0 a b a' b' t j (omega arith) (omega arith)).1,
    )

same_slice : (k : ℕ) (a a' c : List ℕ) → Kept k a c → Kept k a' c → Agree k a a' → a ≡ a'
same_slice k a a' c p q h =
    ext_get_or 0 a a' (p.0 ∙ sym q.0) (λ i l.
    elim (dec_lt i k) [
      | yes m ↦ h i m
      | no m ↦
          let n : k + (i - k) ≡ i = omega arith in
          ap (λ (j : ℕ). get_or a j 0) (sym n)
          ∙ sym (get_or-drop k a (i - k) 0)
          ∙ ap (λ (t : List ℕ). get_or t (i - k) 0) (p.1 ∙ sym q.1)
          ∙ get_or-drop k a' (i - k) 0
          ∙ ap (λ (j : ℕ). get_or a' j 0) n
    ])

-- reading has one outcome
pub one_reading : (l ss ls : List ℕ) (r r' : Result Frame Unread) (a b a' b' : List ℕ) → Reads l ss ls r a b → Reads l ss ls r' a' b'
    → (r ≡ r') × (a ≡ a') × (b ≡ b')
one_reading l ss ls (Ok f) (Ok g) a b a' b' p q =
    let h = line_one f g a b a' b' p.0 q.0 (p.1 ∙ sym q.1) in (
      ap (λ (x : Frame). Ok x) h.0,
      same_slice (answers_of f) a a' ss p.2 (rw h.0 q.2) h.1,
      same_slice (answers_of f) b b' ls p.3 (rw h.0 q.3) h.2,
    )
one_reading l ss ls (Ok f) (Err Unread.NoFrame) a b a' b' p q = absurd (q.0 f a b p.0 p.1)
one_reading l ss ls (Ok f) (Err Unread.TooShort) a b a' b' p q =
    let t = q.0 in
    let h = line_one f t.0 a b t.1 t.2 p.0 t.3 (p.1 ∙ sym t.4) in
    absurd (omega (arith, ap answers_of h.0, t.5, p.0.statuses, p.0.leftovers, p.2.0, p.3.0))
one_reading l ss ls (Err Unread.NoFrame) (Ok g) a b a' b' p q = absurd (p.0 g a' b' q.0 q.1)
one_reading l ss ls (Err Unread.NoFrame) (Err Unread.NoFrame) a b a' b' p q = (refl, p.1 ∙ sym q.1, p.2 ∙ sym q.2)
one_reading l ss ls (Err Unread.NoFrame) (Err Unread.TooShort) a b a' b' p q = let t = q.0 in absurd (p.0 t.0 t.1 t.2 t.3 t.4)
one_reading l ss ls (Err Unread.TooShort) (Ok g) a b a' b' p q =
    let t = p.0 in
    let h = line_one g t.0 a' b' t.1 t.2 q.0 t.3 (q.1 ∙ sym t.4) in
    absurd (omega (arith, ap answers_of h.0, t.5, q.0.statuses, q.0.leftovers, q.2.0, q.3.0))
one_reading l ss ls (Err Unread.TooShort) (Err Unread.NoFrame) a b a' b' p q = let t = p.0 in absurd (q.0 t.0 t.1 t.2 t.3 t.4)
one_reading l ss ls (Err Unread.TooShort) (Err Unread.TooShort) a b a' b' p q = (refl, p.1 ∙ sym q.1, p.2 ∙ sym q.2)

number_of : Result ℕ Unwritten → ℕ
number_of (Ok n) = suc n
number_of (Err e) = 0

bytes_one : (b c : Bool) (m n : ℕ) (u room room' : List ℕ)
    → ◌≡◌ {A = Result ℕ Unwritten × List ℕ} (cond b (cond c (Ok m, u) (Err Unwritten.TooShort, room)) (Err Unwritten.NoFrame, room)) (Ok n, room')
    → (n ≡ m) × (room' ≡ u)
unfolding number_of
bytes_one true true m n u room room' e =
    let q : suc m ≡ suc n = ap (λ (p : Result ℕ Unwritten × List ℕ). number_of p.0) e in
    (omega arith, sym (ap (λ (p : Result ℕ Unwritten × List ℕ). p.1) e))
bytes_one true false m n u room room' e =
    let q : 0 ≡ suc n = ap (λ (p : Result ℕ Unwritten × List ℕ). number_of p.0) e in absurd (omega arith)
bytes_one false c m n u room room' e =
    let q : 0 ≡ suc n = ap (λ (p : Result ℕ Unwritten × List ℕ). number_of p.0) e in absurd (omega arith)

-- what was written reads back as the frame that it was written from, with its answers
pub written_reads : (f : Frame) (ss ls room : List ℕ) (n : ℕ) (room' : List ℕ) → Good f ss ls → wrote f ss ls room ≡ (Ok n, room')
    → (xs ys : List ℕ) → answers_of f ≤ length xs → answers_of f ≤ length ys → (r : Result Frame Unread) (xs' ys' : List ℕ)
    → Reads (take n room') xs ys r xs' ys' → (r ≡ Ok f) × Agree (answers_of f) ss xs' × Agree (answers_of f) ls ys'
written_reads f ss ls room n room' g w xs ys ha hb r xs' ys' h = back r (rw t at h)
  where
    m : ℕ
    m = length (line f ss ls)

    e : (n ≡ m) × (room' ≡ laid (line f ss ls) room)
    e = bytes_one (leb (answers_of f) (min 1024 (min (length ss) (length ls)))) (leb m (length room)) m n (laid (line f ss ls) room) room room' w

    t : take n room' ≡ line f ss ls
    t = ap₂ take e.0 e.1 ∙ take_at (line f ss ls) (drop m room) m refl

    back : (r : Result Frame Unread) → Reads (line f ss ls) xs ys r xs' ys' → (r ≡ Ok f) × Agree (answers_of f) ss xs' × Agree (answers_of f) ls ys'
    back (Ok k) p =
        let q = line_one f k ss ls xs' ys' g p.0 (sym p.1) in
        (ap (λ (x : Frame). Ok x) (sym q.0), q.1, q.2)
    back (Err Unread.NoFrame) p = absurd (p.0 f ss ls g refl)
    back (Err Unread.TooShort) p =
        let u = p.0 in
        let q = line_one f u.0 ss ls u.1 u.2 g u.3 (sym u.4) in
        absurd (omega (arith, ap answers_of q.0, u.5))

-- what was read is written back as the line that it was read from
pub read_writes : (l ss ls : List ℕ) (f : Frame) (ss' ls' room : List ℕ) → Reads l ss ls (Ok f) ss' ls' → length l ≤ length room
    → wrote f ss' ls' room ≡ (Ok (length l), laid l room)
read_writes l ss ls f ss' ls' room p h =
    let g = p.0 in
    rw (
      le-leb (answers_of f) (min 1024 (min (length ss') (length ls'))) (omega (arith, g.few, g.statuses, g.leftovers)),
      p.1,
      le-leb (length l) (length room) h,
    )

-- so no two lines read as one frame with the same answers
pub no_two_lines : (l m ss ls xs ys : List ℕ) (f : Frame) (ss' ls' xs' ys' : List ℕ) → Reads l ss ls (Ok f) ss' ls'
    → Reads m xs ys (Ok f) xs' ys' → Agree (answers_of f) ss' xs' → Agree (answers_of f) ls' ys' → l ≡ m
no_two_lines l m ss ls xs ys f ss' ls' xs' ys' p q a b =
    sym p.1 ∙ ap (λ (fs : List Field). digits 2 (kind_of f) ++ fields fs) (body_agree f ss' ls' xs' ys' (answers_agree (answers_of f) ss' ls' xs' ys' a b)) ∙ q.1
