-- Every frame is found from its line, and from no other bytes; and what reading answers is what is found.
use Rattle.std.specs.Prelude.{◌≡◌, refl, Bool, false, Result, Ok, Err, ◌&&◌, List, [], ◌∷◌, ◌++◌, map, ℕ, zero, suc, ◌+◌, ◌*◌, ◌/◌, ◌%◌, ◌^◌, ◌≤◌, ◌<◌, ltb, eqb, length, take, drop}
use Rattle.std.proofs.Common.{sym, ap₂, subst, ◌∙◌, inl, inr, append-nil, arith, le-leb, leb-true, lt-ltb, ltb-true, le-ltb, eq-eqb, eqb-true, take_at, drop_at, drop-cons, get_or-take}
use Rattle.std.proofs.Math.Path.{ap}
use Rattle.std.proofs.Math.Bool.{true, cond}
use Rattle.frames.specs.Hex.{digit, digits}
use Rattle.frames.specs.Digits.{digit_cases, length_digits, small_less}
use Rattle.frames.specs.Line.{Field, Fit, Good, Reads, fields, asked_no, said_no, kind_of, front, body, answers, answers_of, line}
use Rattle.frames.specs.Answers.{answers_agree, fit_left, fit_right}
use Rattle.frames.specs.Back.{frame_of, frame_back, kind_small}
use Rattle.frames.specs.Undo.{body_agree}
use Rattle.frames.specs.Find.{nibble, numeral, taken, behind, widths, pairs, firsts, seconds, kind_in, frame_in, answers_in}
use Rattle.frames.specs.Find.{statuses_in, leftovers_in, fitting, same, is_line, found}
use Rattle.frames.specs.declared.Call.{Call}
use Rattle.frames.specs.declared.Call.TheVariants.{Tick, Restart}
use Rattle.frames.specs.declared.Frame.{Frame}
use Rattle.frames.specs.declared.Frame.TheVariants.{Node, Asked, Said, Malformed}
use Rattle.frames.specs.declared.Unread.{Unread}

-- ---- digits are read back
numeral_last : (v b : ℕ) (bs : List ℕ) → numeral v (bs ++ (b ∷ [])) ≡ numeral v bs * 16 + nibble b
numeral_last v b [] = refl
numeral_last v b (x ∷ bs) = numeral_last (v * 16 + nibble x) b bs

nibble_digit : (d : ℕ) → d < 16 → nibble (digit d) ≡ d
nibble_digit d h =
    elim (digit_cases d) [
      | inl w ↦ rw (w.1, lt-ltb (48 + d) 97 (omega arith)) (omega arith)
      | inr w ↦ rw (w.1, le-ltb (87 + d) 97 (omega arith)) (omega arith)
    ]

numeral_digits : (w n : ℕ) → n < 16 ^ w → numeral 0 (digits w n) ≡ n
unfolding digits
numeral_digits zero n h = omega arith
numeral_digits (suc w) n h =
    let q = numeral_digits w (n / 16) (small_less w n h) in
    let d = nibble_digit (n % 16) (omega arith) in
    numeral_last 0 (digit (n % 16)) (digits w (n / 16)) ∙ rw (q, d) (omega arith)

-- ---- fields are read back
abbrev widths_of : List Field → List ℕ
widths_of fs = map (λ f. f.0) fs

taken_fields : (fs more : List Field) → Fit fs → taken (widths_of fs) (fields (fs ++ more)) ≡ fs
taken_fields [] more p = refl
taken_fields (f ∷ fs) more p =
    let d = digits f.0 f.1 in
    let rest = fields (fs ++ more) in
    let here : take f.0 (d ++ rest) ≡ d = take_at d rest f.0 (length_digits f.0 f.1) in
    let there : drop f.0 (d ++ rest) ≡ rest = drop_at d rest f.0 (length_digits f.0 f.1) in
    rw (here, there, numeral_digits f.0 f.1 p.0, taken_fields fs more p.1)

behind_fields : (fs more : List Field) → behind (widths_of fs) (fields (fs ++ more)) ≡ fields more
behind_fields [] more = refl
behind_fields (f ∷ fs) more =
    let d = digits f.0 f.1 in
    ap (behind (widths_of fs)) (drop_at d (fields (fs ++ more)) f.0 (length_digits f.0 f.1)) ∙ behind_fields fs more

-- ---- a frame's fields, without its answers
asked_widths : (c : Call) → widths (asked_no c) ≡ 2 ∷ 16 ∷ 8 ∷ 4 ∷ []
asked_widths Tick = refl
asked_widths Restart = refl

said_widths : (c : Call) → widths (said_no c) ≡ 2 ∷ 2 ∷ 16 ∷ 8 ∷ 4 ∷ 4 ∷ []
said_widths Tick = refl
said_widths Restart = refl

widths_front : (f : Frame) → widths (kind_of f) ≡ widths_of (front f)
widths_front (Node kind n limit) = refl
widths_front (Asked c event fuel count) = asked_widths c
widths_front (Said c num status time visits used extra) = said_widths c
widths_front (Malformed number) = refl

front_back : (f : Frame) → frame_of (kind_of f) (front f) ≡ f
front_back f = ap (frame_of (kind_of f)) (sym (append-nil (front f))) ∙ frame_back f []

-- ---- answers
pairs_answers : (k i : ℕ) (ss ls : List ℕ) → widths_of (answers k i ss ls) ≡ pairs k
pairs_answers zero i ss ls = refl
pairs_answers (suc k) i ss ls = rw (pairs_answers k (suc i) ss ls)

firsts_answers : (k i : ℕ) (ss ls : List ℕ) → i + k ≤ length ss → firsts (answers k i ss ls) ≡ take k (drop i ss)
firsts_answers zero i ss ls h = refl
firsts_answers (suc k) i ss ls h = rw (firsts_answers k (suc i) ss ls (omega arith), drop-cons ss i 0 (omega arith))

seconds_answers : (k i : ℕ) (ss ls : List ℕ) → i + k ≤ length ls → seconds (answers k i ss ls) ≡ take k (drop i ls)
seconds_answers zero i ss ls h = refl
seconds_answers (suc k) i ss ls h = rw (seconds_answers k (suc i) ss ls (omega arith), drop-cons ls i 0 (omega arith))

length_firsts : (k : ℕ) (bs : List ℕ) → length (firsts (taken (pairs k) bs)) ≡ k
length_firsts zero bs = refl
length_firsts (suc k) bs = ap suc (length_firsts k _)

length_seconds : (k : ℕ) (bs : List ℕ) → length (seconds (taken (pairs k) bs)) ≡ k
length_seconds zero bs = refl
length_seconds (suc k) bs = ap suc (length_seconds k _)

-- ---- the tests say what they test
no_true : false ≡ true → ⊥
no_true e = let z : ◌≡◌ {A = ℕ} 0 1 = ap (λ b. cond b 1 0) e in omega arith

both : (a b : Bool) → (a && b) ≡ true → (a ≡ true) × (b ≡ true)
both true b e = (refl, e)
both false b e = absurd (no_true e)

fitting_fit : (fs : List Field) → fitting fs ≡ true → Fit fs
fitting_fit [] e = tt
fitting_fit (f ∷ fs) e =
    let p = both (ltb f.1 (16 ^ f.0)) (fitting fs) e in
    (ltb-true f.1 (16 ^ f.0) p.0, fitting_fit fs p.1)

fit_fitting : (fs : List Field) → Fit fs → fitting fs ≡ true
fit_fitting [] p = refl
fit_fitting (f ∷ fs) p = rw (lt-ltb f.1 (16 ^ f.0) p.0) (fit_fitting fs p.1)

same_self : (l : List ℕ) → same l l ≡ true
same_self [] = refl
same_self (x ∷ l) = rw (eq-eqb x x refl) (same_self l)

same_same : (l m : List ℕ) → same l m ≡ true → l ≡ m
same_same [] [] e = refl
same_same [] (y ∷ m) e = absurd (no_true e)
same_same (x ∷ l) [] e = absurd (no_true e)
same_same (x ∷ l) (y ∷ m) e =
    let p = both (eqb x y) (same l m) e in
    ap₂ (λ (z : ℕ) (k : List ℕ). z ∷ k) (eqb-true x y p.0) (same_same l m p.1)

-- ---- a frame is found from its line
module _ (f : Frame) (ss ls : List ℕ) (g : Good f ss ls) where
  front_fit : Fit (front f)
  front_fit = fit_left (front f) (answers (answers_of f) 0 ss ls) g.fit

  kind_line : kind_in (line f ss ls) ≡ kind_of f
  kind_line =
      let d = digits 2 (kind_of f) in
      rw (take_at d (fields (body f ss ls)) 2 (length_digits 2 (kind_of f))) (numeral_digits 2 (kind_of f) (kind_small f))

  rest_line : drop 2 (line f ss ls) ≡ fields (front f ++ answers (answers_of f) 0 ss ls)
  rest_line = drop_at (digits 2 (kind_of f)) (fields (body f ss ls)) 2 (length_digits 2 (kind_of f))

  widths_line : widths (kind_in (line f ss ls)) ≡ widths_of (front f)
  widths_line = ap widths kind_line ∙ widths_front f

  pub frame_line : frame_in (line f ss ls) ≡ f
  frame_line =
      let fs = taken_fields (front f) (answers (answers_of f) 0 ss ls) front_fit in
      ap₂ frame_of kind_line (ap₂ taken widths_line rest_line ∙ fs) ∙ front_back f

  answers_line : answers_in (line f ss ls) ≡ answers (answers_of f) 0 ss ls
  answers_line =
      let given = answers (answers_of f) 0 ss ls in
      let k : pairs (answers_of (frame_in (line f ss ls))) ≡ widths_of given = ap (λ x. pairs (answers_of x)) frame_line ∙ sym (pairs_answers (answers_of f) 0 ss ls) in
      let b : behind (widths (kind_in (line f ss ls))) (drop 2 (line f ss ls)) ≡ fields (given ++ []) =
      ap₂ behind widths_line rest_line ∙ behind_fields (front f) given ∙ ap fields (sym (append-nil given)) in
      ap₂ taken k b ∙ taken_fields given [] (fit_right (front f) given g.fit)

  pub statuses_line : statuses_in (line f ss ls) ≡ take (answers_of f) ss
  unfolding statuses_in
  statuses_line = ap firsts answers_line ∙ firsts_answers (answers_of f) 0 ss ls (omega (arith, g.statuses))

  pub leftovers_line : leftovers_in (line f ss ls) ≡ take (answers_of f) ls
  unfolding leftovers_in
  leftovers_line = ap seconds answers_line ∙ seconds_answers (answers_of f) 0 ss ls (omega (arith, g.leftovers))

  -- the answers that are found say the same line
  body_line : body f (statuses_in (line f ss ls)) (leftovers_in (line f ss ls)) ≡ body f ss ls
  body_line =
      let k = answers_of f in
      ap₂ (body f) statuses_line leftovers_line
      ∙ body_agree f (take k ss) (take k ls) ss ls
      (answers_agree k (take k ss) (take k ls) ss ls (λ j h. get_or-take k ss j 0 h) (λ j h. get_or-take k ls j 0 h))

  pub found_line : found (line f ss ls) ≡ Ok f
  unfolding found
  found_line =
      let l = line f ss ls in
      let e : is_line f (statuses_in l) (leftovers_in l) l ≡ true =
      rw (le-leb (answers_of f) 1024 g.few, body_line, fit_fitting (body f ss ls) g.fit) (same_self l) in
      ap (λ x. cond (is_line x (statuses_in l) (leftovers_in l) l) (Ok x) (Err Unread.NoFrame)) frame_line ∙ rw e

-- ---- and from no other bytes
tested : (l : List ℕ) → is_line (frame_in l) (statuses_in l) (leftovers_in l) l ≡ true
    → Good (frame_in l) (statuses_in l) (leftovers_in l) × (line (frame_in l) (statuses_in l) (leftovers_in l) ≡ l)
unfolding statuses_in leftovers_in
tested l e =
    let f = frame_in l in
    let rest = behind (widths (kind_in l)) (drop 2 l) in
    let p = both _ _ e in
    let q = both _ _ p.0 in (
      record {
        few = leb-true (answers_of f) 1024 q.0;
        statuses = omega (arith, length_firsts (answers_of f) rest);
        leftovers = omega (arith, length_seconds (answers_of f) rest);
        fit = fitting_fit (body f (statuses_in l) (leftovers_in l)) q.1;
      },
      same_same (line f (statuses_in l) (leftovers_in l)) l p.1,
    )

is_found : (b : Bool) (f g : Frame) → cond b (Ok f) (Err Unread.NoFrame) ≡ Ok g → (b ≡ true) × (f ≡ g)
is_found true f g e = (refl, cc)
is_found false f g e = absurd (let z : ◌≡◌ {A = ℕ} 0 1 = cc in omega arith)

pub found_good : (l : List ℕ) (f : Frame) → found l ≡ Ok f
    → Good f (statuses_in l) (leftovers_in l) × (line f (statuses_in l) (leftovers_in l) ≡ l)
unfolding found
found_good l f e =
    let p = is_found _ (frame_in l) f e in
    subst (λ x. Good x (statuses_in l) (leftovers_in l) × (line x (statuses_in l) (leftovers_in l) ≡ l)) p.1 (tested l p.0)

pub none_found : (l : List ℕ) → ((f : Frame) (xs ys : List ℕ) → Good f xs ys → line f xs ys ≡ l → ⊥) → found l ≡ Err Unread.NoFrame
unfolding found
none_found l h =
    rw (by_test (is_line (frame_in l) (statuses_in l) (leftovers_in l) l) refl)
  where
    by_test : (b : Bool) → is_line (frame_in l) (statuses_in l) (leftovers_in l) l ≡ b → b ≡ false
    by_test true e = let p = tested l e in absurd (h (frame_in l) (statuses_in l) (leftovers_in l) p.0 p.1)
    by_test false e = refl

-- ---- what reading answers is what is found
pub read_found : (l ss ls : List ℕ) (r : Result Frame Unread) (ss' ls' : List ℕ) → 1024 ≤ length ss → 1024 ≤ length ls → Reads l ss ls r ss' ls' → found l ≡ r
read_found l ss ls (Ok f) ss' ls' a b p = ap found (sym p.1) ∙ found_line f ss' ls' p.0
read_found l ss ls (Err Unread.NoFrame) ss' ls' a b p = none_found l p.0
read_found l ss ls (Err Unread.TooShort) ss' ls' a b p = let t = p.0 in absurd (omega (arith, t.3.few, t.5))

pub read_answers : (l ss ls : List ℕ) (f : Frame) (ss' ls' : List ℕ) → Reads l ss ls (Ok f) ss' ls'
    → (statuses_in l ≡ take (answers_of f) ss') × (leftovers_in l ≡ take (answers_of f) ls')
read_answers l ss ls f ss' ls' p = (
  ap statuses_in (sym p.1) ∙ statuses_line f ss' ls' p.0,
  ap leftovers_in (sym p.1) ∙ leftovers_line f ss' ls' p.0,
)
