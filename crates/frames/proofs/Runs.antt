-- A line's answers, taken one after another.
use mathlib.Core.Path.{◌≡◌, refl, sym, ap, subst, ◌∙◌}
use mathlib.Core.List.{List, [], ◌∷◌, ◌++◌}
use Prim.Native.Nat.{ℕ, zero, suc, ◌+◌, ◌-◌, ◌<◌, min}
use native.Mathlib.Nat.{add-zero, zero-add}
use native.Mathlib.Omega.{arith}
use lib.ListN.{length, drop, set, length-append, get_or-append, drop_of_length-le}
use lib.Seq.{get_or_at, get_or-set_same, get_or-set_other, drop-set-lt, drop-drop}
use Rattle.std.specs.Prelude.{Some, None}
use Rattle.std.proofs.Math.Decide.{dec_le}
use Rattle.frames.specs.Line.{Field, Fit, answers}
use Rattle.frames.specs.Parts.{AnswerAt, Skips, ahead}
use Rattle.frames.specs.Answers.{pair, Agree, answers_more, answers_agree, fit_both, fit_left, fit_right}
use Rattle.frames.proofs.Fields.{widths_of, ahead_both, ahead_same}

pub answers_widths : (k i : ℕ) (a b c d : List ℕ) → widths_of (answers k i a b) ≡ widths_of (answers k i c d)
answers_widths zero i a b c d = refl
answers_widths (suc k) i a b c d = ap (λ (l : List ℕ). 2 ∷ 16 ∷ l) (answers_widths k (suc i) a b c d)

answers_split : (k m i : ℕ) (a b : List ℕ) → answers (k + m) i a b ≡ answers k i a b ++ answers m (i + k) a b
answers_split zero m i a b = rw (zero-add m, add-zero i)
answers_split (suc k) m i a b =
    let e : suc k + m ≡ suc (k + m) = omega arith in
    let j : i + suc k ≡ suc i + k = omega arith in
    rw (e, j) (ap (λ (fs : List Field). pair i a b ++ fs) (answers_split k m (suc i) a b))

-- one answer more was taken
pub taken_more : (s r r' : List ℕ) (p : ℕ × ℕ) (fs gs : List Field) → gs ≡ fs ++ ((2, p.0) ∷ (16, p.1) ∷ []) → Fit fs → s ≡ ahead fs r
    → AnswerAt r (Some p) r' → Fit gs × (s ≡ ahead gs r')
taken_more s r r' p fs gs g f e a =
    let q = (2, p.0) ∷ (16, p.1) ∷ [] in (
      subst Fit (sym g) (fit_both fs q f (a.0, (a.1, tt))),
      e ∙ ap (ahead fs) a.2 ∙ sym (ahead_both fs q r') ∙ ap (λ (l : List Field). ahead l r') (sym g),
    )

-- no answer more stands there
pub taken_all : (s r r' : List ℕ) (k n : ℕ) (a b : List ℕ) → k < n → Fit (answers k 0 a b) → s ≡ ahead (answers k 0 a b) r → AnswerAt r None r'
    → (xs ys t : List ℕ) → Fit (answers n 0 xs ys) → s ≡ ahead (answers n 0 xs ys) t → ⊥
taken_all s r r' k n a b h f e none xs ys t g q =
    let m : ℕ = n - suc k in
    let all : n ≡ k + suc m = omega arith in
    let parts : answers n 0 xs ys ≡ answers k 0 xs ys ++ answers (suc m) k xs ys =
    ap (λ (j : ℕ). answers j 0 xs ys) all ∙ answers_split k (suc m) 0 xs ys ∙ ap (λ (j : ℕ). answers k 0 xs ys ++ answers (suc m) j xs ys) (zero-add k) in
    let fit = subst Fit parts g in
    let there = fit_right (answers k 0 xs ys) (answers (suc m) k xs ys) fit in
    let same =
    ahead_same (answers k 0 a b) (answers k 0 xs ys) r (ahead (answers (suc m) k xs ys) t) (answers_widths k 0 a b xs ys) f
    (fit_left (answers k 0 xs ys) (answers (suc m) k xs ys) fit)
    (sym e ∙ q ∙ ap (λ (l : List Field). ahead l t) parts ∙ ahead_both (answers k 0 xs ys) (answers (suc m) k xs ys) t) in
    none _ _ (ahead (answers m (suc k) xs ys) t) there.0 there.1.0 same.1

append_agree : (k x : ℕ) (xs : List ℕ) → length xs ≡ k → Agree k (xs ++ (x ∷ [])) xs
append_agree k x xs e j h = get_or-append xs (x ∷ []) 0 j (omega arith)

pub none_skipped : (s : List ℕ) → Skips s 0 (Some tt) s
none_skipped s = ([], [], refl, refl, tt, refl)

pub skipped_more : (s r r' : List ℕ) (k : ℕ) (p : ℕ × ℕ) → Skips s k (Some tt) r → AnswerAt r (Some p) r' → Skips s (k + 1) (Some tt) r'
skipped_more s r r' k p h a =
    let xs = h.0 in
    let ys = h.1 in
    let xs' = xs ++ (p.0 ∷ []) in
    let ys' = ys ++ (p.1 ∷ []) in
    let same : answers (k + 1) 0 xs' ys' ≡ answers k 0 xs ys ++ ((2, p.0) ∷ (16, p.1) ∷ []) =
    answers_more k xs' ys'
    ∙ ap (λ (fs : List Field). fs ++ pair k xs' ys') (answers_agree k xs' ys' xs ys (append_agree k p.0 xs h.2) (append_agree k p.1 ys h.3))
    ∙ rw (get_or_at xs p.0 [] 0 k h.2, get_or_at ys p.1 [] 0 k h.3) in
    let more = taken_more s r r' p (answers k 0 xs ys) (answers (k + 1) 0 xs' ys') same h.4 h.5 a in (
      xs',
      ys',
      length-append xs (p.0 ∷ []) ∙ ap (λ (k : ℕ). k + 1) h.2,
      length-append ys (p.1 ∷ []) ∙ ap (λ (k : ℕ). k + 1) h.3,
      more.0,
      more.1,
    )

pub skipped_not : (s r r' : List ℕ) (k n : ℕ) → k < n → Skips s k (Some tt) r → AnswerAt r None r' → Skips s n None r'
skipped_not s r r' k n l h none xs ys t g q = taken_all s r r' k n h.0 h.1 l h.4 h.5 none xs ys t g q

-- the answers that were taken, up to the run r
pub record Taken (s : List ℕ) (k : ℕ) (ss ss' ls ls' r : List ℕ) : Type 0 where
  pub statuses : drop k ss' ≡ drop k ss
  pub leftovers : drop k ls' ≡ drop k ls
  pub fit : Fit (answers k 0 ss' ls')
  pub there : s ≡ ahead (answers k 0 ss' ls') r

pub none_taken : (s ss ls : List ℕ) → Taken s 0 ss ss ls ls s
none_taken s ss ls = record { statuses = refl; leftovers = refl; fit = tt; there = refl }

set_agree : (i v : ℕ) (a : List ℕ) → Agree i (set a i v) a
set_agree i v a j h = get_or-set_other a i j v 0 (λ e. omega arith)

drop_more : (i v : ℕ) (a b : List ℕ) → drop i a ≡ drop i b → drop (i + 1) (set a i v) ≡ drop (i + 1) b
drop_more i v a b e = drop-set-lt (i + 1) a i v (omega arith) ∙ sym (drop-drop 1 i a) ∙ ap (drop 1) e ∙ drop-drop 1 i b

pub one_taken : (s : List ℕ) (i : ℕ) (ss ss' ls ls' r r' : List ℕ) (p : ℕ × ℕ) → i < length ss' → i < length ls' → Taken s i ss ss' ls ls' r
    → AnswerAt r (Some p) r' → Taken s (i + 1) ss (set ss' i p.0) ls (set ls' i p.1) r'
one_taken s i ss ss' ls ls' r r' p hs hl h a =
    let xs = set ss' i p.0 in
    let ys = set ls' i p.1 in
    let same : answers (i + 1) 0 xs ys ≡ answers i 0 ss' ls' ++ ((2, p.0) ∷ (16, p.1) ∷ []) =
    answers_more i xs ys
    ∙ ap (λ (fs : List Field). fs ++ pair i xs ys) (answers_agree i xs ys ss' ls' (set_agree i p.0 ss') (set_agree i p.1 ls'))
    ∙ rw (get_or-set_same ss' i p.0 0 hs, get_or-set_same ls' i p.1 0 hl) in
    let more = taken_more s r r' p (answers i 0 ss' ls') (answers (i + 1) 0 xs ys) same h.fit h.there a in
    record { statuses = drop_more i p.0 ss' ss h.statuses; leftovers = drop_more i p.1 ls' ls h.leftovers; fit = more.0; there = more.1 }

-- a line that is shorter has no answers
pub drop_front : (l : List ℕ) → drop (min (length l) 36) l ≡ drop 36 l
drop_front l =
    elim (dec_le 36 (length l)) [
      | yes h ↦ let e : min (length l) 36 ≡ 36 = omega arith in ap (λ (k : ℕ). drop k l) e
      | no h ↦ drop_of_length-le l {i = min (length l) 36} (omega arith) ∙ sym (drop_of_length-le l {i = 36} (omega arith))
    ]
