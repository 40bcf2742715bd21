-- What is true of a line's answers: one more of them, and which elements they are told by.
use Rattle.std.specs.Prelude.{◌≡◌, refl, List, [], ◌∷◌, ◌++◌, ℕ, zero, suc, ◌+◌, ◌<◌, get_or}
use Rattle.std.proofs.Common.{ap, ◌∙◌, append_assoc, add-zero, zero-add, add-one, arith}
use Rattle.frames.specs.Line.{Field, Fit, answers}

-- the i-th answer's two fields
abbrev pub pair : ℕ → List ℕ → List ℕ → List Field
pair i ss ls = (2, get_or ss i 0) ∷ (16, get_or ls i 0) ∷ []

snoc : (k i : ℕ) (ss ls : List ℕ) → answers (suc k) i ss ls ≡ answers k i ss ls ++ pair (i + k) ss ls
snoc zero i ss ls = rw (add-zero i)
snoc (suc k) i ss ls =
    ap (λ (fs : List Field). (2, get_or ss i 0) ∷ (16, get_or ls i 0) ∷ fs)
    (snoc k (suc i) ss ls ∙ ap (λ (j : ℕ). answers k (suc i) ss ls ++ pair j ss ls) (omega arith))

-- one answer more
pub answers_more : (k : ℕ) (ss ls : List ℕ) → answers (k + 1) 0 ss ls ≡ answers k 0 ss ls ++ pair k ss ls
answers_more k ss ls = ap (λ (j : ℕ). answers j 0 ss ls) (add-one k) ∙ snoc k 0 ss ls ∙ ap (λ (j : ℕ). answers k 0 ss ls ++ pair j ss ls) (zero-add k)

pub answers_more_then : (k : ℕ) (ss ls : List ℕ) (fs : List Field)
    → answers (k + 1) 0 ss ls ++ fs ≡ answers k 0 ss ls ++ (pair k ss ls ++ fs)
answers_more_then k ss ls fs = ap (λ (l : List Field). l ++ fs) (answers_more k ss ls) ∙ append_assoc (answers k 0 ss ls) (pair k ss ls) fs

-- a is b below k
abbrev pub Agree : ℕ → List ℕ → List ℕ → Type 0
Agree k a b = (j : ℕ) → j < k → get_or a j 0 ≡ get_or b j 0

agree : (k i : ℕ) (ss ls ss' ls' : List ℕ) → Agree (i + k) ss ss' → Agree (i + k) ls ls' → answers k i ss ls ≡ answers k i ss' ls'
agree zero i ss ls ss' ls' p q = refl
agree (suc k) i ss ls ss' ls' p q =
    let rest = agree k (suc i) ss ls ss' ls' (λ j h. p j (omega arith)) (λ j h. q j (omega arith)) in
    let a = p i (omega arith) in
    let b = q i (omega arith) in
    cc (rest, a, b)

-- answers are told by the elements below their count
pub answers_agree : (k : ℕ) (ss ls ss' ls' : List ℕ) → Agree k ss ss' → Agree k ls ls' → answers k 0 ss ls ≡ answers k 0 ss' ls'
answers_agree k ss ls ss' ls' p q = agree k 0 ss ls ss' ls' (λ j h. p j (omega arith)) (λ j h. q j (omega arith))

pub fit_both : (fs gs : List Field) → Fit fs → Fit gs → Fit (fs ++ gs)
fit_both [] gs p q = q
fit_both (f ∷ fs) gs p q = (p.0, fit_both fs gs p.1 q)

pub fit_left : (fs gs : List Field) → Fit (fs ++ gs) → Fit fs
fit_left [] gs p = tt
fit_left (f ∷ fs) gs p = (p.0, fit_left fs gs p.1)

pub fit_right : (fs gs : List Field) → Fit (fs ++ gs) → Fit gs
fit_right [] gs p = p
fit_right (f ∷ fs) gs p = fit_right fs gs p.1
