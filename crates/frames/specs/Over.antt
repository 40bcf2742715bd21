-- What is true of a run that others are put over, one after another.
use Rattle.std.specs.Prelude.{◌≡◌, List, [], ◌∷◌, ◌++◌, ℕ, ◌+◌, ◌≤◌, ◌<◌, length, take, drop, set}
use Rattle.std.proofs.Common.{sym, ap, ◌∙◌, append_assoc, add_assoc, add-zero, add-one, arith, length-append, length-drop, take-append-drop, length-take-le, take_at, drop_at, take-take, drop-drop}
use Rattle.std.proofs.lemmas.List.{take-append-le, set_split}
use Rattle.frames.specs.Parts.{over}

pub over_none : (d : List ℕ) (at : ℕ) → over d at [] ≡ d
over_none d at = ap (λ (k : ℕ). take at d ++ drop k d) (add-zero at) ∙ take-append-drop at d

pub over_set : (d : List ℕ) (at b : ℕ) → at < length d → set d at b ≡ over d at (b ∷ [])
over_set d at b h = set_split d at b h ∙ ap (λ (k : ℕ). take at d ++ (b ∷ drop k d)) (sym (add-one at))

-- the run past what was put over it is as it was
drop_over : (d : List ℕ) (at : ℕ) (s : List ℕ) (n : ℕ) → at ≤ length d → drop (at + length s + n) (over d at s) ≡ drop (at + length s + n) d
drop_over d at s n h =
    ap (λ (l : List ℕ). drop (at + length s + n) l) (sym (append_assoc (take at d) s (drop (at + length s) d)))
    ∙ sym (drop-drop n (at + length s) ((take at d ++ s) ++ drop (at + length s) d))
    ∙ ap (drop n) (drop_at (take at d ++ s) (drop (at + length s) d) (at + length s) (length-append (take at d) s ∙ ap (λ (k : ℕ). k + length s) (length-take-le at d h)))
    ∙ drop-drop n (at + length s) d

take_over : (d : List ℕ) (at : ℕ) (s : List ℕ) → at ≤ length d → take (at + length s) (over d at s) ≡ take at d ++ s
take_over d at s h =
    ap (take (at + length s)) (sym (append_assoc (take at d) s (drop (at + length s) d)))
    ∙ take_at (take at d ++ s) (drop (at + length s) d) (at + length s) (length-append (take at d) s ∙ ap (λ (k : ℕ). k + length s) (length-take-le at d h))

-- one after another is both at once
pub over_over : (d : List ℕ) (at : ℕ) (s t : List ℕ) → at ≤ length d → over (over d at s) (at + length s) t ≡ over d at (s ++ t)
over_over d at s t h =
    ap (λ (l : List ℕ). l ++ (t ++ drop (at + length s + length t) (over d at s))) (take_over d at s h)
    ∙ ap (λ (l : List ℕ). (take at d ++ s) ++ (t ++ l)) (drop_over d at s (length t) h)
    ∙ append_assoc (take at d) s (t ++ drop (at + length s + length t) d)
    ∙ ap (λ (l : List ℕ). take at d ++ l) (sym (append_assoc s t (drop (at + length s + length t) d)))
    ∙ ap (λ (k : ℕ). take at d ++ ((s ++ t) ++ drop k d)) (add_assoc at (length s) (length t) ∙ ap (λ (k : ℕ). at + k) (sym (length-append s t)))

-- and so it is the other way round
pub over_before : (d : List ℕ) (at : ℕ) (s t : List ℕ) → at + length s ≤ length d → over (over d (at + length s) t) at s ≡ over d at (s ++ t)
over_before d at s t h =
    let k : ℕ = at + length s in
    let l : length (take k d) ≡ k = length-take-le k d h in
    ap (λ (x : List ℕ). x ++ (s ++ drop k (over d k t)))
    (take-append-le at (take k d) (t ++ drop (k + length t) d) (omega (arith, l)) ∙ take-take at k d (omega arith))
    ∙ ap (λ (x : List ℕ). take at d ++ (s ++ x)) (drop_at (take k d) (t ++ drop (k + length t) d) k l)
    ∙ ap (λ (x : List ℕ). take at d ++ x) (sym (append_assoc s t (drop (k + length t) d)))
    ∙ ap (λ (j : ℕ). take at d ++ ((s ++ t) ++ drop j d)) (add_assoc at (length s) (length t) ∙ ap (λ (j : ℕ). at + j) (sym (length-append s t)))

pub length_over : (d : List ℕ) (at : ℕ) (s : List ℕ) → at + length s ≤ length d → length (over d at s) ≡ length d
length_over d at s h =
    omega (
      arith,
      length-append (take at d) (s ++ drop (at + length s) d),
      length-append s (drop (at + length s) d),
      length-drop (at + length s) d,
      length-take-le at d (omega arith),
    )
