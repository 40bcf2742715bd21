-- What is true of digits at every width: how many there are, that each is one of the sixteen, and that the number comes back.
use Rattle.std.specs.Prelude.{◌≡◌, refl, ◌⊎◌, List, [], ◌∷◌, ◌++◌, ℕ, zero, suc, ◌+◌, ◌*◌, ◌/◌, ◌%◌, ◌^◌, ◌≤◌, ◌<◌, length, get_or, take, drop}
use Rattle.std.proofs.Common.{sym, ap, ◌∙◌, inl, inr, ⊎_elim, pow-suc, div-lt_iff_lt-mul, zero-lt-suc, eq-or-lt_of_le}
use Rattle.std.proofs.Common.{le_of_suc-le-suc, add-one, arith, lt-ltb, le-ltb, length-append, take_at, drop_at}
use Rattle.std.proofs.Math.Decide.{dec_le}
use Rattle.std.proofs.Math.ListN.{get_or-append}
use Rattle.std.proofs.Math.Seq.{get_or-append_seam}
use Rattle.frames.specs.Hex.{digit, digits}

-- two runs that begin equally long are equal part by part
pub cut : (s s' t t' : List ℕ) → length s ≡ length s' → s ++ t ≡ s' ++ t' → (s ≡ s') × (t ≡ t')
cut s s' t t' e p = (
  sym (take_at s t (length s) refl) ∙ ap (take (length s)) p ∙ take_at s' t' (length s) (sym e),
  sym (drop_at s t (length s) refl) ∙ ap (drop (length s)) p ∙ drop_at s' t' (length s) (sym e),
)

pub digit_cases : (d : ℕ) → ((d < 10) × (digit d ≡ 48 + d)) ⊎ ((10 ≤ d) × (digit d ≡ 87 + d))
digit_cases d =
    elim (dec_le 10 d) [ yes h ↦ inr (h, rw (le-ltb d 10 h)) | no h ↦ inl (omega arith, rw (lt-ltb d 10 (omega arith))) ]

pub digit_above : (d : ℕ) → 48 ≤ digit d
digit_above d = ⊎_elim (λ w. omega (arith, w.1)) (λ w. omega (arith, w.1)) (digit_cases d)

pub digit_one : (a b : ℕ) → a < 16 → b < 16 → digit a ≡ digit b → a ≡ b
digit_one a b ha hb e =
    ⊎_elim
    (λ v. ⊎_elim (λ w. omega (arith, v.1, w.1, e)) (λ w. omega (arith, v.1, w.1, e)) (digit_cases b))
    (λ v. ⊎_elim (λ w. omega (arith, v.1, w.1, e)) (λ w. omega (arith, v.1, w.1, e)) (digit_cases b))
    (digit_cases a)

pub length_digits : (w n : ℕ) → length (digits w n) ≡ w
unfolding digits
length_digits zero n = refl
length_digits (suc w) n = length-append (digits w (n / 16)) (digit (n % 16) ∷ []) ∙ ap (λ (k : ℕ). k + 1) (length_digits w (n / 16)) ∙ add-one w

-- one digit more
pub digits_more : (w v d : ℕ) → d < 16 → digits (suc w) (v * 16 + d) ≡ digits w v ++ (digit d ∷ [])
unfolding digits
digits_more w v d h =
    let q : (v * 16 + d) / 16 ≡ v = omega arith in
    let m : (v * 16 + d) % 16 ≡ d = omega arith in
    rw (q, m)

pub small_less : (w v : ℕ) → v < 16 ^ suc w → v / 16 < 16 ^ w
small_less w v h = (div-lt_iff_lt-mul (zero-lt-suc 15)).1 (rw (pow-suc 16 w) at h)

pub small_more : (w v d : ℕ) → v < 16 ^ w → d < 16 → v * 16 + d < 16 ^ suc w
small_more w v d h k = rw (pow-suc 16 w) (omega arith)

-- the digits of a number that has room say which it is
pub digits_one : (w v v' : ℕ) → v < 16 ^ w → v' < 16 ^ w → digits w v ≡ digits w v' → v ≡ v'
unfolding digits
digits_one zero v v' h h' e = omega arith
digits_one (suc w) v v' h h' e =
    let p = cut (digits w (v / 16)) (digits w (v' / 16)) _ _ (length_digits w (v / 16) ∙ sym (length_digits w (v' / 16))) e in
    let q : v / 16 ≡ v' / 16 = digits_one w (v / 16) (v' / 16) (small_less w v h) (small_less w v' h') p.0 in
    let m : v % 16 ≡ v' % 16 =
    digit_one (v % 16) (v' % 16) (omega arith) (omega arith) (ap (λ (l : List ℕ). get_or l 0 0) p.1) in
    omega arith

-- each of them is a digit
pub digits_at : (w n i : ℕ) → i < w → (d : ℕ) × (d < 16) × (get_or (digits w n) i 0 ≡ digit d)
unfolding digits
digits_at zero n i h = absurd (omega arith)
digits_at (suc w) n i h =
    ⊎_elim
    (λ e. (n % 16, omega arith, ap (λ (k : ℕ). get_or (digits (suc w) n) k 0) (e ∙ sym (length_digits w (n / 16))) ∙ get_or-append_seam (digits w (n / 16)) (digit (n % 16)) [] 0))
    (λ l.
    let r = digits_at w (n / 16) i l in
    (r.0, r.1, get_or-append (digits w (n / 16)) (digit (n % 16) ∷ []) 0 i (rw (length_digits w (n / 16)) l) ∙ r.2))
    (eq-or-lt_of_le (le_of_suc-le-suc h))
