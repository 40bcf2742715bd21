-- Floats whose values are whole numbers: their sum and difference are one rounding of the exact number, their order is the order of the numbers.
use Rattle.std.specs.Prelude.{◌≡◌, refl, ℕ, ◌+◌, ◌-◌, ◌*◌, ◌≤◌, ◌<◌, Bool, true, false, cond, not, ◌&&◌, ◌||◌, ℤ, T, ltb, leb, eqb, Float}
use Rattle.std.proofs.Common.{sym, ap, ◌∙◌, mul-one, mul_comm, mul_assoc, mul-pos, mul-le-mul_right, not-le_of_lt, le_of_lt, le_of_eq, le_antisymm}
use Rattle.std.proofs.Common.{lt_of_not-le, mul-lt-mul_of_pos_right, arith, true≢false, ltb→lt, lt→ltb, eqb→eq, nltb→le, le-leb}
use Rattle.std.proofs.Math.Nat.{mul-sub, eq_of_mul-eq-mul_right}
use Rattle.std.proofs.Math.Dec.{eqb_refl}
use Rattle.std.proofs.lemmas.Bool.{lt-leb}
use Rattle.std.specs.Float.{nan, inf, fin, Format}
use Rattle.std.specs.Float.Ieee.{up, down, round, sum, add, sub, lt, le}
use Rattle.std.specs.Float.Ieee.Fits.{down_pos}
use Rattle.std.specs.Float.Ieee.Exact.{HasValue}
use Rattle.std.specs.Float.Ieee.Scale.{round_same}

cross_add : (X Y E D a b : ℕ) → X * 1 ≡ a * E → Y * 1 ≡ b * D → (X * D + Y * E) * 1 ≡ (a + b) * (E * D)
cross_add X Y E D a b p q =
    let x : X * D ≡ a * E * D = ap (λ (z : ℕ). z * D) (sym (mul-one X) ∙ p) in
    let y : Y * E ≡ b * D * E = ap (λ (z : ℕ). z * E) (sym (mul-one Y) ∙ q) in
    omega arith

cross_sub : (X Y E D a b : ℕ) → X * 1 ≡ a * E → Y * 1 ≡ b * D → b ≤ a → (X * D - Y * E) * 1 ≡ (a - b) * (E * D)
cross_sub X Y E D a b p q h =
    let x : X * D ≡ a * (E * D) = ap (λ (z : ℕ). z * D) (sym (mul-one X) ∙ p) ∙ mul_assoc a E D in
    let y : Y * E ≡ b * (E * D) = ap (λ (z : ℕ). z * E) (sym (mul-one Y) ∙ q) ∙ mul_assoc b D E ∙ ap (λ (z : ℕ). b * z) (mul_comm D E) in
    mul-one (X * D - Y * E) ∙ rw (x, y, mul_comm (a - b) (E * D), mul-sub, mul_comm (E * D) a, mul_comm (E * D) b)

cross_le : (X Y E D a b : ℕ) → X * 1 ≡ a * E → Y * 1 ≡ b * D → b ≤ a → Y * E ≤ X * D
cross_le X Y E D a b p q h =
    let x : X * D ≡ a * (E * D) = ap (λ (z : ℕ). z * D) (sym (mul-one X) ∙ p) ∙ mul_assoc a E D in
    let y : Y * E ≡ b * (E * D) = ap (λ (z : ℕ). z * E) (sym (mul-one Y) ∙ q) ∙ mul_assoc b D E ∙ ap (λ (z : ℕ). b * z) (mul_comm D E) in
    rw (x, y) (mul-le-mul_right (E * D) h)

-- a sum of two values that are whole is the round of the whole sum
pub add_val : (f : Format) (x y : Float) (a b : ℕ) → HasValue x false a 1 → HasValue y false b 1 → add f x y ≡ round f false (a + b) 1
unfolding add sum
add_val f nan y a b v w = absurd v
add_val f (inf s) y a b v w = absurd v
add_val f (fin true m e) y a b v w = absurd (true≢false v.0)
add_val f (fin false m e) nan a b v w = absurd w
add_val f (fin false m e) (inf t) a b v w = absurd w
add_val f (fin false m e) (fin true n d) a b v w = absurd (true≢false w.0)
add_val f (fin false m e) (fin false n d) a b v w =
    round_same f false (m * up e * down d + n * up d * down e) (down e * down d) (a + b) 1 (mul-pos (down_pos e) (down_pos d)) (omega arith)
    (cross_add (m * up e) (n * up d) (down e) (down d) a b v.1 w.1)

pick : (f : Format) (a b c : ℕ) → b ≤ a → sum f false a true b c ≡ round f false (a - b) c
unfolding sum
pick f a b c h = go (ltb a b) (ltb→lt a b)
  where
    go : (t : Bool) → (T t → a < b) → cond t (round f true (b - a) c) (round f false (a - b) c) ≡ round f false (a - b) c
    go true k = absurd (not-le_of_lt (k tt) h)
    go false k = refl

pub sub_val : (f : Format) (x y : Float) (a b : ℕ) → HasValue x false a 1 → HasValue y false b 1 → b ≤ a → sub f x y ≡ round f false (a - b) 1
unfolding sub
sub_val f nan y a b v w h = absurd v
sub_val f (inf s) y a b v w h = absurd v
sub_val f (fin true m e) y a b v w h = absurd (true≢false v.0)
sub_val f (fin false m e) nan a b v w h = absurd w
sub_val f (fin false m e) (inf t) a b v w h = absurd w
sub_val f (fin false m e) (fin true n d) a b v w h = absurd (true≢false w.0)
sub_val f (fin false m e) (fin false n d) a b v w h =
    pick f (m * up e * down d) (n * up d * down e) (down e * down d) (cross_le (m * up e) (n * up d) (down e) (down d) a b v.1 w.1 h)
    ∙ round_same f false (m * up e * down d - n * up d * down e) (down e * down d) (a - b) 1 (mul-pos (down_pos e) (down_pos d)) (omega arith)
    (cross_sub (m * up e) (n * up d) (down e) (down d) a b v.1 w.1 h)

-- ---- the order
same_test : (x y : Bool) → (T x → T y) → (T y → T x) → x ≡ y
same_test true true f g = refl
same_test true false f g = absurd (f tt)
same_test false true f g = absurd (g tt)
same_test false false f g = refl

same_lt : (a b c : ℕ) → 0 < c → ltb (a * c) (b * c) ≡ ltb a b
same_lt a b c h = same_test (ltb (a * c) (b * c)) (ltb a b)
    (λ t. lt→ltb a b (lt_of_not-le (λ (g : b ≤ a). not-le_of_lt (ltb→lt (a * c) (b * c) t) (mul-le-mul_right c g))))
    (λ t. lt→ltb (a * c) (b * c) (mul-lt-mul_of_pos_right (ltb→lt a b t) h))

same_eq : (a b c : ℕ) → 0 < c → eqb (a * c) (b * c) ≡ eqb a b
same_eq a b c h = same_test (eqb (a * c) (b * c)) (eqb a b)
    (λ t. rw (eq_of_mul-eq-mul_right c h a b (eqb→eq (a * c) (b * c) t)) (eqb_refl b))
    (λ t. rw (eqb→eq a b t) (eqb_refl (b * c)))

lt_or_eq : (a b : ℕ) → (ltb a b || (eqb a b && true)) ≡ leb a b
lt_or_eq a b = go (ltb a b) (eqb a b) (ltb→lt a b) (eqb→eq a b) (nltb→le a b) (λ (h : a ≡ b). rw h (eqb_refl b))
  where
    go : (x y : Bool) → (T x → a < b) → (T y → a ≡ b) → (T (not x) → b ≤ a) → (a ≡ b → T y) → (x || (y && true)) ≡ leb a b
    go true y l e n r = sym (le-leb a b (le_of_lt (l tt)))
    go false true l e n r = sym (le-leb a b (le_of_eq (e tt)))
    go false false l e n r = sym (lt-leb a b (lt_of_not-le (λ (g : a ≤ b). r (le_antisymm g (n tt)))))

module _ (m : ℕ) (e : ℤ) (n : ℕ) (d : ℤ) (a b : ℕ) (v : HasValue (fin false m e) false a 1) (w : HasValue (fin false n d) false b 1) where
  left : m * up e * down d ≡ a * (down e * down d)
  left = ap (λ (z : ℕ). z * down d) (sym (mul-one (m * up e)) ∙ v.1) ∙ mul_assoc a (down e) (down d)

  right : n * up d * down e ≡ b * (down e * down d)
  right = ap (λ (z : ℕ). z * down e) (sym (mul-one (n * up d)) ∙ w.1) ∙ mul_assoc b (down d) (down e) ∙ ap (λ (z : ℕ). b * z) (mul_comm (down d) (down e))

  fin_lt : ltb (m * up e * down d) (n * up d * down e) ≡ ltb a b
  fin_lt = rw (left, right) (same_lt a b (down e * down d) (mul-pos (down_pos e) (down_pos d)))

  fin_eq : eqb (m * up e * down d) (n * up d * down e) ≡ eqb a b
  fin_eq = rw (left, right) (same_eq a b (down e * down d) (mul-pos (down_pos e) (down_pos d)))

pub order_val : (x y : Float) (a b : ℕ) → HasValue x false a 1 → HasValue y false b 1 → (lt x y ≡ ltb a b) × (le x y ≡ leb a b)
unfolding le
order_val nan y a b v w = absurd v
order_val (inf s) y a b v w = absurd v
order_val (fin true m e) y a b v w = absurd (true≢false v.0)
order_val (fin false m e) nan a b v w = absurd w
order_val (fin false m e) (inf t) a b v w = absurd w
order_val (fin false m e) (fin true n d) a b v w = absurd (true≢false w.0)
order_val (fin false m e) (fin false n d) a b v w =
    let l : ltb (m * up e * down d) (n * up d * down e) ≡ ltb a b = fin_lt m e n d a b v w in
    let q : eqb (m * up e * down d) (n * up d * down e) ≡ eqb a b = fin_eq m e n d a b v w in
    (l, rw (l, q) (lt_or_eq a b))
