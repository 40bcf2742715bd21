-- Whole times up to a format's cap: sums and differences are exact, and so is what a Wait and a Timeout do with them.
use Rattle.std.specs.Prelude.{◌≡◌, Bool, ◌&&◌, ℤ, ltb, eqb, Float}
use Rattle.std.proofs.Math.Path.{refl, ap}
use Rattle.std.proofs.Common.{sym, ◌∙◌, true≢false, mul-one, div-add-mod', add-zero, arith, lit≤, lit<}
use Rattle.std.proofs.Math.Bool.{true, false}
use Prim.Native.Nat.{ℕ, ◌+◌, ◌-◌, ◌*◌, ◌/◌, ◌%◌, ◌^◌, ◌≤◌, ◌<◌, min}
use Rattle.std.proofs.Math.Nat.{mul-div_cancel}
use Rattle.std.proofs.Math.Dec.{T, leb, leb→le, eqb→eq}
use Rattle.std.specs.Float.Ieee.{nan, prec, up, down, add, sub, le, to_unsigned, in_unsigned, whole}
use Rattle.std.specs.Float.{inf, fin, Format, binary32, binary64}
use Rattle.std.specs.Float.Ieee.Fits.{down_pos, and_l, and_r}
use Rattle.std.specs.Float.Ieee.Casts.{to_unsigned_cut}
use Rattle.std.specs.Float.Ieee.Exact.{HasValue}
use Rattle.std.specs.Float.Ieee.Back.{round_whole}
use Rattle.rules.specs.Tree.{zero_time}
use Rattle.rules.specs.Bound.{cap, num, whole_time}
use Rattle.floats.specs.Values.{add_val, sub_val, order_val}

pub cap_fits : (F : Format) → cap F + cap F ≤ 2 ^ prec F
cap_fits binary32 = lit≤ tt
cap_fits binary64 = lit≤ tt

prec_64 : (F : Format) → 2 ^ prec F < 2 ^ 64
prec_64 binary32 = lit< tt
prec_64 binary64 = lit< tt

module _ (F : Format) where
  -- the time is whole, and at most the cap
  abbrev pub W : Float → Type 0
  W x = HasValue x false (num x) 1 × (num x ≤ cap F)

  exact_cut : (n d : ℕ) → n % d ≡ 0 → n * 1 ≡ n / d * d
  exact_cut n d h = mul-one n ∙ sym (div-add-mod' n d) ∙ ap (λ (z : ℕ). n / d * d + z) h ∙ add-zero (n / d * d)

  fin_value : (s : Bool) (m : ℕ) (e : ℤ) → T (in_unsigned F 64 (fin s m e)) → HasValue (fin s m e) false (num (fin s m e)) 1
  unfolding in_unsigned num whole
  fin_value true m e u = absurd (and_r (whole F (fin true m e)) false u)
  fin_value false m e u =
      let t : T (whole F (fin false m e)) = and_l (whole F (fin false m e)) (ltb (m * up e / down e) (2 ^ 64)) u in
      let c : T (eqb (m * up e % down e) 0 && leb (m * up e / down e) (2 ^ prec F)) = and_l (eqb (m * up e % down e) 0 && leb (m * up e / down e) (2 ^ prec F)) true t in
      let z : m * up e % down e ≡ 0 = eqb→eq (m * up e % down e) 0 (and_l (eqb (m * up e % down e) 0) (leb (m * up e / down e) (2 ^ prec F)) c) in
      (refl, exact_cut (m * up e) (down e) z ∙ ap (λ (q : ℕ). q * down e) (sym (to_unsigned_cut F 64 false m e u)))

  -- the test of a limit, a step or a leftover
  pub whole_W : (x : Float) → T (whole_time F x) → W x
  unfolding whole_time
  whole_W nan t = absurd t
  whole_W (inf s) t = absurd t
  whole_W (fin s m e) t =
      let u : T (in_unsigned F 64 (fin s m e)) = and_l (in_unsigned F 64 (fin s m e)) (leb (num (fin s m e)) (cap F)) t in
      (fin_value s m e u, leb→le (num (fin s m e)) (cap F) (and_r (in_unsigned F 64 (fin s m e)) (leb (num (fin s m e)) (cap F)) t))

  pub zero_num : num zero_time ≡ 0
  unfolding num to_unsigned
  zero_num = refl

  pub zero_W : W zero_time
  unfolding num to_unsigned
  zero_W = ((refl, refl), omega arith)

  under_min : (a : ℕ) → a ≤ 2 ^ prec F → min a (2 ^ 64 - 1) ≡ a
  under_min a h = omega (arith, prec_64 F)

  pub val_num : (x : Float) (a : ℕ) → HasValue x false a 1 → a ≤ 2 ^ prec F → num x ≡ a
  unfolding num to_unsigned
  val_num nan a v h = absurd v
  val_num (inf s) a v h = absurd v
  val_num (fin true m e) a v h = absurd (true≢false v.0)
  val_num (fin false m e) a v h =
      let q : m * up e / down e ≡ a = ap (λ (z : ℕ). z / down e) (sym (mul-one (m * up e)) ∙ v.1) ∙ mul-div_cancel a (down_pos e) in
      ap (λ (z : ℕ). min z (2 ^ 64 - 1)) q ∙ under_min a h

  pub W-val : (x : Float) (a : ℕ) → HasValue x false a 1 → a ≤ cap F → W x × (num x ≡ a)
  W-val x a v h =
      let n : num x ≡ a = val_num x a v (omega (arith, cap_fits F)) in
      ((rw n v, omega arith), n)

  -- sums, differences and order of whole times
  pub add_W : (x y : Float) → W x → W y → HasValue (add F x y) false (num x + num y) 1
  add_W x y p q = rw (add_val F x y (num x) (num y) p.0 q.0) (round_whole F false (num x + num y) (omega (arith, cap_fits F)))

  pub sub_W : (z l : Float) (a : ℕ) → HasValue z false a 1 → W l → a ≤ 2 ^ prec F → num l ≤ a → HasValue (sub F z l) false (a - num l) 1
  sub_W z l a v p h k = rw (sub_val F z l a (num l) v p.0 k) (round_whole F false (a - num l) (omega arith))

  pub le_W : (l z : Float) (a : ℕ) → W l → HasValue z false a 1 → le l z ≡ leb (num l) a
  le_W l z a p v = (order_val l z (num l) a p.0 v).1

  -- time y passes from x towards the limit l: either the limit is reached, and the leftover is whole, or the new time is
  pub data Passed (x y l : Float) : Bool → Type 0 where
    reached : num l ≤ num x + num y → W (sub F (add F x y) l) → Passed x y l true
    passing : num x + num y < num l → W (add F x y) → num (add F x y) ≡ num x + num y → Passed x y l false
