-- The finish bound of a table for a step: the number that the bound's call says, or the one that it says is above 2 ^ 53.
use Rattle.std.specs.Prelude.{◌≡◌, refl, Bool, true, false, ◌&&◌, List, ℕ, ◌<◌, ◌^◌, T, leb, Float}
use Rattle.std.proofs.Common.{sym, arith, leb-false}
use Rattle.std.proofs.Math.Path.{subst}
use Rattle.std.proofs.Math.Bool.{cond}
use Rattle.std.specs.Float.{Format}
use Rattle.std.specs.Float.Ieee.Fits.{and_l, and_r}
use Rattle.rules.specs.declared.answer.BoundAnswer.{BoundAnswer}
use Rattle.rules.specs.declared.answer.BoundAnswer.TheVariants as says
use Rattle.rules.specs.Tree.{Tree}
use Rattle.rules.specs.Table.{Table, good, bad, table}
use Rattle.rules.specs.Bound.{num, Lim, never, within, bound, boundable, step_allowed, most_ticks, told, bound_call}

module _ (F : Format) (kinds ns : List ℕ) (limits : List Float) (t : Tree) (step : Float) where
  -- N is told; or "above" is told, and N is the number that the rule of the bound gives
  pub data FinishBound (N : ℕ) : Type 0 where
    is_told : bound_call F kinds ns limits step ≡ says.Within N → FinishBound N
    is_above : bound_call F kinds ns limits step ≡ says.Above → bound (num step) t ≡ within N → FinishBound N

-- ---- what an answer says of the bound
told_within : (l : Lim) (N : ℕ) → told l ≡ says.Within N → l ≡ within N
told_within never N q = cc
told_within (within n) N q = on (leb n most_ticks) q
  where
    on : (b : Bool) → cond b (says.Within n) says.Above ≡ says.Within N → within n ≡ within N
    on true p = cc
    on false p = cc

told_above : (l : Lim) → told l ≡ says.Above → (N : ℕ) × (most_ticks < N) × (l ≡ within N)
told_above never q = let z : ◌≡◌ {A = ℕ} 0 1 = cc in absurd (omega arith)
told_above (within n) q = on (leb n most_ticks) (leb-false n most_ticks) q
  where
    on : (b : Bool) → (b ≡ false → most_ticks < n) → cond b (says.Within n) says.Above ≡ says.Above → (N : ℕ) × (most_ticks < N) × (within n ≡ within N)
    on true f p = let z : ◌≡◌ {A = ℕ} 0 1 = cc in absurd (omega arith)
    on false f p = (n, f refl, refl)

module _ (F : Format) (kinds ns : List ℕ) (limits : List Float) (t : Tree) (e : table kinds ns limits ≡ good t) (step : Float) where
  -- the call refuses the step or a limit; or it tells the bound
  data BoundView : BoundAnswer → Type 0 where
    refusing : BoundView says.NoBound
    telling : T (step_allowed F step) → T (boundable F t) → BoundView (told (bound (num step) t))

  by_test : (b : Bool) → (T b → T (step_allowed F step && boundable F t)) → BoundView (cond b (told (bound (num step) t)) says.NoBound)
  by_test true f = telling (and_l (step_allowed F step) (boundable F t) (f tt)) (and_r (step_allowed F step) (boundable F t) (f tt))
  by_test false f = refusing

  bound_view : BoundView (bound_call F kinds ns limits step)
  unfolding bound_call
  bound_view = subst (λ (o : Table). BoundView (elim o [
    | bad p ↦ says.BadTable p
    | good u ↦ cond (step_allowed F step && boundable F u) (told (bound (num step) u)) says.NoBound
  ])) (sym e) (by_test (step_allowed F step && boundable F t) (λ h. h))

  pub bounded : (N : ℕ) → FinishBound F kinds ns limits t step N → T (step_allowed F step) × T (boundable F t) × (bound (num step) t ≡ within N)
  bounded N (is_told q) = on (bound_call F kinds ns limits step) bound_view q
    where
      on : (a : BoundAnswer) → BoundView a → a ≡ says.Within N → T (step_allowed F step) × T (boundable F t) × (bound (num step) t ≡ within N)
      on a refusing p = let z : ◌≡◌ {A = ℕ} 0 1 = cc in absurd (omega arith)
      on a (telling s b) p = (s, b, told_within (bound (num step) t) N p)
  bounded N (is_above q p) = on (bound_call F kinds ns limits step) bound_view q
    where
      on : (a : BoundAnswer) → BoundView a → a ≡ says.Above → T (step_allowed F step) × T (boundable F t) × (bound (num step) t ≡ within N)
      on a refusing r = let z : ◌≡◌ {A = ℕ} 0 1 = cc in absurd (omega arith)
      on a (telling s b) r = (s, b, p)

  -- where "above" is told there is such a number, and it is above 2 ^ 53
  pub above_number : bound_call F kinds ns limits step ≡ says.Above → (N : ℕ) × (2 ^ 53 < N) × FinishBound F kinds ns limits t step N
  above_number q = on (bound_call F kinds ns limits step) bound_view q
    where
      on : (a : BoundAnswer) → BoundView a → a ≡ says.Above → (N : ℕ) × (2 ^ 53 < N) × FinishBound F kinds ns limits t step N
      on a refusing r = let z : ◌≡◌ {A = ℕ} 0 1 = cc in absurd (omega arith)
      on a (telling s b) r = let x = told_above (bound (num step) t) r in (x.0, x.1, is_above q x.2)
