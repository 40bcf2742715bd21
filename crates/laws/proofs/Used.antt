-- Answers that a tick does not use do not matter: lent those alone that it used, it does the same, and none is left.
use Rattle.std.specs.Prelude.{◌≡◌, refl, List, ◌++◌, ℕ, suc, ◌+◌, ◌-◌, length, take, Float}
use Rattle.std.proofs.Common.{sym, ap, ◌∙◌, subst, append-nil, arith, length-append, take_at}
use Rattle.std.specs.Float.{Format}
use Rattle.rules.specs.declared.status.Status.{Status}
use Rattle.rules.specs.declared.event.Event.{Event}
use Rattle.rules.specs.Tree.{Tree}
use Rattle.rules.specs.Outcome.{world, Out, done, asks, short}
use Rattle.rules.specs.State.{tick}
use Rattle.laws.specs.Alone.{Answers, AfterTick}
use Rattle.laws.proofs.Alone.{tick_keeps}
use Rattle.laws.specs.PairDrivers.{Same}
use Rattle.laws.specs.Asking.{Answered, Took}
use Rattle.laws.proofs.Asking.{answer_taken}

longer : (a : Status × Float) (more l : Answers) → more ≡ l ++ List.◌∷◌ a more → ⊥
longer a more l e = clash (length more) (length l) (ap length e ∙ length-append l (List.◌∷◌ a more))
  where
    clash : (m n : ℕ) → m ≡ n + suc m → ⊥
    clash m n q = omega arith

module _ (F : Format) (d : ℕ) (t : Tree) (e : Event) (f : ℕ) (s : Status) (r : Float) (t' : Tree) (f' : ℕ) where
  without : (used left : Answers) → tick F d t e (world f (used ++ left)) ≡ done s r t' (world f' left) → tick F d t e (world f used) ≡ done s r t' (world f' List.[])
  without used List.[] q = rw (append-nil used) at q
  without used (List.◌∷◌ a more) q = go (tick F d t e (world f used)) (answer_taken a more F d t e f used)
    where
      go : (o : Out Tree) → Answered a more F o (tick F d t e (world f (used ++ List.◌∷◌ a more))) → o ≡ done s r t' (world f' List.[])
      go (done s'' r'' t'' (world f'' List.[])) v = let z = sym v ∙ q in cc
      go (done s'' r'' t'' (world f'' (List.◌∷◌ b l))) v = let z : more ≡ l ++ List.◌∷◌ a more = cc in absurd (longer a more l z)
      go (asks n x) v = let z : Took a more F (done s r t' (world f' (List.◌∷◌ a more))) = subst (Took a more F) q v in absurd (longer a more z.0 z.1)
      go short v = cc

  pub used_alone : (ans left : Answers) → tick F d t e (world f ans) ≡ done s r t' (world f' left) → tick F d t e (world f (take (length ans - length left) ans)) ≡ done s r t' (world f' List.[])
  used_alone ans left q =
      let k : AfterTick (world f ans) (Same t) (done s r t' (world f' left)) = subst (AfterTick (world f ans) (Same t)) q (tick_keeps F d t e (world f ans)) in
      let used : Answers = k.0.1.0 in
      let split : ans ≡ used ++ left = k.0.1.1 in
      rw (split, count (length (used ++ left)) (length left) (length used) (length-append used left), take_at used left (length used) refl) (without used left (rw (← split) q))
    where
      count : (a b c : ℕ) → a ≡ c + b → a - b ≡ c
      count a b c h = omega arith
