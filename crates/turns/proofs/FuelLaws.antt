-- What a driver writes leaves the fuel as it is, and a visit to a leaf uses one; and what follows a result, told in two ways.
use mathlib.Core.Path.{◌≡◌, refl, sym, ◌∙◌}
use mathlib.Core.Bool.{Bool, true, false, cond, ◌&&◌}
use mathlib.Core.List.{List}
use Prim.Native.Nat.{ℕ, zero, suc, ◌+◌, ◌-◌, ◌≤◌, ◌<◌}
use native.Mathlib.Decide.{dec_lt}
use native.Mathlib.Omega.{arith}
use lib.Dec.{ltb}
use borrow.Author.Tests.{lt-ltb, le-ltb, eq-eqb, ne_eqb}
use lib.Ieee.{Float, Format, binary64, add, le}
use lib.ListN.{length, set, get_or-eq_default}
use lib.Seq.{get_or-set_same, get_or-set_other}
use Rattle.rules.specs.declared.behavior.Kind.{Kind}
use Rattle.rules.specs.declared.behavior.Kind.TheVariants.{Wait, Action}
use Rattle.rules.specs.Kinds.{is}
use Rattle.rules.specs.Tree.{zero_time}
use Rattle.rules.specs.declared.status.Status.{Status}
use Rattle.work.specs.declared.result.Seen.{Seen}
use Rattle.work.specs.declared.result.Seen.TheVariants.{Stopped, Running, Success, Failure}
use Rattle.work.specs.Word.{fresh_word, below_of, kind_in}
use Rattle.work.specs.Array.{word_at, time_at, number_at, fuel_of, used_of, updates, end_of, fresh_words, child_after, child_from, moved_words, decided_words, chosen_words}
use Rattle.work.specs.Flat.{Out, out, Step, Lent, lent, Visitor, and_then, seen, is_leaf, wait, action, leaf, visit_leaf, visit}
use Rattle.work.proofs.VisitLaws.{visit_leaf_lem, visit_node}
use Rattle.leaves.specs.Waiting.{Waiting, none, more}
use Rattle.leaves.proofs.WaitLaws.{passed_on}

pub fuel_set : (ws : List ℕ) (p w : ℕ) → p < 256 → fuel_of (set ws p w) ≡ fuel_of ws
fuel_set ws p w h = get_or-set_other ws p 256 w 0 (λ e. omega arith)

pub fuel_fresh : (ws : List ℕ) (q n : ℕ) → q + n ≤ 256 → fuel_of (fresh_words q n ws) ≡ fuel_of ws
unfolding fresh_words
fuel_fresh ws q zero h = refl
fuel_fresh ws q (suc n) h = fuel_fresh (set ws q (fresh_word (word_at ws q))) (q + 1) n (omega arith) ∙ fuel_set ws q (fresh_word (word_at ws q)) (omega arith)

-- from a place to another
fuel_none : (ws : List ℕ) (q n : ℕ) → n ≡ 0 → fuel_of (fresh_words q n ws) ≡ fuel_of ws
unfolding fresh_words
fuel_none ws q n e = rw e

pub fuel_fresh_to : (ws : List ℕ) (q to : ℕ) → to ≤ 256 → fuel_of (fresh_words q (to - q) ws) ≡ fuel_of ws
fuel_fresh_to ws q to h = elim (dec_lt q to) [
  | yes l ↦ fuel_fresh ws q (to - q) (omega arith)
  | no l ↦ fuel_none ws q (to - q) (omega arith)
]

at_most : (e : ℕ) → cond (ltb e 256) e 256 ≤ 256
at_most e = elim (dec_lt e 256) [
  | yes l ↦ rw (lt-ltb e 256 l) (omega arith)
  | no l ↦ rw (le-ltb e 256 (omega arith)) (omega arith)
]

end_in : (ws : List ℕ) (p : ℕ) → end_of ws p ≤ 256
unfolding end_of
end_in ws p = at_most (p + 1 + below_of (word_at ws p))

pub fuel_moved : (ws : List ℕ) (q next stop body : ℕ) → next ≤ 256 → fuel_of (moved_words q next stop body ws) ≡ fuel_of ws
unfolding moved_words
fuel_moved ws q next stop body h =
    let ws' = fresh_words q (next - q) ws in
    let due = child_after next stop body in
    fuel_fresh_to ws' due (end_of ws' due) (end_in ws' due) ∙ fuel_fresh_to ws q next h

pub fuel_chosen : (ws : List ℕ) (p stop i : ℕ) → p < 256 → fuel_of (chosen_words p stop i ws) ≡ fuel_of ws
unfolding chosen_words decided_words
fuel_chosen ws p stop i h =
    let ws' = decided_words p i ws in
    let b = child_from ws' stop i (p + 1) in
    fuel_fresh_to ws' b (end_of ws' b) (end_in ws' b)
    ∙ fuel_set (fresh_words (p + 1) (end_of ws (p + 1) - (p + 1)) ws) p _ h
    ∙ fuel_fresh_to ws (p + 1) (end_of ws (p + 1)) (end_in ws (p + 1))

-- ---- a visit to a leaf uses one
stopped_as : {s : Seen} {l l' : Float} {ws ws' : List ℕ} {ts ts' : List Float} → out s l ws ts ≡ out Stopped l' ws' ts' → s ≡ Stopped
stopped_as e = cc

long_fuel : (ws : List ℕ) → (fuel_of ws ≡ 0 → ⊥) → 256 < length ws
long_fuel ws h = elim (dec_lt 256 (length ws)) [
  | yes l ↦ l
  | no l ↦ absurd (h (get_or-eq_default ws 0 (omega arith)))
]

pub fuel_used : (ws : List ℕ) → (fuel_of ws ≡ 0 → ⊥) → fuel_of (set ws 256 (fuel_of ws - 1)) < fuel_of ws
fuel_used ws h = omega (arith, h, get_or-set_same ws 256 (fuel_of ws - 1) 0 (long_fuel ws h))

-- what a walk that has not stopped has left
abbrev Leaves : ℕ → Out → Type 0
Leaves n (out s l ws ts) = (s ≡ Stopped → ⊥) → fuel_of ws ≡ n

leaves_if : (n : ℕ) (b : Bool) (x y : Out) → Leaves n x → Leaves n y → Leaves n (cond b x y)
leaves_if n true x y f g = f
leaves_if n false x y f g = g

module _ (F : Format) (T : Lent) (k : Kind) (p : ℕ) (dt : Float) (ts : List Float) where
  leaf_leaves : (ws : List ℕ) → Leaves (fuel_of ws) (leaf F T k p dt ws ts)
  unfolding leaf wait action
  leaf_leaves ws =
      leaves_if (fuel_of ws) (is k Wait) _ _
      (leaves_if (fuel_of ws) (updates ws) _ _
      (leaves_if (fuel_of ws) (le (number_at T.limits p) (add F (time_at ts p) dt)) _ _ (λ z. refl) (λ z. refl))
      (λ z. refl))
      (leaves_if (fuel_of ws) (is k Action) _ _
      (leaves_if (fuel_of ws) (ltb (used_of ws) (length T.statuses) && (ltb (used_of ws) (length T.leftovers) && ltb (used_of ws) 4294967295)) _ _
      (λ z. get_or-set_other ws 257 256 (used_of ws + 1) 0 (λ e. omega arith))
      (λ z. absurd (z refl)))
      (λ z. refl))

seen_leaves : (n p : ℕ) (o : Out) → p < 256 → Leaves n o → Leaves n (seen p o)
seen_leaves n p (out Stopped l ws ts) h f = λ z. absurd (z refl)
seen_leaves n p (out Running l ws ts) h f = λ z. get_or-set_other ws p 256 _ 0 (λ e. omega arith) ∙ f z
seen_leaves n p (out Success l ws ts) h f = λ z. get_or-set_other ws p 256 _ 0 (λ e. omega arith) ∙ f z
seen_leaves n p (out Failure l ws ts) h f = λ z. get_or-set_other ws p 256 _ 0 (λ e. omega arith) ∙ f z

module _ (F : Format) (T : Lent) (k : Kind) (p : ℕ) (dt : Float) (ws : List ℕ) (ts : List Float) (h : p < 256) where
  spent_leaf : fuel_of ws ≡ 0 → visit_leaf F T k p dt ws ts ≡ out Stopped zero_time ws ts
  unfolding visit_leaf
  spent_leaf z = rw (eq-eqb (fuel_of ws) 0 z)

  fuelled_leaf : (fuel_of ws ≡ 0 → ⊥) → visit_leaf F T k p dt ws ts ≡ seen p (leaf F T k p dt (set ws 256 (fuel_of ws - 1)) ts)
  unfolding visit_leaf
  fuelled_leaf z = rw (ne_eqb (fuel_of ws) 0 z)

  -- a leaf that was visited has used one
  pub leaf_less : (s : Seen) (l : Float) (ws' : List ℕ) (ts' : List Float) → visit_leaf F T k p dt ws ts ≡ out s l ws' ts' → (s ≡ Stopped → ⊥) → fuel_of ws' < fuel_of ws
  leaf_less s l ws' ts' e g = elim (dec_lt 0 (fuel_of ws)) [
    | yes d ↦
        let n : fuel_of ws ≡ 0 → ⊥ = (λ z. omega arith) in
        let w : List ℕ = set ws 256 (fuel_of ws - 1) in
        let o : Leaves (fuel_of w) (out s l ws' ts') = rw (sym (fuelled_leaf n) ∙ e) at (seen_leaves (fuel_of w) p (leaf F T k p dt w ts) h (leaf_leaves F T k p dt ts w)) in
        omega (arith, o g, fuel_used ws n)
    | no d ↦
        let z : s ≡ Stopped = stopped_as (sym e ∙ spent_leaf (omega arith)) in
        absurd (g z)
  ]

-- so do visits to Waits, one after the other
runs_on : Running ≡ Stopped → ⊥
runs_on z = let n : ◌≡◌ {A = ℕ} 0 1 = cc in omega arith

abbrev stops : Visitor
stops p dt ws ts = out Stopped zero_time ws ts

module _ (F : Format) (T : Lent) (p : ℕ) (dt : Float) (ws : List ℕ) (ts : List Float) (h : p < 256) (l : Float) (ws' : List ℕ) (ts' : List Float) where
  visit_less : (b : Bool) → is_leaf (kind_in (word_at ws p)) ≡ b → visit F T stops p dt ws ts ≡ out Running l ws' ts' → fuel_of ws' < fuel_of ws
  visit_less true k e =
      leaf_less F T _ p dt ws ts h Running l ws' ts' (sym (visit_leaf_lem F T p dt ws ts stops _ _ refl k refl) ∙ e) runs_on
  visit_less false k e = absurd (runs_on (stopped_as (sym e ∙ visit_node F T p dt ws ts stops _ _ refl k refl)))

pub fuel_waiting : {limits : List Float} {dt : Float} {q r : ℕ} {ws ws' : List ℕ} {ts ts' : List Float} → Waiting limits dt q r ws ts ws' ts' → r ≤ 256 → fuel_of ws' ≤ fuel_of ws
fuel_waiting none h = omega arith
fuel_waiting {limits} {dt} (more {q = q} {ws = ws} {ws₁ = ws₁} {ts = ts} {ts₁ = ts₁} e m v w) h =
    let l = passed_on w in
    let d : q < 256 = omega arith in
    omega (arith, fuel_waiting w h, visit_less binary64 (lent limits List.[] List.[]) q dt ws ts d zero_time ws₁ ts₁ _ refl (v List.[] List.[] stops))

-- ---- what follows a result
-- the same follows, if it does so on what the child gave
pub then_alike : (o : Out) (f g : Status → Float → Step) → ((s : Status) (l : Float) (ws : List ℕ) (ts : List Float) → f s l ws ts ≡ g s l ws ts) → and_then o f ≡ and_then o g
then_alike (out Stopped l ws ts) f g h = refl
then_alike (out Running l ws ts) f g h = h _ l ws ts
then_alike (out Success l ws ts) f g h = h _ l ws ts
then_alike (out Failure l ws ts) f g h = h _ l ws ts
