-- The answers that a call is lent, and more of them behind: allowed ones behind allowed ones are allowed, and the walk gets them in order.
use Rattle.std.specs.Prelude.{◌≡◌, refl, Bool, true, false, cond, List, ◌++◌, ℕ, suc, T, Float}
use Rattle.std.proofs.Common.{ap, ◌∙◌}
use Rattle.rules.specs.Cells.{Found, faulty, none}
use Rattle.rules.specs.Outcome.{status_of}
use Rattle.rules.specs.Table.{cleaned}
use Rattle.rules.specs.Call.{answers, answer_allowed, bad_answer}
use Rattle.laws.specs.Fine.{IfNone}
use Rattle.laws.specs.Alone.{Answers}

abbrev pub Allowed : List ℕ → List Float → Type 0
Allowed List.[] ls = Unit {0}
Allowed (List.◌∷◌ s ss) List.[] = Unit {0}
Allowed (List.◌∷◌ s ss) (List.◌∷◌ l ls) = T (answer_allowed s l) × Allowed ss ls

allowed_if : (i : ℕ) (ss : List ℕ) (ls : List Float) → IfNone (bad_answer i ss ls) (Allowed ss ls)
unfolding bad_answer
allowed_if i List.[] ls = tt
allowed_if i (List.◌∷◌ s ss) List.[] = tt
allowed_if i (List.◌∷◌ s ss) (List.◌∷◌ l ls) = on (answer_allowed s l) (λ h. h) (bad_answer (suc i) ss ls) (allowed_if (suc i) ss ls)
  where
    on : (b : Bool) → (T b → T (answer_allowed s l)) → (o : Found) → IfNone o (Allowed ss ls) → IfNone (cond b o (faulty i)) (T (answer_allowed s l) × Allowed ss ls)
    on true f (faulty p) h = tt
    on true f (none j) h = (f tt, h)
    on false f o h = tt

pub allowed_of : (i j : ℕ) (ss : List ℕ) (ls : List Float) → bad_answer i ss ls ≡ none j → Allowed ss ls
allowed_of i j ss ls e = rw e at (allowed_if i ss ls)

pub none_if : (i : ℕ) (ss : List ℕ) (ls : List Float) → Allowed ss ls → (j : ℕ) × (bad_answer i ss ls ≡ none j)
unfolding bad_answer
none_if i List.[] ls h = (i, refl)
none_if i (List.◌∷◌ s ss) List.[] h = (i, refl)
none_if i (List.◌∷◌ s ss) (List.◌∷◌ l ls) h = let r = none_if (suc i) ss ls h.1 in (r.0, on (answer_allowed s l) h.0 (bad_answer (suc i) ss ls) ∙ r.1)
  where
    on : (b : Bool) → T b → (o : Found) → cond b o (faulty i) ≡ o
    on true f o = refl
    on false f o = absurd f

-- as many leftovers as statuses
abbrev pub Paired : List ℕ → List Float → Type 0
Paired List.[] List.[] = Unit {0}
Paired List.[] (List.◌∷◌ l ls) = ⊥
Paired (List.◌∷◌ s ss) List.[] = ⊥
Paired (List.◌∷◌ s ss) (List.◌∷◌ l ls) = Paired ss ls

pub allowed_append : (ss ss' : List ℕ) (ls ls' : List Float) → Paired ss ls → Allowed ss ls → Allowed ss' ls' → Allowed (ss ++ ss') (ls ++ ls')
allowed_append List.[] ss' List.[] ls' e h g = g
allowed_append List.[] ss' (List.◌∷◌ l ls) ls' e h g = absurd e
allowed_append (List.◌∷◌ s ss) ss' List.[] ls' e h g = absurd e
allowed_append (List.◌∷◌ s ss) ss' (List.◌∷◌ l ls) ls' e h g = (h.0, allowed_append ss ss' ls ls' e h.1 g)

pub answers_append : (ss ss' : List ℕ) (ls ls' : List Float) → Paired ss ls → answers (ss ++ ss') (ls ++ ls') ≡ answers ss ls ++ answers ss' ls'
unfolding answers
answers_append List.[] ss' List.[] ls' e = refl
answers_append List.[] ss' (List.◌∷◌ l ls) ls' e = absurd e
answers_append (List.◌∷◌ s ss) ss' List.[] ls' e = absurd e
answers_append (List.◌∷◌ s ss) ss' (List.◌∷◌ l ls) ls' e = ap (λ (z : Answers). List.◌∷◌ (status_of s, cleaned l) z) (answers_append ss ss' ls ls' e)
