-- The answers that are left.
use Rattle.std.specs.Prelude.{◌≡◌, refl, List, ℕ, zero, suc, ◌≤◌, ◌<◌, Float, get_or, length, drop}
use Rattle.std.proofs.Common.{not-suc-le-zero, le_of_suc-le-suc}
use Rattle.std.proofs.Math.Seq.{drop-nil}
use Rattle.rules.specs.Tree.{zero_time}
use Rattle.rules.specs.Outcome.{status_of}
use Rattle.rules.specs.Table.{cleaned}
use Rattle.rules.specs.Call.{answers}

pub answer_at : (u : ℕ) (ss : List ℕ) (ls : List Float) → u < length ss → u < length ls
    → drop u (answers ss ls) ≡ List.◌∷◌ (status_of (get_or ss u 0), cleaned (get_or ls u zero_time)) (drop (suc u) (answers ss ls))
unfolding answers
answer_at u List.[] ls h k = absurd (not-suc-le-zero h)
answer_at u (List.◌∷◌ s ss) List.[] h k = absurd (not-suc-le-zero k)
answer_at zero (List.◌∷◌ s ss) (List.◌∷◌ l ls) h k = refl
answer_at (suc u) (List.◌∷◌ s ss) (List.◌∷◌ l ls) h k = answer_at u ss ls (le_of_suc-le-suc h) (le_of_suc-le-suc k)

pub no_status : (u : ℕ) (ss : List ℕ) (ls : List Float) → length ss ≤ u → drop u (answers ss ls) ≡ List.[]
unfolding answers
no_status u List.[] ls h = drop-nil u
no_status u (List.◌∷◌ s ss) List.[] h = drop-nil u
no_status zero (List.◌∷◌ s ss) (List.◌∷◌ l ls) h = absurd (not-suc-le-zero h)
no_status (suc u) (List.◌∷◌ s ss) (List.◌∷◌ l ls) h = no_status u ss ls (le_of_suc-le-suc h)

pub no_leftover : (u : ℕ) (ss : List ℕ) (ls : List Float) → length ls ≤ u → drop u (answers ss ls) ≡ List.[]
unfolding answers
no_leftover u List.[] ls h = drop-nil u
no_leftover u (List.◌∷◌ s ss) List.[] h = drop-nil u
no_leftover zero (List.◌∷◌ s ss) (List.◌∷◌ l ls) h = absurd (not-suc-le-zero h)
no_leftover (suc u) (List.◌∷◌ s ss) (List.◌∷◌ l ls) h = no_leftover u ss ls (le_of_suc-le-suc h)
