-- Cells that were reached from fresh, or from any cells by a restart answered 0, and then by any calls, are always accepted by the cell check:
-- answer 9 is never given to them. And cells that the check accepts stay accepted, whatever a tick does.
use Rattle.std.specs.Prelude.{◌≡◌, Bool, cond, List, ℕ, suc, leb, Float}
use Rattle.std.proofs.Common.{sym, ap, ◌∙◌, subst, zero-add}
use Rattle.std.proofs.Math.Bool.{true, false}
use Rattle.std.proofs.Math.Dec.{T}
use Rattle.rules.specs.declared.event.Event.{Event}
use Rattle.rules.specs.declared.event.Event.TheVariants.{Update, Other}
use Rattle.rules.specs.Tree.{Tree, fresh, size}
use Rattle.rules.specs.Outcome.{dt, Out, done, asks, short}
use Rattle.rules.specs.Table.{cleaned, number}
use Rattle.rules.specs.Cells.{elapsed, Found, faulty, none, bad_cell}
use Rattle.rules.specs.Call.{answers, cleaned_event, answer_allowed, bad_answer, time_allowed}
use Rattle.laws.specs.Elapsed.{number_elapsed}
use Rattle.laws.specs.Fine.{fine_of, none_of, IfNone}
use Rattle.laws.specs.Live.{Live, fresh_live, live_fine, root_live}
use Rattle.laws.specs.LiveTicks.{EAnswers}

-- ---- what the checks of a call say of its times
pub event_elapsed : (e : Event) → time_allowed e ≡ true → T (elapsed (dt (cleaned_event e)))
event_elapsed (Update x) h = number_elapsed (cleaned x) (subst T (sym h) tt)
event_elapsed Other h = tt

allowed_number : (s : ℕ) (l : Float) → T (answer_allowed s l) → T (number (cleaned l))
allowed_number s l h = first (leb 1 s) h
  where
    second : (b : Bool) → T (cond b (number (cleaned l)) false) → T (number (cleaned l))
    second true g = g
    second false g = absurd g

    first : (b : Bool) → T (cond b (cond (leb s 3) (number (cleaned l)) false) false) → T (number (cleaned l))
    first true g = second (leb s 3) g
    first false g = absurd g

answers_if : (i : ℕ) (ss : List ℕ) (ls : List Float) → IfNone (bad_answer i ss ls) (EAnswers (answers ss ls))
unfolding bad_answer answers
answers_if i List.[] ls = tt
answers_if i (List.◌∷◌ s ss) List.[] = tt
answers_if i (List.◌∷◌ s ss) (List.◌∷◌ l ls) = on (answer_allowed s l) (allowed_number s l) (bad_answer (suc i) ss ls) (answers_if (suc i) ss ls)
  where
    on : (b : Bool) → (T b → T (number (cleaned l))) → (o : Found) → IfNone o (EAnswers (answers ss ls)) → IfNone (cond b o (faulty i)) (T (elapsed (cleaned l)) × EAnswers (answers ss ls))
    on true f (faulty p) h = tt
    on true f (none j) h = (number_elapsed (cleaned l) (f tt), h)
    on false f o h = tt

pub answers_elapsed : (i j : ℕ) (ss : List ℕ) (ls : List Float) → bad_answer i ss ls ≡ none j → EAnswers (answers ss ls)
answers_elapsed i j ss ls e = rw e at (answers_if i ss ls)

-- ---- one tick
-- a tree whose cells are all accepted, of a table
abbrev pub Accepted : Tree → Type 0
Accepted t = bad_cell false false 0 t ≡ none (size t)

pub accepted_of : (t : Tree) → Live t → Accepted t
accepted_of t v = none_of false false 0 t (live_fine false t v) ∙ ap none (zero-add (size t))

pub live_of : (t : Tree) (at : ℕ) → bad_cell false false 0 t ≡ none at → Live t
live_of t at e = root_live t (fine_of false false 0 at t e)

abbrev pub AcceptedAfter : Out Tree → Type 0
AcceptedAfter (done s r t' w) = Accepted t'
AcceptedAfter (asks n x) = Unit {0}
AcceptedAfter short = Unit {0}

pub fresh_accepted : (t : Tree) → Accepted (fresh t)
fresh_accepted t = accepted_of (fresh t) (fresh_live t)
