-- Calling again with more fuel and more answers. A call answered 0 is answered so again, and leaves the same: the visits and the answers used are
-- those of the rules. A call that asked, and gets one answer more, uses it.
use Rattle.std.specs.Prelude.{◌≡◌, List, ◌++◌, T, Float}
use Rattle.std.proofs.Common.{sym, ◌∙◌, subst, add-zero}
use Rattle.std.proofs.Math.Path.{ap}
use Prim.Native.Nat.{ℕ, suc, ◌+◌, ◌-◌}
use native.Mathlib.Omega.{arith}
use Rattle.std.proofs.Math.ListN.{length, length-append}
use Rattle.std.specs.Float.{Format}
use Rattle.rules.specs.declared.answer.Answer.{Answer}
use Rattle.rules.specs.declared.answer.Answer.TheVariants.{Ticked, Asked, Finished, BadTable, TooShort, BadTime, BadAnswer, OutOfFuel, BadCell, NoRoom}
use Rattle.rules.specs.Tree.{Tree}
use Rattle.rules.specs.Outcome.{status_of, world, Out, done, asks, short}
use Rattle.rules.specs.State.{tick}
use Rattle.rules.specs.Table.{most_deep, cleaned}
use Rattle.rules.specs.Cells.{none}
use Rattle.rules.specs.Board.{shown}
use Rattle.rules.specs.Call.{Given, Left, left, counted, onto_run, onto_board, since_in, spared, answers, cleaned_event, answer_allowed, bad_answer, walked}
use Rattle.laws.specs.View.{Call, left_by, held_by, start_of, walk, Walked, NotWalked, not_walked, View, walking, refusing, view}
use Rattle.laws.specs.Walks.{walks}
use Rattle.laws.specs.History.{is_ticked, not_ticked}
use Rattle.laws.specs.Lent.{allowed_of, none_if, Paired, allowed_append, answers_append}
use Rattle.laws.specs.Alone.{Answers}
use Rattle.laws.specs.More.{Grown}
use Rattle.laws.proofs.More.{tick_more}
use Rattle.laws.specs.Asking.{Answered}
use Rattle.laws.proofs.Asking.{answer_taken}
use Rattle.laws.specs.Again.{again, again_by, Progress, is_asked, one}

module _ (F : Format) (a : Call) (k : ℕ) (ss : List ℕ) (ls : List Float) (even : Paired a.given'.statuses a.given'.leftovers) (i j : ℕ) (allowed : bad_answer i ss ls ≡ none j) where
  abbrev g : Given
  g = a.given'

  walked_again : (t : Tree) → Walked a t → Walked (again_by k ss ls a) t
  walked_again t w = record {
    table_good = w.table_good;
    long_enough = w.long_enough;
    cells_good = w.cells_good;
    time_good = w.time_good;
    answers_good =
        none_if 0 (g.statuses ++ ss) (g.leftovers ++ ls) (allowed_append g.statuses ss g.leftovers ls even
        (allowed_of 0 w.answers_good.0 g.statuses g.leftovers w.answers_good.1) (allowed_of i j ss ls allowed));
    not_finished = w.not_finished;
  }

  walk_again : (t : Tree) → walk F t (again_by k ss ls a) ≡ tick F most_deep (start_of t a) (cleaned_event g.event) (world (g.fuel + k) (answers g.statuses g.leftovers ++ answers ss ls))
  walk_again t = ap (λ (z : Answers). tick F most_deep (start_of t a) (cleaned_event g.event) (world (g.fuel + k) z)) (answers_append g.statuses ss g.leftovers ls even)

  visits : (a b : ℕ) → a + k - (b + k) ≡ a - b
  visits a b = omega arith

  used : (a b m : ℕ) → a + m - (b + m) ≡ a - b
  used a b m = omega arith

  used_again : (ans : Answers) → length (answers (g.statuses ++ ss) (g.leftovers ++ ls)) - length (ans ++ answers ss ls) ≡ length (answers g.statuses g.leftovers) - length ans
  used_again ans =
      rw (answers_append g.statuses ss g.leftovers ls even, length-append (answers g.statuses g.leftovers) (answers ss ls), length-append ans (answers ss ls))
      (used (length (answers g.statuses g.leftovers)) (length ans) (length (answers ss ls)))

  left_again : (t : Tree) (o o' : Out Tree) → Grown k (answers ss ls) o o' → T (is_ticked (walked g t o).answer) → walked (again k ss ls g) t o' ≡ walked g t o
  left_again t (done s r t' (world f ans)) o' h a = ap (λ (u : Out Tree). walked (again k ss ls g) t u) h ∙ same
    where
      same : walked (again k ss ls g) t (done s r t' (world (f + k) (ans ++ answers ss ls))) ≡ walked g t (done s r t' (world f ans))
      same = λ z. left (Ticked s r (visits g.fuel f z) (used_again ans z)) (counted s g.record') (onto_run (since_in g s t') t' g.cells') (spared g t) (onto_board (shown t') g.board)
  left_again t (asks n x) o' h a = absurd a
  left_again t short o' h a = absurd a

  -- answered 0: the same again, in all that it says and leaves
  pub same_again : T (is_ticked (left_by F a).answer) → left_by F (again_by k ss ls a) ≡ left_by F a
  same_again h = on (left_by F a) (view F a) h
    where
      on : (l : Left) → View F a l → T (is_ticked l.answer) → left_by F (again_by k ss ls a) ≡ l
      on l (refusing b y) h = absurd (subst T (not_ticked b (not_walked a b y)) h)
      on l (walking t w) h =
          walks F (again_by k ss ls a) t (walked_again t w)
          ∙ ap (λ (u : Out Tree). walked (again k ss ls g) (held_by t g) u) (walk_again t)
          ∙ left_again (held_by t g) (walk F t a) (tick F most_deep (start_of t a) (cleaned_event g.event) (world (g.fuel + k) (answers g.statuses g.leftovers ++ answers ss ls)))
          (tick_more k (answers ss ls) F most_deep (start_of t a) (cleaned_event g.event) g.fuel (answers g.statuses g.leftovers)) h

no_more : (used left : Answers) → List.[] ≡ used ++ left → length left ≡ 0
no_more used left e = zero_of (length used) (length left) (ap length e ∙ length-append used left)
  where
    zero_of : (a b : ℕ) → 0 ≡ a + b → b ≡ 0
    zero_of a b q = omega arith

module _ (F : Format) (a : Call) (s : ℕ) (l : Float) (even : Paired a.given'.statuses a.given'.leftovers) (allowed : T (answer_allowed s l)) where
  abbrev g' : Given
  g' = a.given'

  one_allowed : (j : ℕ) × (bad_answer 0 (List.◌∷◌ s List.[]) (List.◌∷◌ l List.[]) ≡ none j)
  one_allowed = none_if 0 (List.◌∷◌ s List.[]) (List.◌∷◌ l List.[]) (allowed, tt)

  all_used : (t : Tree) (o o' : Out Tree) → Answered (status_of s, cleaned l) List.[] F o o' → is_asked (walked g' t o).answer
      → Progress (suc (length (answers g'.statuses g'.leftovers))) (walked (one F a s l even allowed).given' t o').answer
  unfolding answers
  all_used t (done s' r t' (world f ans)) o' h a = absurd a
  all_used t short o' h a = absurd a
  all_used t (asks n x) (asks n' x') h a = tt
  all_used t (asks n x) short h a = tt
  all_used t (asks n x) (done s' r t' (world f left)) h a =
      rw (no_more h.0 left h.1) (count (length (answers g'.statuses g'.leftovers))
      (ap length (answers_append g'.statuses (List.◌∷◌ s List.[]) g'.leftovers (List.◌∷◌ l List.[]) even) ∙ length-append (answers g'.statuses g'.leftovers)
      (List.◌∷◌ (status_of s, cleaned l) List.[])))
    where
      count : (n : ℕ) → length (answers (g'.statuses ++ List.◌∷◌ s List.[]) (g'.leftovers ++ List.◌∷◌ l List.[])) ≡ n + 1
          → length (answers (g'.statuses ++ List.◌∷◌ s List.[]) (g'.leftovers ++ List.◌∷◌ l List.[])) - 0 ≡ suc n
      count n q = omega arith

  walk_one : (t : Tree) → walk F t (one F a s l even allowed)
      ≡ tick F most_deep (start_of t a) (cleaned_event g'.event) (world g'.fuel (answers g'.statuses g'.leftovers ++ List.◌∷◌ (status_of s, cleaned l) List.[]))
  unfolding answers
  walk_one t = walk_again F a 0 (List.◌∷◌ s List.[]) (List.◌∷◌ l List.[]) even 0 one_allowed.0 one_allowed.1 t
      ∙ ap (λ (f : ℕ). tick F most_deep (start_of t a) (cleaned_event g'.event) (world f (answers g'.statuses g'.leftovers ++ List.◌∷◌ (status_of s, cleaned l) List.[])))
      (add-zero g'.fuel)

  asked_not : (b : Answer) → NotWalked b → is_asked b → ⊥
  asked_not (Asked n x) h q = h
  asked_not (Ticked s' r v u) h q = q
  asked_not OutOfFuel h q = q
  asked_not Finished h q = q
  asked_not (BadTable p) h q = q
  asked_not TooShort h q = q
  asked_not BadTime h q = q
  asked_not (BadAnswer i) h q = q
  asked_not (BadCell p) h q = q
  asked_not NoRoom h q = q

  -- asked: with one answer more, all answers are used, or a next question is asked, or the fuel is used up
  pub answered_again : is_asked (left_by F a).answer → Progress (suc (length (answers g'.statuses g'.leftovers))) (left_by F (one F a s l even allowed)).answer
  answered_again h = on (left_by F a) (view F a) h
    where
      on : (k : Left) → View F a k → is_asked k.answer → Progress (suc (length (answers g'.statuses g'.leftovers))) (left_by F (one F a s l even allowed)).answer
      on k (refusing b y) h = absurd (asked_not b (not_walked a b y) h)
      on k (walking t w) h =
          subst (λ (u : Left). Progress (suc (length (answers g'.statuses g'.leftovers))) u.answer)
          (sym (walks F (one F a s l even allowed) t (walked_again F a 0 (List.◌∷◌ s List.[]) (List.◌∷◌ l List.[]) even 0 one_allowed.0 one_allowed.1 t w)
          ∙ ap (λ (u : Out Tree). walked (one F a s l even allowed).given' (held_by t g') u) (walk_one t)))
          (all_used (held_by t g') (walk F t a)
          (tick F most_deep (start_of t a) (cleaned_event g'.event) (world g'.fuel (answers g'.statuses g'.leftovers ++ List.◌∷◌ (status_of s, cleaned l) List.[])))
          (answer_taken (status_of s, cleaned l) List.[] F most_deep (start_of t a) (cleaned_event g'.event) g'.fuel (answers g'.statuses g'.leftovers)) h)
