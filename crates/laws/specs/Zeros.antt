-- Minus zero is taken as plus zero: a call that is given the one for the other says and leaves the same.
use Rattle.std.specs.Prelude.{◌≡◌, refl, Bool, true, cond, List, map, ℕ, zero, suc, ◌-◌, Float, length}
use Rattle.std.proofs.Common.{ap, ◌∙◌}
use Rattle.std.proofs.Math.Bool.{false}
use Rattle.std.specs.Float.{Format, nan, inf, fin}
use Rattle.rules.specs.declared.event.Event.{Event}
use Rattle.rules.specs.declared.event.Event.TheVariants.{Update, Other}
use Rattle.rules.specs.declared.answer.Answer.TheVariants.{Ticked, Finished, BadTable, TooShort, BadTime, BadAnswer, BadCell}
use Rattle.rules.specs.Tree.{Tree, fresh, size}
use Rattle.rules.specs.Outcome.{status_of, world, Out, done, asks, short}
use Rattle.rules.specs.State.{tick}
use Rattle.rules.specs.Table.{most_deep, cleaned, Row, row, rows, good, bad, whole, read_tree, table}
use Rattle.rules.specs.Cells.{Found, faulty, none, bad_cell}
use Rattle.rules.specs.Board.{shown}
use Rattle.rules.specs.Call.{Given, Left, left, answers, answer_allowed, bad_answer, cleaned_event, time_allowed, counted, onto_run, onto_board, since_in, spared, refused, walked}
use Rattle.rules.specs.Call.{too_short, on_table, on_inputs, at_entry, walk_from, tick_call, restart_call}
use Rattle.rules.specs.Bound.{bound_call}

-- the call with another event, and with other numbers
abbrev pub lending : Given → Event → List Float → List Float → Given
lending g e ls xs = record {
  kinds = g.kinds;
  ns = g.ns;
  limits = ls;
  record' = g.record';
  cells' = g.cells';
  spare = g.spare;
  board = g.board;
  event = e;
  fuel = g.fuel;
  statuses = g.statuses;
  leftovers = xs;
}

abbrev pub with_event : Event → Given → Given
with_event e g = lending g e g.limits g.leftovers

-- each number that it is given cleaned
abbrev pub cleaned_call : Given → Given
cleaned_call g = lending g (cleaned_event g.event) (map cleaned g.limits) (map cleaned g.leftovers)

-- ---- once cleaned, a number stays
twice : (x : Float) → cleaned (cleaned x) ≡ cleaned x
twice nan = refl
twice (inf s) = refl
twice (fin s zero e) = refl
twice (fin s (suc m) e) = refl

pub event_twice : (e : Event) → cleaned_event (cleaned_event e) ≡ cleaned_event e
event_twice (Update x) = ap Update (twice x)
event_twice Other = refl

pub time_twice : (e : Event) → time_allowed (cleaned_event e) ≡ time_allowed e
time_twice (Update x) = rw (twice x)
time_twice Other = refl

rows_twice : (ks ns : List ℕ) (ls : List Float) → rows ks ns (map cleaned ls) ≡ rows ks ns ls
unfolding rows
rows_twice List.[] ns ls = refl
rows_twice (List.◌∷◌ k ks) List.[] ls = refl
rows_twice (List.◌∷◌ k ks) (List.◌∷◌ n ns) List.[] = refl
rows_twice (List.◌∷◌ k ks) (List.◌∷◌ n ns) (List.◌∷◌ l ls) = λ i. List.◌∷◌ (row k n (twice l i)) (rows_twice ks ns ls i)

table_twice : (ks ns : List ℕ) (ls : List Float) → table ks ns (map cleaned ls) ≡ table ks ns ls
unfolding table
table_twice ks ns ls = ap (λ (rs : List Row). whole (read_tree most_deep 0 rs)) (rows_twice ks ns ls)

answers_twice : (ss : List ℕ) (ls : List Float) → answers ss (map cleaned ls) ≡ answers ss ls
unfolding answers
answers_twice List.[] ls = refl
answers_twice (List.◌∷◌ s ss) List.[] = refl
answers_twice (List.◌∷◌ s ss) (List.◌∷◌ l ls) = λ i. List.◌∷◌ (status_of s, twice l i) (answers_twice ss ls i)

bad_twice : (i : ℕ) (ss : List ℕ) (ls : List Float) → bad_answer i ss (map cleaned ls) ≡ bad_answer i ss ls
unfolding bad_answer
bad_twice i List.[] ls = refl
bad_twice i (List.◌∷◌ s ss) List.[] = refl
bad_twice i (List.◌∷◌ s ss) (List.◌∷◌ l ls) = rw (twice l) (ap (λ (o : Found). cond (answer_allowed s l) o (faulty i)) (bad_twice (suc i) ss ls))

-- ---- calls that differ in nothing that is used
-- what is due of a tick once its cells are looked at
abbrev CellsDue : Format → Given → Tree → Found → Left
CellsDue F g t f = elim f [
  | faulty p ↦ refused g (BadCell p)
  | none _ ↦ on_inputs g (cond g.record'.finished (refused g Finished) (walked g t (walk_from F g t)))
]

module _ (F : Format) (g : Given) (e : Event) (ls xs : List Float)
    (tables : table g.kinds g.ns ls ≡ table g.kinds g.ns g.limits)
    (events : cleaned_event e ≡ cleaned_event g.event)
    (allowed : time_allowed e ≡ time_allowed g.event)
    (lent : answers g.statuses xs ≡ answers g.statuses g.leftovers)
    (fine : bad_answer 0 g.statuses xs ≡ bad_answer 0 g.statuses g.leftovers) where
  walked_alike : (t : Tree) (o : Out Tree) → walked (lending g e ls xs) t o ≡ walked g t o
  walked_alike t (done s r t' (world f ans)) =
      λ i. left (Ticked s r (g.fuel - f) (length (lent i) - length ans)) (counted s g.record') (onto_run (since_in g s t') t' g.cells') (spared g t) (onto_board (shown t') g.board)
  walked_alike t (asks n x) = refl
  walked_alike t short = refl

  walk_alike : (t u : Tree) → walked (lending g e ls xs) t (walk_from F (lending g e ls xs) u) ≡ walked g t (walk_from F g u)
  walk_alike t u = walked_alike t (walk_from F (lending g e ls xs) u) ∙ λ i. walked g t (tick F most_deep u (events i) (world g.fuel (lent i)))

  inputs_alike : (l l' : Left) → l ≡ l' → on_inputs (lending g e ls xs) l ≡ on_inputs g l'
  inputs_alike l l' same = λ i. cond (allowed i)
      (elim (fine i) [
        | faulty j ↦ refused g (BadAnswer j)
        | none _ ↦ same i
      ])
      (refused g BadTime)

  table_alike : (due due' : Tree → Left) → ((t : Tree) → due t ≡ due' t) → on_table (lending g e ls xs) due ≡ on_table g due'
  table_alike due due' same = λ i. elim (tables i) [
    | bad p ↦ refused g (BadTable p)
    | good t ↦ cond (too_short g (size t)) (refused g TooShort) (same t i)
  ]

  cells_alike : (t : Tree) (f : Found) → CellsDue F (lending g e ls xs) t f ≡ CellsDue F g t f
  cells_alike t (faulty p) = refl
  cells_alike t (none i) = inputs_alike _ _ (ap (λ (l : Left). cond g.record'.finished (refused g Finished) l) (walk_alike t t))

  pub ticks_alike : tick_call F (lending g e ls xs) ≡ tick_call F g
  unfolding tick_call
  ticks_alike = table_alike _ _ (λ t. cells_alike (at_entry g t) (bad_cell false false 0 (at_entry g t)))

  pub restarts_alike : restart_call F (lending g e ls xs) ≡ restart_call F g
  unfolding restart_call
  restarts_alike = table_alike _ _ (λ t. inputs_alike _ _ (walk_alike (at_entry g t) (fresh t)))

-- ---- a tick, a restart and a bound
pub same_tick : (F : Format) (g : Given) → tick_call F (cleaned_call g) ≡ tick_call F g
same_tick F g = ticks_alike F g (cleaned_event g.event) (map cleaned g.limits) (map cleaned g.leftovers) (table_twice g.kinds g.ns g.limits)
    (event_twice g.event) (time_twice g.event) (answers_twice g.statuses g.leftovers) (bad_twice 0 g.statuses g.leftovers)

pub same_restart : (F : Format) (g : Given) → restart_call F (cleaned_call g) ≡ restart_call F g
same_restart F g = restarts_alike F g (cleaned_event g.event) (map cleaned g.limits) (map cleaned g.leftovers) (table_twice g.kinds g.ns g.limits)
    (event_twice g.event) (time_twice g.event) (answers_twice g.statuses g.leftovers) (bad_twice 0 g.statuses g.leftovers)

pub same_bound : (F : Format) (kinds ns : List ℕ) (limits : List Float) (d : Float) → bound_call F kinds ns (map cleaned limits) d ≡ bound_call F kinds ns limits d
unfolding bound_call
same_bound F kinds ns limits d = rw (bound_call, table_twice kinds ns limits)

-- with the event alone cleaned
pub same_event : (F : Format) (fresh : Bool) (g : Given) → cond fresh (restart_call F) (tick_call F) (with_event (cleaned_event g.event) g) ≡ cond fresh (restart_call F) (tick_call F) g
same_event F true g = restarts_alike F g (cleaned_event g.event) g.limits g.leftovers refl (event_twice g.event) (time_twice g.event) refl refl
same_event F false g = ticks_alike F g (cleaned_event g.event) g.limits g.leftovers refl (event_twice g.event) (time_twice g.event) refl refl

pub same_walk : (g : Given) (e : Event) (t : Tree) (o : Out Tree) → walked (with_event e g) t o ≡ walked g t o
same_walk g e t (done s r t' (world f ans)) = refl
same_walk g e t (asks n x) = refl
same_walk g e t short = refl
