-- Since when a branch has stood decides nothing: two runs of calls that differ in these numbers alone give the same answers, times, places, marks,
-- boards and records.
use Rattle.std.specs.Prelude.{◌≡◌, refl, Bool, true, cond, Float, take}
use Rattle.std.proofs.Common.{sym, ◌∙◌, arith, length-append, length-take}
use Rattle.std.proofs.Math.Path.{ap}
use Rattle.std.proofs.Math.Bool.{false}
use mathlib.Core.List.{List, map, ◌++◌}
use Prim.Native.Nat.{ℕ, ◌-◌, min}
use Rattle.std.specs.Float.{Format}
use Rattle.std.proofs.Math.ListN.{length, drop, replicate, length-drop}
use Rattle.std.proofs.lemmas.List.{length-replicate}
use Rattle.rules.specs.declared.status.Status.{Status}
use Rattle.rules.specs.declared.event.Event.{Event}
use Rattle.rules.specs.declared.answer.Answer.{Answer}
use Rattle.rules.specs.declared.answer.Answer.TheVariants.{Ticked, Asked, Finished, BadTable, TooShort, BadTime, BadAnswer, OutOfFuel, BadCell}
use Rattle.rules.specs.Tree.{Tree, fresh, size}
use Rattle.rules.specs.Outcome.{world, Out, done, asks, short}
use Rattle.rules.specs.Table.{Table, good, bad, table}
use Rattle.rules.specs.Board.{shown}
use Rattle.rules.specs.Cells.{column, time_of, place_of, mark_of, anew_of, Found, faulty, none, bad_cell}
use Rattle.rules.specs.Call.{Run, run, Given, given, Left, left, answers, bad_answer, time_allowed, onto_run, stamped, onto_board, counted, since_in, spared, refused, walked, too_short}
use Rattle.rules.specs.Call.{on_table, on_inputs, at_entry, walk_from, tick_call, restart_call}
use Rattle.laws.specs.View.{Call, left_by}

-- ---- all but the numbers, of which it is known how many there are
abbrev pub unnumbered : Run → Run
unnumbered r = run r.times r.places r.marks (replicate (length r.sinces) 0)

abbrev pub apart : Left → Left
apart l = left l.answer l.record' (unnumbered l.cells') (unnumbered l.spare) l.board

abbrev without : Given → Given
without g =
    given g.record' g.kinds g.ns g.limits (unnumbered g.cells') (unnumbered g.spare) g.board g.event g.fuel g.statuses g.leftovers

twice : (r : Run) → unnumbered (unnumbered r) ≡ unnumbered r
twice r = ap (λ (n : ℕ). run r.times r.places r.marks (replicate n 0)) (length-replicate (length r.sinces) 0)

-- ---- how many numbers a call leaves does not go by what they are
stamped_length : (this : ℕ) (anew : List Bool) (l : List ℕ) → length (stamped this anew l) ≡ min (length anew) (length l)
unfolding stamped
stamped_length this List.[] l = omega arith
stamped_length this (List.◌∷◌ a anew) List.[] = omega arith
stamped_length this (List.◌∷◌ a anew) (List.◌∷◌ s l) = omega (arith, stamped_length this anew l)

module _ (t : Tree) (since since' : List ℕ) (r : Run) (same : length since ≡ length since') where
  onto_alike : unnumbered (onto_run since t r) ≡ unnumbered (onto_run since' t (unnumbered r))
  unfolding onto_run
  onto_alike =
      let n = size t in
      let zeros : List ℕ = replicate (length r.sinces) 0 in
      let long : length (since ++ drop n r.sinces) ≡ length (since' ++ drop n zeros) = simp (length-append, length-drop, length-replicate) (omega (arith, same)) in
      ap (λ (k : ℕ). run (column time_of t (drop n r.times)) (column place_of t (drop n r.places)) (column mark_of t (drop n r.marks)) (replicate k 0)) long

-- ---- one call
module _ (F : Format) (g : Given) where
  -- from each test on, the call and the one without the numbers
  abbrev Same : Left → Left → Type 0
  Same l l' = apart l ≡ apart l'

  refused_alike : (a : Answer) → Same (refused g a) (refused (without g) a)
  refused_alike a = λ i. left a g.record' (sym (twice g.cells') i) (sym (twice g.spare) i) g.board

  spared_alike : (t : Tree) → unnumbered (spared g t) ≡ unnumbered (spared (without g) t)
  spared_alike t =
      let zeros : List ℕ = replicate (length g.cells'.sinces) 0 in
      let long : length (take (size t) g.cells'.sinces) ≡ length (take (size t) zeros) = simp (length-take, length-replicate) (omega arith) in
      onto_alike t (take (size t) g.cells'.sinces) (take (size t) zeros) g.spare long

  since_alike : (s : Status) (t : Tree) → length (since_in g s t) ≡ length (since_in (without g) s t)
  since_alike s t =
      let this = (counted s g.record').ticks in
      let anew = column anew_of t List.[] in
      let zeros : List ℕ = replicate (length g.cells'.sinces) 0 in
      omega (arith, stamped_length this anew g.cells'.sinces, stamped_length this anew zeros, length-replicate {A = ℕ} (length g.cells'.sinces) 0)

  walked_alike : (t : Tree) (o : Out Tree) → Same (walked g t o) (walked (without g) t o)
  walked_alike t (done s r t' (world f ans)) = λ i. left
      (Ticked s r (g.fuel - f) (length (answers g.statuses g.leftovers) - length ans))
      (counted s g.record') (onto_alike t' (since_in g s t') (since_in (without g) s t') g.cells' (since_alike s t') i) (spared_alike t i) (onto_board (shown t') g.board)
  walked_alike t (asks n x) = λ i. left (Asked n x) g.record' (sym (twice g.cells') i) (spared_alike t i) g.board
  walked_alike t short = λ i. left OutOfFuel g.record' (sym (twice g.cells') i) (spared_alike t i) g.board

  inputs_alike : (l l' : Left) → Same l l' → Same (on_inputs g l) (on_inputs (without g) l')
  inputs_alike l l' h = by_time (time_allowed g.event)
    where
      by_answers : (f : Found) → Same (elim f [ faulty i ↦ refused g (BadAnswer i) | none _ ↦ l ]) (elim f [ faulty i ↦ refused (without g) (BadAnswer i) | none _ ↦ l' ])
      by_answers (faulty i) = refused_alike (BadAnswer i)
      by_answers (none i) = h

      by_time : (b : Bool) → Same (cond b (elim (bad_answer 0 g.statuses g.leftovers) [ faulty i ↦ refused g (BadAnswer i) | none _ ↦ l ]) (refused g BadTime))
          (cond b (elim (bad_answer 0 g.statuses g.leftovers) [ faulty i ↦ refused (without g) (BadAnswer i) | none _ ↦ l' ]) (refused (without g) BadTime))
      by_time true = by_answers (bad_answer 0 g.statuses g.leftovers)
      by_time false = refused_alike BadTime

  short_alike : (n : ℕ) → too_short (without g) n ≡ too_short g n
  short_alike n = rw (length-replicate {A = ℕ} (length g.cells'.sinces) 0, length-replicate {A = ℕ} (length g.spare.sinces) 0)

  table_alike : (due due' : Tree → Left) → ((t : Tree) → Same (due t) (due' t)) → Same (on_table g due) (on_table (without g) due')
  table_alike due due' h = by_table (table g.kinds g.ns g.limits)
    where
      by_length : (t : Tree) (b : Bool) → Same (cond b (refused g TooShort) (due t)) (cond b (refused (without g) TooShort) (due' t))
      by_length t true = refused_alike TooShort
      by_length t false = h t

      by_table : (o : Table) → Same (elim o [ bad p ↦ refused g (BadTable p) | good t ↦ cond (too_short g (size t)) (refused g TooShort) (due t) ])
          (elim o [ bad p ↦ refused (without g) (BadTable p) | good t ↦ cond (too_short (without g) (size t)) (refused (without g) TooShort) (due' t) ])
      by_table (bad p) = refused_alike (BadTable p)
      by_table (good t) = rw (short_alike (size t)) (by_length t (too_short g (size t)))

  by_finished : (t : Tree) (b : Bool) → Same (cond b (refused g Finished) (walked g t (walk_from F g t))) (cond b (refused (without g) Finished) (walked (without g) t (walk_from F g t)))
  by_finished t true = refused_alike Finished
  by_finished t false = walked_alike t (walk_from F g t)

  by_cells : (t : Tree) (f : Found)
      → Same (elim f [ faulty p ↦ refused g (BadCell p) | none _ ↦ on_inputs g (cond g.record'.finished (refused g Finished) (walked g t (walk_from F g t))) ])
      (elim f [ faulty p ↦ refused (without g) (BadCell p) | none _ ↦ on_inputs (without g) (cond g.record'.finished (refused (without g) Finished) (walked (without g) t (walk_from F g t))) ])
  by_cells t (faulty p) = refused_alike (BadCell p)
  by_cells t (none i) = inputs_alike _ _ (by_finished t g.record'.finished)

  tick_alike : Same (tick_call F g) (tick_call F (without g))
  unfolding tick_call
  tick_alike = table_alike _ _ λ t. by_cells (at_entry g t) (bad_cell false false 0 (at_entry g t))

  restart_alike : Same (restart_call F g) (restart_call F (without g))
  unfolding restart_call
  restart_alike = table_alike _ _ λ t. inputs_alike _ _ (walked_alike (at_entry g t) (walk_from F g (fresh t)))

-- ---- every run of calls, each of which takes up all that the last one left
-- what a host brings to a call
pub record Turn : Type 0 where
  pub kinds : List ℕ
  pub ns : List ℕ
  pub limits : List Float
  pub event : Event
  pub fuel : ℕ
  pub statuses : List ℕ
  pub leftovers : List Float
  pub restarts : Bool

abbrev pub call_after : Left → Turn → Call
call_after l a = record {
  given' = given l.record' a.kinds a.ns a.limits l.cells' l.spare l.board a.event a.fuel a.statuses a.leftovers;
  fresh = a.restarts;
}

unfoldable pub lefts : Format → Left → List Turn → List Left
lefts F l List.[] = List.[]
lefts F l (List.◌∷◌ a turns) = let next = left_by F (call_after l a) in List.◌∷◌ next (lefts F next turns)

call_apart : (F : Format) (l : Left) (a : Turn) → apart (left_by F (call_after l a)) ≡ apart (left_by F (call_after (apart l) a))
call_apart F l a = on (call_after l a).given' a.restarts
  where
    on : (g : Given) (b : Bool) → apart (cond b (restart_call F g) (tick_call F g)) ≡ apart (cond b (restart_call F (without g)) (tick_call F (without g)))
    on g true = restart_alike F g
    on g false = tick_alike F g

pub call_alike : (F : Format) (l l' : Left) (a : Turn) → apart l ≡ apart l' → apart (left_by F (call_after l a)) ≡ apart (left_by F (call_after l' a))
call_alike F l l' a e = call_apart F l a ∙ ap (λ (z : Left). apart (left_by F (call_after z a))) e ∙ sym (call_apart F l' a)

pub runs_alike : (F : Format) (l l' : Left) (turns : List Turn) → apart l ≡ apart l' → map apart (lefts F l turns) ≡ map apart (lefts F l' turns)
unfolding lefts
runs_alike F l l' List.[] e = refl
runs_alike F l l' (List.◌∷◌ a turns) e =
    let next = call_alike F l l' a e in
    λ i. List.◌∷◌ (next i) (runs_alike F (left_by F (call_after l a)) (left_by F (call_after l' a)) turns next i)
