-- Over every sequence of calls, ticks and restarts, refused or not: the list of what they say, the record and the cells are those of the rules, run
-- on a tree one call after the other. So no call says again what an earlier one said, unless the rules do.
use Rattle.std.specs.Prelude.{◌≡◌, refl, Bool, true, cond, List, map, ◌-◌, T, length}
use Rattle.std.proofs.Common.{sym, ap, ◌∙◌}
use Rattle.std.proofs.Math.Path.{subst}
use Rattle.std.proofs.Math.Bool.{false}
use Rattle.std.specs.Float.{Format}
use Rattle.rules.specs.declared.answer.Answer.{Answer}
use Rattle.rules.specs.declared.answer.Answer.TheVariants.{Ticked, Finished, BadTable, TooShort, BadTime, BadAnswer, BadCell}
use Rattle.rules.specs.declared.answer.Record.{Record}
use Rattle.rules.specs.Tree.{Tree, fresh, size}
use Rattle.rules.specs.Outcome.{world, Out, done, asks, short}
use Rattle.rules.specs.Table.{most_deep, Table, good, bad, table}
use Rattle.rules.specs.Cells.{Found, faulty, none, bad_cell}
use Rattle.rules.specs.Call.{Given, Left, answers, cleaned_event, bad_answer, time_allowed, counted, since_in, refused, walked, too_short, on_table, on_inputs, walk_from, tick_call, restart_call}
use Rattle.laws.specs.Shape.{shape, fresh_shape}
use Rattle.laws.specs.Memory.{held, held_onto, held_shape}
use Rattle.laws.specs.View.{Call, left_by, held_by}
use Rattle.laws.specs.History.{Standing, behind, after_left, after, after_all, TakesUp, same_tree}
use Rattle.laws.specs.Alone.{AfterTick}
use Rattle.laws.proofs.Alone.{tick_keeps}
use Rattle.laws.specs.PairDrivers.{Same}
use Rattle.laws.specs.Follows.{Held, ran, ruled_table, ruled_inputs, ruled_tick, ruled_restart, ruled, ruled_all, said_by, TakeUps, held_in}

-- ---- one call
module _ (F : Format) (t : Tree) (st : Standing) (a : Call) (up : TakesUp t st a) (the_record : a.given'.record' ≡ st.record') where
  abbrev g : Given
  g = a.given'

  abbrev Says : Left → Answer × Held → Type 0
  Says l x = ◌≡◌ {A = Answer × Held} (l.answer, held_in t (after_left (behind a st) st l)) x

  -- the walk that starts from the tree v, after cells that held the tree u
  by_walk : (u v : Tree) → shape v ≡ shape t → (o : Out Tree) → AfterTick (world g.fuel (answers g.statuses g.leftovers)) (Same v) o
      → Says (walked g u o) (ran g (held_in t st) o)
  by_walk u v q (done s r u' (world f ans)) k =
      let says : Answer = Ticked s r (g.fuel - f) (length (answers g.statuses g.leftovers) - length ans) in
      λ i. (says, (counted s (the_record i), held_onto (since_in g s u') t u' g.cells' (k.1.0 ∙ q) i))
  by_walk u v q (asks n x) k = refl
  by_walk u v q short k = refl

  walks_so : (u v : Tree) → shape v ≡ shape t → Says (walked g u (walk_from F g v)) (ran g (held_in t st) (walk_from F g v))
  walks_so u v q = by_walk u v q (walk_from F g v) (tick_keeps F most_deep v (cleaned_event g.event) (world g.fuel (answers g.statuses g.leftovers)))

  -- the call and the rules from each test on
  on_inputs_lem : (l : Left) (x : Answer × Held) → Says l x → Says (on_inputs g l) (ruled_inputs (held_in t st) g x)
  on_inputs_lem l x h = by_time (time_allowed g.event)
    where
      by_answers : (f : Found) → Says (elim f [ faulty i ↦ refused g (BadAnswer i) | none _ ↦ l ]) (elim f [ faulty i ↦ (BadAnswer i, held_in t st) | none _ ↦ x ])
      by_answers (faulty i) = refl
      by_answers (none i) = h

      by_time : (b : Bool) → Says (cond b (elim (bad_answer 0 g.statuses g.leftovers) [ faulty i ↦ refused g (BadAnswer i) | none _ ↦ l ]) (refused g BadTime))
          (cond b (elim (bad_answer 0 g.statuses g.leftovers) [ faulty i ↦ (BadAnswer i, held_in t st) | none _ ↦ x ]) (BadTime, held_in t st))
      by_time true = by_answers (bad_answer 0 g.statuses g.leftovers)
      by_time false = refl

  on_table_lem : (due : Tree → Left) (x : Answer × Held) → (too_short g (size t) ≡ false → Says (due t) x) → Says (on_table g due) (ruled_table t (held_in t st) g x)
  on_table_lem due x h = by_table (table g.kinds g.ns g.limits) refl
    where
      by_length : (b : Bool) → too_short g (size t) ≡ b → Says (cond b (refused g TooShort) (due t)) (cond b (TooShort, held_in t st) x)
      by_length true s = refl
      by_length false s = h s

      by_table : (o : Table) → table g.kinds g.ns g.limits ≡ o
          → Says (elim o [ bad p ↦ refused g (BadTable p) | good u ↦ cond (too_short g (size u)) (refused g TooShort) (due u) ])
          (elim o [ bad p ↦ (BadTable p, held_in t st) | good u ↦ cond (too_short g (size t)) (TooShort, held_in t st) x ])
      by_table (bad p) e = refl
      by_table (good u) e = subst (λ (z : Tree). Says (cond (too_short g (size z)) (refused g TooShort) (due z)) (cond (too_short g (size t)) (TooShort, held_in t st) x)) (sym (up.the_table u e))
          (by_length (too_short g (size t)) refl)

  -- ---- a tick
  abbrev u : Tree
  u = held t st.cells'

  by_finished : (b b' : Bool) → b ≡ b' → Says (cond b (refused g Finished) (walked g u (walk_from F g u))) (cond b' (Finished, held_in t st) (ran g (held_in t st) (walk_from F g u)))
  by_finished true true e = refl
  by_finished true false e = absurd (subst T e tt)
  by_finished false true e = absurd (subst T (sym e) tt)
  by_finished false false e = walks_so u u (held_shape t st.cells')

  abbrev call_cells : Tree → Found → Left
  call_cells v f = elim f [ faulty p ↦ refused g (BadCell p) | none _ ↦ on_inputs g (cond g.record'.finished (refused g Finished) (walked g v (walk_from F g v))) ]

  abbrev rule_cells : Found → Answer × Held
  rule_cells f = elim f [
    | faulty p ↦ (BadCell p, held_in t st)
    | none _ ↦ ruled_inputs (held_in t st) g (cond st.record'.finished (Finished, held_in t st) (ran g (held_in t st) (walk_from F g u)))
  ]

  by_cells : (f : Found) → Says (call_cells u f) (rule_cells f)
  by_cells (faulty p) = refl
  by_cells (none i) = on_inputs_lem _ _ (by_finished g.record'.finished st.record'.finished (ap (λ (r : Record). r.finished) the_record))

  tick_follows : a.fresh ≡ false → Says (tick_call F g) (ruled_tick F t (held_in t st) g)
  unfolding tick_call
  tick_follows e = on_table_lem _ _ λ s. subst (λ (v : Tree). Says (call_cells v (bad_cell false false 0 v)) (rule_cells (bad_cell false false 0 u)))
      (sym (same_tree t st a up e s)) (by_cells (bad_cell false false 0 u))

  -- ---- a restart
  restart_follows : Says (restart_call F g) (ruled_restart F t (held_in t st) g)
  unfolding restart_call
  restart_follows = on_table_lem _ _ λ s. on_inputs_lem _ _ (walks_so (held_by t g) (fresh t) (fresh_shape t))

  call_follows : Says (left_by F a) (ruled F t (held_in t st) a)
  call_follows = on a.fresh (λ e. e)
    where
      on : (b : Bool) → (b ≡ false → a.fresh ≡ false) → Says (cond b (restart_call F g) (tick_call F g)) (cond b (ruled_restart F t (held_in t st) g) (ruled_tick F t (held_in t st) g))
      on true f = restart_follows
      on false f = tick_follows (f refl)

-- ---- every sequence
-- from the tree that the cells hold
pub follows : (F : Format) (t : Tree) (st : Standing) (cs : List Call) → TakeUps F t st cs → (map (said_by F) cs, held_in t (after_all F st cs)) ≡ ruled_all F t (held_in t st) cs
unfolding after_all after ruled_all
follows F t st List.[] up = refl
follows F t st (List.◌∷◌ a cs) up = rw (← call_follows F t st a up.0 up.1, ← follows F t (after F st a) cs up.2)
