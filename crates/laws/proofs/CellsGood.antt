-- Cells that were reached from fresh, or from any cells by a restart answered 0, and then by any calls, are always accepted by the cell check:
-- answer 9 is never given to them. And cells that the check accepts stay accepted, whatever a tick does.
use Rattle.std.specs.Prelude.{◌≡◌, refl, Bool, cond, List, ℕ, suc, Float}
use Rattle.std.proofs.Common.{sym, ap, ◌∙◌, subst, arith}
use Rattle.std.proofs.Math.Bool.{true, false}
use Rattle.std.proofs.Math.Dec.{T}
use Rattle.std.specs.Float.{Format}
use Rattle.rules.specs.declared.event.Event.{Event}
use Rattle.rules.specs.declared.answer.Answer.TheVariants.{BadCell}
use Rattle.rules.specs.Tree.{Tree, fresh, size}
use Rattle.rules.specs.Outcome.{dt, World, world, Out, done, asks, short}
use Rattle.rules.specs.State.{tick}
use Rattle.rules.specs.Table.{most_deep, good, table}
use Rattle.rules.specs.Cells.{elapsed, Found, faulty, none, bad_cell}
use Rattle.rules.specs.Call.{Given, Left, answers, cleaned_event, since_in, walked, tick_call, restart_call}
use Rattle.laws.specs.Shape.{shape}
use Rattle.laws.specs.Memory.{held, held_onto}
use Rattle.laws.specs.Tables.{tabled, tabled_fresh}
use Rattle.laws.specs.View.{Call, ticks, restarts, left_by, held_by, start_of, walk, start_shape, Why, not_walked, View, walking, refusing, view}
use Rattle.laws.specs.History.{is_ticked, not_ticked, Standing, stands, behind, after, after_all, TakesUp, same_tree}
use Rattle.laws.specs.Fresh.{FreshCells, fresh_held}
use Rattle.laws.specs.Live.{Live, fresh_live, live_clear, Right, tabled_right}
use Rattle.laws.specs.Alone.{AfterTick}
use Rattle.laws.proofs.Alone.{tick_keeps}
use Rattle.laws.specs.PairDrivers.{Same}
use Rattle.laws.specs.LiveTicks.{EWorld, LiveAfter}
use Rattle.laws.proofs.LiveTicks.{tick_live}
use Rattle.laws.specs.Follows.{TakeUps}
use Rattle.laws.specs.CellsGood.{event_elapsed, answers_elapsed, Accepted, accepted_of, live_of, AcceptedAfter}

-- a tick from accepted cells leaves accepted cells: for every depth, event and answers whose times are allowed
pub tick_accepted : (F : Format) (d : ℕ) (t : Tree) (e : Event) (w : World) → Right (shape t) → Accepted t → T (elapsed (dt e)) → EWorld w → AcceptedAfter (tick F d t e w)
tick_accepted F d t e w s a ev wv = on (tick F d t e w) (tick_live F d t e w s (live_of t (size t) a) ev wv)
  where
    on : (o : Out Tree) → LiveAfter o → AcceptedAfter o
    on (done s' r t' w') h = accepted_of t' h.2
    on (asks n x) h = tt
    on short h = tt

-- ---- calls
module _ (F : Format) (kinds ns : List ℕ) (limits : List Float) (t : Tree) (e : table kinds ns limits ≡ good t) where
  abbrev OfTable : Call → Type 0
  OfTable a = (u : Tree) → table a.given'.kinds a.given'.ns a.given'.limits ≡ good u → u ≡ t

  walk_good : (a : Call) (before : Tree) (o : Out Tree) → LiveAfter o → AfterTick (world a.given'.fuel (answers a.given'.statuses a.given'.leftovers)) (Same (start_of t a)) o
      → T (is_ticked (walked a.given' before o).answer) → Live (held t (walked a.given' before o).cells')
  walk_good a before (done s x t' (world f ans)) h k y = rw (held_onto (since_in a.given' s t') t t' a.given'.cells' (k.1.0 ∙ start_shape t a)) (live_clear t' h.2)
  walk_good a before (asks n x) h k y = absurd y
  walk_good a before short h k y = absurd y

  -- a call answered 0: a tick's cells were looked at, a restart's are fresh
  left_good : (a : Call) → OfTable a → (l : Left) → View F a l → T (is_ticked l.answer) → Live (held t l.cells')
  left_good a one l (refusing b n) y = absurd (subst T (not_ticked b (not_walked a b n)) y)
  left_good a one l (walking u w) y =
      let g = a.given' in
      let q : u ≡ t = one u w.table_good in
      let live = live_of (start_of t a) w.cells_good.0 (rw q at w.cells_good.1) in
      rw q (walk_good a (held_by t g) (walk F t a)
      (tick_live F most_deep (start_of t a) (cleaned_event g.event) (world g.fuel (answers g.statuses g.leftovers))
      (rw (start_shape t a) (tabled_right t (tabled kinds ns limits t e).0)) live
      (event_elapsed g.event w.time_good) (answers_elapsed 0 w.answers_good.0 g.statuses g.leftovers w.answers_good.1))
      (tick_keeps F most_deep (start_of t a) (cleaned_event g.event) (world g.fuel (answers g.statuses g.leftovers))) (rw q at y))

  call_good : (st : Standing) (a : Call) → OfTable a → Live (held t st.cells') → Live (held t (after F st a).cells')
  unfolding after
  call_good st a one v = on (is_ticked (left_by F a).answer) (left_good a one (left_by F a) (view F a))
    where
      on : (b : Bool) → (T b → Live (held t (left_by F a).cells')) → Live (held t (cond b (stands (left_by F a).record' (left_by F a).cells' (suc (behind a st))) st).cells')
      on true f = f tt
      on false f = v

  calls_good : (st : Standing) (cs : List Call) → TakeUps F t st cs → Live (held t st.cells') → Live (held t (after_all F st cs).cells')
  unfolding after_all
  calls_good st List.[] up v = v
  calls_good st (List.◌∷◌ a cs) up v = calls_good (after F st a) cs up.2 (call_good st a up.0.the_table v)

  -- fresh cells, then any calls: the cells are accepted
  pub reached_accepted : (st : Standing) → FreshCells t st.cells' → (cs : List Call) → TakeUps F t st cs → Accepted (held t (after_all F st cs).cells')
  reached_accepted st f cs up =
      accepted_of (held t (after_all F st cs).cells') (calls_good st cs up
      (rw (fresh_held kinds ns limits t st.cells' e f) (rw (tabled_fresh t (tabled kinds ns limits t e).0) at (live_clear (fresh t) (fresh_live t)))))

  -- any cells, a restart answered 0, then any calls: the same
  pub restarted_accepted : (st : Standing) (g : Given) → OfTable (restarts g) → T (is_ticked (restart_call F g).answer) → (cs : List Call) → TakeUps F t (after F st (restarts g)) cs
      → Accepted (held t (after_all F (after F st (restarts g)) cs).cells')
  unfolding after
  restarted_accepted st g one y cs up = accepted_of (held t (after_all F (after F st (restarts g)) cs).cells') (calls_good (after F st (restarts g)) cs up restarted)
    where
      on : (b : Bool) → T b → Live (held t (restart_call F g).cells') → Live (held t (cond b (stands (restart_call F g).record' (restart_call F g).cells' 1) st).cells')
      on true y v = v
      on false y v = absurd y

      restarted : Live (held t (after F st (restarts g)).cells')
      restarted = on (is_ticked (restart_call F g).answer) y (left_good (restarts g) one (restart_call F g) (view F (restarts g)) y)

-- ---- and answer 9 is never given to them
abbrev IsFaulty : Found → Type 0
IsFaulty (faulty p) = Unit {0}
IsFaulty (none i) = ⊥

walked_not_bad : (g : Given) (t : Tree) (o : Out Tree) (p : ℕ) → (walked g t o).answer ≡ BadCell p → ⊥
walked_not_bad g t (done s r t' (world f ans)) p q = let z : ◌≡◌ {A = ℕ} 0 1 = cc in omega arith
walked_not_bad g t (asks n x) p q = let z : ◌≡◌ {A = ℕ} 0 1 = cc in omega arith
walked_not_bad g t short p q = let z : ◌≡◌ {A = ℕ} 0 1 = cc in omega arith

module _ (F : Format) (t : Tree) (st : Standing) (g : Given) (up : TakesUp t st (ticks g)) (a : Accepted (held t st.cells')) where
  found_none : (p : ℕ) → Why (ticks g) (BadCell p) → ⊥
  found_none p h =
      let q : h.0 ≡ t = up.the_table h.0 h.1 in
      subst IsFaulty (sym h.3 ∙ ap (λ (u : Tree). bad_cell false false 0 (held_by u g)) q ∙ ap (bad_cell false false 0) (same_tree t st (ticks g) up refl (rw q at h.2)) ∙ a) tt

  by_view : (l : Left) → View F (ticks g) l → (p : ℕ) → l.answer ≡ BadCell p → ⊥
  by_view l (refusing b n) p q = found_none p (subst (Why (ticks g)) q n)
  by_view l (walking u w) p q = walked_not_bad g (held_by u g) (walk F u (ticks g)) p q

  pub accepted_not_bad : (p : ℕ) → (tick_call F g).answer ≡ BadCell p → ⊥
  accepted_not_bad p q = by_view (tick_call F g) (view F (ticks g)) p q

pub never_bad_cell :
    (F : Format)
    (kinds ns : List ℕ)
    (limits : List Float)
    (t : Tree)
    (the_table : table kinds ns limits ≡ good t)
    (st : Standing)
    (all-zero : FreshCells t st.cells')
    (cs : List Call)
    (up : TakeUps F t st cs)
    (g : Given)
    (next : TakesUp t (after_all F st cs) (ticks g))
    (p : ℕ)
    → (tick_call F g).answer ≡ BadCell p → ⊥
never_bad_cell F kinds ns limits t e st f cs up g next = accepted_not_bad F t (after_all F st cs) g next (reached_accepted F kinds ns limits t e st f cs up)
