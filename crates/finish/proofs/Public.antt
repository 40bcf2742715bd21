-- Demand 3 of the public calls: if the finish bound of a table is N for a step of d, then from fresh cells, whatever calls are made, the tree has
-- finished at or before the N-th tick that was carried out since the start, or since the last restart, which is the first.
use Rattle.std.specs.Prelude.{◌≡◌, Bool, true, false, List, ◌∷◌, ℕ, ◌<◌, T, leb, Float}
use Rattle.std.proofs.Common.{leb→le}
use Rattle.std.specs.Float.{Format}
use Rattle.std.specs.Float.Ieee.Fits.{and_r}
use Rattle.rules.specs.Tree.{Tree, fresh}
use Rattle.rules.specs.Outcome.{world}
use Rattle.rules.specs.Table.{good, table}
use Rattle.rules.specs.declared.answer.Record.{Record}
use Rattle.rules.specs.Call.{Run, Given, restart_call}
use Rattle.rules.specs.Bound.{num, whole_time, within, bound, boundable, step_allowed}
use Rattle.laws.specs.Shape.{shape}
use Rattle.laws.specs.Memory.{held}
use Rattle.laws.specs.View.{Call, restarts}
use Rattle.laws.specs.History.{is_ticked, Standing, stands, after, after_all}
use Rattle.laws.specs.Fresh.{FreshCells, fresh_held}
use Rattle.laws.specs.Invariant.{Keeps, Steps}
use Rattle.laws.proofs.Invariant.{calls_keep, restart_keeps}
use Rattle.finish.specs.Shaped.{Shaped}
use Rattle.finish.specs.WholeTicks.{WholeTick, WholeHistory}
use Rattle.finish.specs.Answered.{FinishBound, bounded}
use Rattle.finish.specs.States.{StateIn, shaped, first_state, new_state}
use Rattle.finish.proofs.States.{whole_step}
use Rattle.finish.specs.Finishes.{State, Going, Over, start, after_tick, in_time}
use Rattle.finish.specs.Public.{AtMost, FinishesBy}

module _
    (F : Format)
    (kinds ns : List ℕ)
    (limits : List Float)
    (t : Tree)
    (the_table : table kinds ns limits ≡ good t)
    (step : Float)
    (N : ℕ)
    (the_bound : FinishBound F kinds ns limits t step N)
  where
    fits : T (step_allowed F step) × T (boundable F t) × (bound (num step) t ≡ within N)
    fits = bounded F kinds ns limits t the_table step N the_bound

    sh : Shaped F (shape t)
    sh = shaped F kinds ns limits t the_table fits.1

    pos : 0 < num step
    pos = leb→le 1 (num step) (and_r (whole_time F step) (leb 1 (num step)) fits.0)

    abbrev Goes : Tree → ℕ → Type 0
    Goes = Going F t sh (num step) pos N

    abbrev Gone : ℕ → Type 0
    Gone = Over F t sh (num step) pos N

    steps : Steps F (WholeTick F t (num step)) t Goes Gone
    steps = whole_step F t sh (num step) Goes Gone (λ t' k v. v.0) (λ t' k x s r t'' f left v full q. after_tick F t sh (num step) pos N t' k x s r t'' (world f left) v full q)

    at_first_lem : (t' : Tree) → State F t t' → Goes t' 0
    at_first_lem t' v = start F t sh (num step) pos N t' v fits.2

    at_fresh : Goes (fresh t) 0
    at_fresh = at_first_lem (fresh t) (first_state F kinds ns limits t the_table fits.1)

    kept_by : (st : Standing) → Keeps t Goes Gone st → FinishesBy N st
    kept_by st v = on st.record'.finished v
      where
        on : (b : Bool) → Keeps t Goes Gone (stands (record { finished = b; ticks = st.record'.ticks }) st.cells' st.carried) → AtMost b st.carried N
        on true h = h
        on false h = in_time F t sh (num step) pos N (held t st.cells') st.carried h

    by_history : (st : Standing) → Keeps t Goes Gone st → (cs : List Call) → WholeHistory F t (num step) st cs → FinishesBy N (after_all F st cs)
    by_history st v cs whole = kept_by (after_all F st cs) (calls_keep F (WholeTick F t (num step)) t Goes Gone (λ st' a u ok. ok.takes_up) steps at_fresh st cs whole v)

    -- from every state that whole ticks reach
    pub finishes_from :
        (r : Record)
        (unfinished : r.finished ≡ false)
        (c : Run)
        (a_state : StateIn F t c)
        (cs : List Call)
        (whole : WholeHistory F t (num step) (stands r c 0) cs)
        → FinishesBy N (after_all F (stands r c 0) cs)
    finishes_from r unfinished c a_state cs whole = by_history (stands r c 0) (rw unfinished (at_first_lem (held t c) a_state)) cs whole

    -- from fresh cells
    pub finishes :
        (r : Record)
        (unfinished : r.finished ≡ false)
        (c : Run)
        (all-zero : FreshCells t c)
        (cs : List Call)
        (whole : WholeHistory F t (num step) (stands r c 0) cs)
        → FinishesBy N (after_all F (stands r c 0) cs)
    finishes r unfinished c all-zero cs whole = finishes_from r unfinished c (rw (fresh_held kinds ns limits t c the_table all-zero) (new_state F kinds ns limits t the_table fits.1)) cs whole

    -- from any record and cells, with a restart that is answered 0: it is the first tick
    pub finishes_after_restart :
        (st : Standing)
        (g : Given)
        (answered-0 : T (is_ticked (restart_call F g).answer))
        (cs : List Call)
        (whole : WholeHistory F t (num step) st (restarts g ∷ cs))
        → FinishesBy N (after_all F (after F st (restarts g)) cs)
    finishes_after_restart st g answered-0 cs whole =
        by_history (after F st (restarts g))
        (restart_keeps F (WholeTick F t (num step)) t Goes Gone (λ st' a u ok. ok.takes_up) steps at_fresh st g answered-0 whole.0) cs whole.1
