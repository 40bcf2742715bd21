-- Demand 3 from an exchange on, with the new tree's bound: the first tree started fresh, each tick, restart and exchange since took up what the last one
-- left, the ticks before were of demand 3's kind, and no tree before is refused with 8.
use Rattle.std.specs.Prelude.{◌≡◌, false, List, ℕ, Float}
use Rattle.std.specs.Float.{Format}
use Rattle.rules.specs.Tree.{Tree}
use Rattle.rules.specs.Table.{good, table}
use Rattle.rules.specs.Bound.{num}
use Rattle.laws.specs.Memory.{held, held_first}
use Rattle.laws.specs.View.{Call}
use Rattle.laws.specs.History.{Standing, stands, after_all}
use Rattle.laws.specs.Fresh.{fresh_held}
use Rattle.laws.specs.Exchanged.{reads}
use Rattle.finish.specs.WholeTicks.{WholeHistory}
use Rattle.finish.specs.Answered.{FinishBound}
use Rattle.finish.specs.States.{StateIn, new_state}
use Rattle.finish.proofs.States.{states, state_restarted}
use Rattle.finish.specs.Public.{FinishesBy}
use Rattle.finish.proofs.Public.{finishes_from}
use Rattle.finish.specs.AfterExchange.{exchange_state, Came, started, restarted, ticked, exchanged}

record Stood (F : Format) (t : Tree) (st : Standing) : Type 0 where
  kinds : List ℕ
  ns : List ℕ
  limits : List Float
  is : table kinds ns limits ≡ good t
  unfinished : st.record'.finished ≡ false
  a_state : StateIn F t st.cells'

stood : (F : Format) {t : Tree} {st : Standing} → Came F t st → Stood F t st
stood F (started kinds ns limits t r c e b u f) = record {
  kinds = kinds;
  ns = ns;
  limits = limits;
  is = e;
  unfinished = u;
  a_state = rw (fresh_held kinds ns limits t c e f) (new_state F kinds ns limits t e b);
}
stood F (restarted kinds ns limits t st g e b y h u) = record {
  kinds = kinds;
  ns = ns;
  limits = limits;
  is = e;
  unfinished = u;
  a_state = state_restarted F kinds ns limits t e b st g y h u;
}
stood F (ticked {t} {st} p b cs whole u) =
    let s = stood F p in
    record {
      kinds = s.kinds;
      ns = s.ns;
      limits = s.limits;
      is = s.is;
      unfinished = u;
      a_state = states F s.kinds s.ns s.limits t s.is b st s.unfinished s.a_state cs whole u;
    }
stood F (exchanged {t} {st} p g up w) =
    let s = stood F p in
    let same : w.tree ≡ t = up.the_table w.tree w.is in
    let old : held t g.cells' ≡ held t st.cells' = held_first t g.cells' st.cells' up.the_cells in
    let before : StateIn F t g.cells' = rw old s.a_state in
    record {
      kinds = _;
      ns = _;
      limits = _;
      is = reads g w;
      unfinished = s.unfinished;
      a_state = exchange_state F g w (rw same before);
    }

-- ---- the tree has finished at or before the N-th tick from there on
pub finishes_still :
    (F : Format)
    {t : Tree} {st : Standing}
    (came : Came F t st)
    (kinds ns : List ℕ) (limits : List Float)
    (the_table : table kinds ns limits ≡ good t)
    (step : Float) (N : ℕ)
    (the_bound : FinishBound F kinds ns limits t step N)
    (cs : List Call)
    (whole : WholeHistory F t (num step) (stands st.record' st.cells' 0) cs)
    → FinishesBy N (after_all F (stands st.record' st.cells' 0) cs)
finishes_still F {t} {st} came kinds ns limits e step N b cs whole =
    let s = stood F came in
    finishes_from F kinds ns limits t e step N b st.record' s.unfinished st.cells' s.a_state cs whole
