-- Demand 3 from an exchange on, with the new tree's bound: the first tree started fresh, each tick, restart and exchange since took up what the last one
-- left, the ticks before were of demand 3's kind, and no tree before is refused with 8.
use Rattle.std.specs.Prelude.{◌≡◌, false, List, ℕ, T, Float}
use Rattle.std.proofs.Common.{sym, subst, ◌∙◌}
use Rattle.std.specs.Float.{Format}
use Rattle.rules.specs.declared.answer.Record.{Record}
use Rattle.rules.specs.Tree.{Tree, fresh, size}
use Rattle.rules.specs.Table.{good, table}
use Rattle.rules.specs.Call.{Run, Given, restart_call}
use Rattle.rules.specs.Bound.{boundable}
use Rattle.rules.specs.Exchange.{GivenExchange, exchange_call}
use Rattle.laws.specs.Shape.{fresh_shape}
use Rattle.laws.specs.Memory.{clear_shape, held, first_cells}
use Rattle.laws.specs.Tables.{renewed}
use Rattle.laws.specs.View.{Call, restarts}
use Rattle.laws.specs.History.{Standing, is_ticked, stands, after, after_all}
use Rattle.laws.specs.Invariant.{Asked}
use Rattle.laws.specs.Fresh.{FreshCells}
use Rattle.laws.specs.ReadBack.{sound}
use Rattle.laws.specs.Replaced.{sound_with}
use Rattle.laws.specs.Exchanged.{Passed, result_of, run_in}
use Rattle.laws.proofs.Exchanged.{holds}
use Rattle.finish.specs.WholeTicks.{WholeTick, WholeHistory}
use Rattle.finish.specs.States.{StateIn}
use Rattle.finish.specs.Finishes.{State}
use Rattle.finish.specs.Exchanges.{exchange_valid}

-- ---- a state stays a state
abbrev pub result_tree : (g : GivenExchange) → Passed g → Tree
result_tree g w = result_of g w.tree w.branch

module _ (F : Format) (g : GivenExchange) (w : Passed g) where
  pub exchange_state : StateIn F w.tree g.cells' → StateIn F (renewed (result_tree g w)) (run_in (exchange_call g).room')
  exchange_state v =
      let result = result_tree g w in
      let all = sound_with w.tree _ (sound g.kinds g.ns g.limits w.tree w.is) in
      let state : State F (renewed result) result =
      (sym (clear_shape (fresh result) ∙ fresh_shape result), exchange_valid F w.branch (held w.tree g.cells') g.place all v.1 w.spot) in
      subst (State F (renewed result)) (sym (holds g w)) state

-- ---- how a tree came to stand
-- an exchange takes up what stands of the tree t
pub record TakesUp (t : Tree) (st : Standing) (g : GivenExchange) : Type 0 where
  pub the_table : (u : Tree) → table g.kinds g.ns g.limits ≡ good u → u ≡ t
  pub the_record : g.record' ≡ st.record'
  pub the_cells : first_cells (size t) g.cells' ≡ first_cells (size t) st.cells'

pub data Came (F : Format) : Tree → Standing → Type 0 where
  started : (kinds ns : List ℕ) (limits : List Float) (t : Tree) (r : Record) (c : Run) → table kinds ns limits ≡ good t → T (boundable F t) → r.finished ≡ false
      → FreshCells t c → Came F t (stands r c 0)
  restarted : (kinds ns : List ℕ) (limits : List Float) (t : Tree) (st : Standing) (g : Given) → table kinds ns limits ≡ good t → T (boundable F t)
      → T (is_ticked (restart_call F g).answer) → Asked F (WholeTick F t 0) st (restarts g) → (after F st (restarts g)).record'.finished ≡ false → Came F t (after F st (restarts g))
  ticked : {t : Tree} {st : Standing} → Came F t st → T (boundable F t) → (cs : List Call) → WholeHistory F t 0 st cs → (after_all F st cs).record'.finished ≡ false
      → Came F t (after_all F st cs)
  exchanged : {t : Tree} {st : Standing} → Came F t st → (g : GivenExchange) → TakesUp t st g → (w : Passed g)
      → Came F (renewed (result_tree g w)) (stands st.record' (run_in (exchange_call g).room') 0)
