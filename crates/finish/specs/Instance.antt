-- A worked instance in f64: Timeout(2, Action) with d = 1, each tick lent the answers (Running, 0) and (Running, 0.5). The second is not used, so it need
-- not be whole, and the tree gives up at the second tick.
use Rattle.std.specs.Prelude.{◌≡◌, refl, true, false, List, [], ◌∷◌, ℕ, pos, negsuc, Float}
use Rattle.std.proofs.Common.{arith}
use Rattle.std.specs.Float.{binary64, fin}
use Rattle.std.specs.Float.Ieee.{to_unsigned, whole}
use Rattle.rules.specs.declared.event.Event.TheVariants.{Update}
use Rattle.rules.specs.declared.answer.Record.{Record}
use Rattle.rules.specs.declared.behavior.Kind.TheVariants.{Action, Timeout}
use Rattle.rules.specs.Kinds.{kind_of}
use Rattle.rules.specs.Tree.{zero_time, new_cell, Tree, node, size}
use Rattle.rules.specs.Tree
use Rattle.rules.specs.Table.{table}
use Rattle.rules.specs.Cells.{column}
use Rattle.rules.specs.Call.{Run, run, Given, given, tick_call}
use Rattle.rules.specs.Bound.{num, whole_time}
use Rattle.laws.specs.Tables.{one_tree}
use Rattle.laws.specs.View.{Call, ticks}
use Rattle.laws.specs.History.{stands, after_all}
use Rattle.finish.specs.WholeTicks.{WholeHistory}

abbrev pub one : Float
one = fin false 1 (pos 0)

abbrev two : Float
two = fin false 1 (pos 1)

abbrev half : Float
half = fin false 1 (negsuc 0)

abbrev pub kinds : List ℕ
kinds = 5 ∷ 2 ∷ []

abbrev pub ns : List ℕ
ns = 1 ∷ 0 ∷ []

abbrev pub limits : List Float
limits = two ∷ zero_time ∷ []

abbrev pub tree : Tree
tree = node Timeout 1 two new_cell 0 (Tree.◌◂◌ (node Action 0 zero_time new_cell 0 Tree.[]) Tree.[])

abbrev pub zeros : Run
zeros = run (zero_time ∷ zero_time ∷ []) (0 ∷ 0 ∷ []) (0 ∷ 0 ∷ []) (0 ∷ 0 ∷ [])

abbrev pub fresh : Record
fresh = record { finished = false; ticks = 0 }

-- a tick of 1 with fuel 2 and the two answers
abbrev tick_of : Record → Run → Given
tick_of r c = given r kinds ns limits c zeros (0 ∷ 0 ∷ []) (Update one) 2 (1 ∷ 1 ∷ []) (zero_time ∷ half ∷ [])

abbrev first : Given
first = tick_of fresh zeros

abbrev second : Given
second = tick_of (tick_call binary64 first).record' (tick_call binary64 first).cells'

abbrev pub both : List Call
both = ticks first ∷ ticks second ∷ []

-- a tick takes up what stands, and is whole as far as its answers are used
pub covered : WholeHistory binary64 tree 1 (stands fresh zeros 0) both
unfolding tick_call after_all whole_time num to_unsigned whole kind_of size column
covered = (
  record {
    takes_up = record { the_table = λ u e. one_tree (table kinds ns limits) tree u refl e; the_record = λ e. refl; the_cells = λ e h. refl };
    whole_time = (tt, omega arith);
    whole_leftovers = (tt, tt);
  },
  (
    record {
      takes_up = record { the_table = λ u e. one_tree (table kinds ns limits) tree u refl e; the_record = λ e. refl; the_cells = λ e h. refl };
      whole_time = (tt, omega arith);
      whole_leftovers = (tt, tt);
    },
    tt,
  ),
)

-- and it takes both ticks
pub at_the_second : ((after_all binary64 (stands fresh zeros 0) both).record'.finished ≡ true) × ((after_all binary64 (stands fresh zeros 0) both).carried ≡ 2)
unfolding tick_call after_all kind_of size column
at_the_second = (refl, refl)
