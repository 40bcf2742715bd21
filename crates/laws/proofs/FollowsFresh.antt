-- Over every sequence of calls from fresh cells: what the calls say, and what stands after them, is what the rules say, run on the table's tree.
use Rattle.std.specs.Prelude.{◌≡◌, List, map, ℕ, Float}
use Rattle.std.proofs.Common.{ap, ◌∙◌}
use Rattle.std.specs.Float.{Format}
use Rattle.rules.specs.Tree.{Tree}
use Rattle.rules.specs.Table.{good, table}
use Rattle.laws.specs.View.{Call}
use Rattle.laws.specs.History.{Standing, after_all}
use Rattle.laws.specs.Fresh.{FreshCells, fresh_held}
use Rattle.laws.specs.Follows.{ruled_all, said_by, TakeUps, held_in}
use Rattle.laws.proofs.Follows.{follows}

-- from fresh cells, the table's tree
pub follows_fresh :
    (F : Format)
    (kinds ns : List ℕ)
    (limits : List Float)
    (t : Tree)
    (the_table : table kinds ns limits ≡ good t)
    (st : Standing)
    (all-zero : FreshCells t st.cells')
    (cs : List Call)
    (up : TakeUps F t st cs)
    → (map (said_by F) cs, held_in t (after_all F st cs)) ≡ ruled_all F t (st.record', t) cs
follows_fresh F kinds ns limits t e st f cs up =
    follows F t st cs up ∙ ap (λ (u : Tree). ruled_all F t (st.record', u) cs) (fresh_held kinds ns limits t st.cells' e f)
