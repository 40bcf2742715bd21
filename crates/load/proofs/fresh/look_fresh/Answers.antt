-- What the table check found, and the words of its tree.
use mathlib.Core.Path.{sym}
use mathlib.Core.Bool.{false≢true}
use Rattle.rules.specs.Table.{table}
use Rattle.tables.proofs.Good.{found_good, found_bad}
use Rattle.load.proofs.Look.{bad_table}
use Rattle.load.proofs.fresh.look_fresh.Goals as goal

pub load_fresh-requires : goal.load_fresh-requires
load_fresh-requires c =
    let good = found_good _ _ _ _ _ _ c.check_table.ensures _ c.in_ok-n.was in
    (good.few, good.in_kinds)

pub returns-in_err-n : goal.returns-in_err-n
unfolding table
returns-in_err-n c times places marks = bad_table _ _ _ _ _ _ _ _ _ _ _ c.from_residual.ensures (found_bad _ _ _ _ _ _ c.check_table.ensures _ c.in_err-n.was)

pub returns : goal.returns
unfolding table
returns c times places marks =
    let good = found_good _ _ _ _ _ _ c.check_table.ensures _ c.in_ok-n.was in
    record {
      tree = good.tree;
      is = good.is;
      nodes = sym good.nodes;
      sized = good.sized;
      few = good.few;
      levels = good.levels;
      ends = _;
      stands = good.stands;
      behind = 0;
      fine = λ e. absurd (false≢true (sym e));
      words = c.load_fresh.ensures;
    }
