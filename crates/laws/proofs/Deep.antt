-- The 16 levels of a call's walk are never what ends it: with any number that the tree is no deeper than, it is the same walk.
use Rattle.std.specs.Prelude.{◌≡◌, ℕ, ◌≤◌}
use Rattle.std.specs.Float.{Format}
use Rattle.rules.specs.Tree.{Tree, depth}
use Rattle.rules.specs.Outcome.{world}
use Rattle.rules.specs.State.{tick}
use Rattle.rules.specs.Table.{most_deep}
use Rattle.rules.specs.Call.{answers, cleaned_event}
use Rattle.laws.specs.Shape.{depth_shape}
use Rattle.laws.specs.Tables.{tabled}
use Rattle.laws.specs.View.{Call, start_of, walk, start_shape, Walked}
use Rattle.laws.proofs.Alone.{depth_free}

pub deep_enough : (F : Format) (a : Call) (t : Tree) → Walked a t → (d : ℕ) → depth t ≤ d
    → walk F t a ≡ tick F d (start_of t a) (cleaned_event a.given'.event) (world a.given'.fuel (answers a.given'.statuses a.given'.leftovers))
deep_enough F a t w d h =
    let g = a.given' in
    let q : depth (start_of t a) ≡ depth t = depth_shape (start_of t a) t (start_shape t a) in
    depth_free F most_deep d (start_of t a) (cleaned_event g.event) (world g.fuel (answers g.statuses g.leftovers))
    (rw q (tabled g.kinds g.ns g.limits t w.table_good).1) (rw q h)
