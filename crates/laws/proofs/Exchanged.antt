-- What an exchange answered 0 leaves: the room's table reads as the tree with the branch replaced, its cells are that tree's and are accepted, and so
-- a tick that takes them up is one of that tree.
use Rattle.std.specs.Prelude.{◌≡◌, cond}
use Rattle.std.proofs.Math.Path.{refl, ap}
use Rattle.std.proofs.Common.{sym, ◌∙◌}
use Rattle.std.proofs.Math.Bool.{false}
use Rattle.std.specs.Float.{Format}
use Rattle.rules.specs.declared.answer.Answer.TheVariants as answer
use Rattle.rules.specs.Tree.{Tree, fresh, size}
use Rattle.rules.specs.Table.{good, table}
use Rattle.rules.specs.Cells.{faulty, none, bad_cell}
use Rattle.rules.specs.Call.{Given, Left, too_short, refused, walked, on_table, on_inputs, at_entry, walk_from, tick_call}
use Rattle.rules.specs.Exchange.{Room, GivenExchange}
use Rattle.laws.specs.Shape.{fresh_shape, size_shape}
use Rattle.laws.specs.Memory.{clear, clear_shape, held, held_onto}
use Rattle.laws.specs.Tables.{tabled, renewed}
use Rattle.laws.specs.Replaced.{tabled_blank, cells_lent, blank_with, blank_replaced, blank_clear}
use Rattle.laws.specs.Exchanged.{run_in, onto_run_lem, sinces_of, Passed, result, to, to_is, reads, accepted, TakesUp}

-- ---- what it leaves
module _ (g : GivenExchange) (w : Passed g) where
  result_clear : clear (result g w) ≡ result g w
  result_clear =
      let old = tabled_blank w.tree (tabled g.kinds g.ns g.limits w.tree w.is).0 in
      let new = tabled_blank w.branch (tabled g.new_kinds g.new_ns g.new_limits w.branch w.new).0 in
      let lent = cells_lent g.cells'.times g.cells'.places g.cells'.marks in
      blank_clear (result g w) (blank_replaced w.branch new (held w.tree g.cells') g.place (blank_with w.tree _ lent old).0)

  -- its cells are that tree's
  pub holds : held (renewed (result g w)) (run_in (to g w)) ≡ result g w
  holds =
      ap (λ (x : Room). held (renewed (result g w)) (run_in x)) (to_is g w)
      ∙ ap (held (renewed (result g w))) (onto_run_lem (result g w) (sinces_of g w.tree w.branch) g.room')
      ∙ held_onto (sinces_of g w.tree w.branch) (renewed (result g w)) (result g w) (run_in g.room') (sym (clear_shape (fresh (result g w)) ∙ fresh_shape (result g w)))
      ∙ result_clear

  module _ (F : Format) (k : Given) (up : TakesUp g w k) where
    -- 5 and 6, 2, and then the walk of t
    abbrev walks_of : Tree → Left
    walks_of t = on_inputs k (cond k.record'.finished (refused k answer.Finished) (walked k t (walk_from F k t)))

    abbrev due_of : Tree → Left
    due_of t = elim (bad_cell false false 0 (at_entry k t)) [ faulty p ↦ refused k (answer.BadCell p) | none _ ↦ walks_of (at_entry k t) ]

    tick_is : tick_call F k ≡ on_table k due_of
    unfolding tick_call
    tick_is = refl

    table_is : table k.kinds k.ns k.limits ≡ good (renewed (result g w))
    table_is = rw (up.kinds, up.ns, up.limits) (reads g w)

    entry_is : at_entry k (renewed (result g w)) ≡ result g w
    entry_is = ap (held (renewed (result g w))) up.cells' ∙ holds

    due_is : due_of (renewed (result g w)) ≡ walks_of (result g w)
    due_is = rw (due_of, entry_is, (accepted g w).1) (ap walks_of entry_is)

    pub next_tick : too_short k (size (result g w)) ≡ false → tick_call F k ≡ walks_of (result g w)
    next_tick long =
        let same : size (renewed (result g w)) ≡ size (result g w) = size_shape (renewed (result g w)) (result g w) (clear_shape (fresh (result g w)) ∙ fresh_shape (result g w)) in
        tick_is ∙ rw (on_table, table_is) (rw (same, long) due_is)
