-- Each way through the checks of tables and cells leaves of the call what the rules say.
use mathlib.Core.Path.{◌≡◌, ◌∙◌}
use mathlib.Core.Bool.{true, false, cond}
use mathlib.Core.List.{List}
use Prim.Native.Nat.{ℕ, ◌≤◌, ◌<◌}
use borrow.Author.Tests.{le-ltb}
use lib.Dec.{leb}
use Rattle.rules.specs.declared.exchanged.Exchanged.TheVariants as exchanged
use Rattle.rules.specs.declared.exchanged.Exchanged.TheVariants.{Finished, BadTable, BadBranch, TooShort, NoNode}
use Rattle.rules.specs.Tree.{Tree, size}
use Rattle.rules.specs.Table.{most_deep, bad, table_within}
use Rattle.rules.specs.Cells.{bad_cell}
use Rattle.rules.specs.Call.{run_length}
use Rattle.rules.specs.Exchange as exchange
use Rattle.rules.specs.Exchange.{GivenExchange, not_exchanged, replacing, on_trees, on_branch, exchange_call}
use Rattle.laws.specs.Shape.{size_shape}
use Rattle.laws.specs.Memory.{held, held_shape}
use Rattle.std.specs.Prelude.{Result, Ok, Err, IsErrAnd}
use Rattle.rules.specs.declared.exchanged.Exchanged.{Exchanged}
use Rattle.rules.specs.declared.answer.Record.{Record}
use Rattle.lent.specs.declared.table.Table.{Table}
use Rattle.lent.specs.declared.cells.Cells.{Cells}
use Rattle.cells.specs.declared.check.BadCell.{BadCell}
use Rattle.branch.specs.Write.{exchange_of}
use Rattle.tables.proofs.Good.{Good}
use Rattle.cells.specs.Check.{Room, Checks, Said, said, said_faulty, said_fine}
use Rattle.cells.specs.Long.{long}
use Rattle.exchange.specs.Due.{Due, Passed}

module _ (rec : Record) (table : Table) (c : Cells) (at : ℕ) (branch : Table) (to : exchange.Room) where
  abbrev g : GivenExchange
  g = exchange_of rec table c at branch to

  -- ---- 3
  pub bad_table : (p : ℕ) → table_within most_deep g.kinds g.ns g.limits ≡ bad p → exchange_call g ≡ not_exchanged g (BadTable p)
  unfolding exchange_call
  bad_table p e = rw (exchange_call, e)

  module _ {ends : List ℕ} {n : ℕ} (old : Good most_deep g.kinds g.ns g.limits ends n) where
    pub bad_branch : (p : ℕ) → table_within most_deep g.new_kinds g.new_ns g.new_limits ≡ bad p → exchange_call g ≡ not_exchanged g (BadBranch p)
    unfolding exchange_call
    bad_branch p e = rw (exchange_call, old.is) (rw (on_branch, e))

    module _ {new_ends : List ℕ} {m : ℕ} (new : Good most_deep g.new_kinds g.new_ns g.new_limits new_ends m) where
      both : exchange_call g ≡ on_trees g old.tree new.tree
      unfolding exchange_call
      both = rw (exchange_call, old.is) (rw (on_branch, new.is))

      -- ---- 4
      pub too_short : leb n (run_length g.cells') ≡ false → exchange_call g ≡ not_exchanged g TooShort
      too_short e = both ∙ rw (on_trees, old.sized, e)

      module _ (enough : leb n (run_length g.cells') ≡ true) where
        pub room : Room table c n
        room =
            let l = long n g.cells' enough in
            record { nodes = old.few; kinds_long = old.in_kinds; ns_long = old.in_ns; times_long = l.times; places_long = l.places; marks_long = l.marks }

        abbrev t : Tree
        t = held old.tree g.cells'

        -- ---- 9
        module _ {r : Said} (k : Checks table ends c n r) where
          says : r ≡ said (bad_cell false false 0 t)
          says = k g.limits old.tree old.stands old.sized old.levels

          pub bad_cell_lem : (b : BadCell) → r ≡ Err b → exchange_call g ≡ not_exchanged g (exchanged.BadCell b.0)
          bad_cell_lem b h = both ∙ rw (on_trees, old.sized, enough, said_faulty (bad_cell false false 0 t) r b says h)

          module _ (fine : r ≡ Ok tt) where
            passed : exchange_call g ≡ cond g.record'.finished (not_exchanged g Finished) (replacing g t new.tree)
            passed = both ∙ rw (on_trees, old.sized, enough, (said_fine (bad_cell false false 0 t) r says fine).1)

            -- ---- 2
            pub finished : g.record'.finished ≡ true → exchange_call g ≡ not_exchanged g Finished
            finished e = passed ∙ rw e

            module _ (going : g.record'.finished ≡ false) where
              held_size : size t ≡ n
              held_size = size_shape t old.tree (held_shape old.tree g.cells') ∙ old.sized

              left : exchange_call g ≡ replacing g t new.tree
              left = passed ∙ rw going

              -- ---- 17
              pub no_node : n ≤ g.place → exchange_call g ≡ not_exchanged g NoNode
              no_node h = left ∙ rw (replacing, held_size, le-ltb g.place n h)

              pub due : g.place < n → Due g ends new_ends n m
              due h =
                  let l = long n g.cells' enough in
                  record { old = old; new = new; in_times = l.times; in_places = l.places; in_marks = l.marks; in_sinces = l.sinces; inside = h; is = left }

-- ---- what `?` makes of a refusal
pub told : (g : GivenExchange) (ends new_ends : List ℕ) (r : Result (ℕ × ℕ) Exchanged) (a : Exchanged) → IsErrAnd r (λ e. e ≡ a) → exchange_call g ≡ not_exchanged g a → Passed g ends new_ends r
told g ends new_ends (Ok x) a h is = absurd h
told g ends new_ends (Err x) a h is = rw h is
