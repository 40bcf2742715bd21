-- Without loops a call with fuel for each node is never answered 7.
use Rattle.std.specs.Prelude.{◌≡◌, refl, ℕ, ◌≤◌, T}
use Rattle.std.proofs.Common.{subst, arith}
use Rattle.std.specs.Float.{Format}
use Rattle.std.specs.Float.Ieee.Fits.{and_l, and_r}
use Rattle.rules.specs.declared.answer.Answer.TheVariants.{OutOfFuel}
use Rattle.rules.specs.Tree.{Tree, node, Forest, [], ◌◂◌, size}
use Rattle.rules.specs.Outcome.{world, Out, done, asks, short}
use Rattle.rules.specs.Table.{most_deep, good, table}
use Rattle.rules.specs.Call.{Given, Left, answers, cleaned_event, walked}
use Rattle.laws.specs.Shape.{shape, shapes, size_shape, depth_of_lem}
use Rattle.laws.specs.Tables.{tabled, one_tree}
use Rattle.laws.specs.View.{Call, left_by, held_by, start_of, walk, start_shape, Why, View, walking, refusing, view}
use Rattle.laws.specs.Fuel.{no_loop, NoLoops, NoLoopsIn, Plain}
use Rattle.laws.proofs.Fuel.{never_short}
use Rattle.laws.specs.Live.{tabled_right}
use Rattle.laws.specs.CellsGood.{live_of}
use Rattle.laws.specs.FuelCall.{loopless, loopless_all}

mutual
  unfolding loopless

  no_loops : (t : Tree) → T (loopless t) → NoLoops (shape t)
  no_loops (node k n l c b ts) w = (and_l (no_loop k) (loopless_all ts) w, no_loops_in ts (and_r (no_loop k) (loopless_all ts) w))

  no_loops_in : (ts : Forest) → T (loopless_all ts) → NoLoopsIn (shapes ts)
  no_loops_in [] w = tt
  no_loops_in (t ◂ ts) w = (no_loops t (and_l (loopless t) (loopless_all ts) w), no_loops_in ts (and_r (loopless t) (loopless_all ts) w))

-- ---- the call
walked_not_out : (g : Given) (t : Tree) (o : Out Tree) → (o ≡ short → ⊥) → (walked g t o).answer ≡ OutOfFuel → ⊥
walked_not_out g t (done s r t' (world f ans)) h q = let z : ◌≡◌ {A = ℕ} 0 1 = cc in omega arith
walked_not_out g t (asks n x) h q = let z : ◌≡◌ {A = ℕ} 0 1 = cc in omega arith
walked_not_out g t short h q = h refl

module _ (F : Format) (a : Call) (t : Tree) (e : table a.given'.kinds a.given'.ns a.given'.limits ≡ good t) (w : T (loopless t)) (f : size t ≤ a.given'.fuel) where
  abbrev g : Given
  g = a.given'

  plain_start : Plain most_deep (shape (start_of t a))
  plain_start = let r = tabled g.kinds g.ns g.limits t e in rw (start_shape t a) (tabled_right t r.0, rw (depth_of_lem t) at r.1, no_loops t w)

  pub fuel_enough : (left_by F a).answer ≡ OutOfFuel → ⊥
  fuel_enough q = by_view (left_by F a) (view F a) q
    where
      by_view : (l : Left) → View F a l → l.answer ≡ OutOfFuel → ⊥
      by_view l (refusing b n) z = subst (Why a) z n
      by_view l (walking u v) z =
          let q : u ≡ t = one_tree (table g.kinds g.ns g.limits) t u e v.table_good in
          walked_not_out g (held_by t g) (walk F t a)
          (never_short F most_deep (start_of t a) (cleaned_event g.event) g.fuel (answers g.statuses g.leftovers) plain_start
          (live_of (start_of t a) v.cells_good.0 (rw q at v.cells_good.1))
          (rw (size_shape (start_of t a) t (start_shape t a)) f)) (rw q at z)
