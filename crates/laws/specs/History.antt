-- Calls of a host, one after the other. Between two calls a tree stands: the record and the cells that the last call answered 0 left, for every
-- other call leaves both. Cells behind the tree's, spare, board, event, fuel and answers may differ from call to call.
use Rattle.std.specs.Prelude.{◌≡◌, refl, Bool, true, false, cond, not, ◌||◌, List, ℕ, suc, T, leb, length}
use Rattle.std.proofs.Common.{subst}
use Rattle.std.specs.Float.{Format}
use Rattle.rules.specs.declared.answer.Answer.{Answer}
use Rattle.rules.specs.declared.answer.Answer.TheVariants as says
use Rattle.rules.specs.declared.answer.Record.{Record}
use Rattle.rules.specs.Tree.{Tree, size}
use Rattle.rules.specs.Table.{good, table}
use Rattle.rules.specs.Call.{Run, Given, Left, run_length, too_short}
use Rattle.laws.specs.Memory.{held, first_cells, held_first}
use Rattle.laws.specs.View.{Call, left_by, held_by, NotWalked}

-- ---- answer 0
abbrev pub is_ticked : Answer → Bool
is_ticked (says.Ticked s r v u) = true
is_ticked (says.Asked n x) = false
is_ticked says.Finished = false
is_ticked (says.BadTable p) = false
is_ticked says.TooShort = false
is_ticked says.BadTime = false
is_ticked (says.BadAnswer i) = false
is_ticked says.OutOfFuel = false
is_ticked (says.BadCell p) = false
is_ticked says.NoRoom = false

pub not_ticked : (a : Answer) → NotWalked a → is_ticked a ≡ false
not_ticked (says.Ticked s r v u) h = absurd h
not_ticked (says.Asked n x) h = refl
not_ticked says.Finished h = refl
not_ticked (says.BadTable p) h = refl
not_ticked says.TooShort h = refl
not_ticked says.BadTime h = refl
not_ticked (says.BadAnswer i) h = refl
not_ticked says.OutOfFuel h = refl
not_ticked (says.BadCell p) h = refl
not_ticked says.NoRoom h = refl

-- what is asked of a call answered 0, by the number of answers that it says it used
abbrev pub OfTicked : Answer → (ℕ → Type 0) → Type 0
OfTicked (says.Ticked s r v u) P = P u
OfTicked (says.Asked n x) P = Unit {0}
OfTicked says.Finished P = Unit {0}
OfTicked (says.BadTable p) P = Unit {0}
OfTicked says.TooShort P = Unit {0}
OfTicked says.BadTime P = Unit {0}
OfTicked (says.BadAnswer i) P = Unit {0}
OfTicked says.OutOfFuel P = Unit {0}
OfTicked (says.BadCell p) P = Unit {0}
OfTicked says.NoRoom P = Unit {0}

-- ---- what stands
-- record and cells, and how many ticks were carried out since the start or, itself counted, the last restart
pub record Standing : Type 0 where
  pub record' : Record
  pub cells' : Run
  pub carried : ℕ

abbrev pub stands : Record → Run → ℕ → Standing
stands r c k = record { record' = r; cells' = c; carried = k }

-- the ticks carried out that a call is counted behind: a restart is the first
abbrev pub behind : Call → Standing → ℕ
behind a st = cond a.fresh 0 st.carried

-- a call that is not answered 0 leaves what stands
abbrev pub after_left : ℕ → Standing → Left → Standing
after_left k st l = cond (is_ticked l.answer) (stands l.record' l.cells' (suc k)) st

unfoldable pub after : Format → Standing → Call → Standing
after F st a = after_left (behind a st) st (left_by F a)

unfoldable pub after_all : Format → Standing → List Call → Standing
unfolding after
after_all F st List.[] = st
after_all F st (List.◌∷◌ a cs) = after_all F (after F st a) cs

-- ---- a call of the tree t takes up what stands
-- its table, unless that is refused; a tick the record and, if enough are lent, the cells of the table's nodes too
pub record TakesUp (t : Tree) (st : Standing) (a : Call) : Type 0 where
  pub the_table : (u : Tree) → table a.given'.kinds a.given'.ns a.given'.limits ≡ good u → u ≡ t
  pub the_record : a.fresh ≡ false → a.given'.record' ≡ st.record'
  pub the_cells : a.fresh ≡ false → T (leb (size t) (run_length a.given'.cells')) → first_cells (size t) a.given'.cells' ≡ first_cells (size t) st.cells'

enough : (a b c : Bool) → not a || not b || not c ≡ false → T a
enough true b c e = tt
enough false b c e = subst T e tt

long_cells : (g : Given) (n : ℕ) → too_short g n ≡ false → T (leb n (run_length g.cells'))
long_cells g n e = enough (leb n (run_length g.cells')) (leb n (run_length g.spare)) (leb n (length g.board)) e

-- then a tick's walk is that of the tree that stands
pub same_tree : (t : Tree) (st : Standing) (a : Call) → TakesUp t st a → a.fresh ≡ false → too_short a.given' (size t) ≡ false → held_by t a.given' ≡ held t st.cells'
same_tree t st a up e h = held_first t a.given'.cells' st.cells' (up.the_cells e (long_cells a.given' (size t) h))
