-- Over every sequence of calls, ticks and restarts, refused or not: the list of what they say, the record and the cells are those of the rules, run
-- on a tree one call after the other. So no call says again what an earlier one said, unless the rules do.
use Rattle.std.specs.Prelude.{◌≡◌, cond, List, ◌-◌, length}
use Rattle.std.proofs.Math.Bool.{false}
use Rattle.std.specs.Float.{Format}
use Rattle.rules.specs.declared.answer.Answer.{Answer}
use Rattle.rules.specs.declared.answer.Answer.TheVariants.{Ticked, Asked, Finished, BadTable, TooShort, BadTime, BadAnswer, OutOfFuel, BadCell}
use Rattle.rules.specs.declared.answer.Record.{Record}
use Rattle.rules.specs.declared.answer.Said.{Said}
use Rattle.rules.specs.Tree.{Tree, fresh, size}
use Rattle.rules.specs.Outcome.{world, Out, done, asks, short}
use Rattle.rules.specs.Table.{good, bad, table}
use Rattle.rules.specs.Cells.{faulty, none, bad_cell}
use Rattle.rules.specs.Call.{Given, answers, bad_answer, time_allowed, counted, too_short, walk_from, said_of}
use Rattle.laws.specs.Memory.{clear, held}
use Rattle.laws.specs.View.{Call, left_by}
use Rattle.laws.specs.History.{Standing, after, TakesUp}

-- ---- the rules: a record and a tree, and no memory. Of what a call lends, the lengths count
abbrev pub Held : Type 0
Held = Record × Tree

-- what a walk says, and the record and the tree after it; a tree is handed on as it is between two ticks, with its board cleared
abbrev pub ran : Given → Held → Out Tree → Answer × Held
ran g h (done s r u (world f ans)) = (Ticked s r (g.fuel - f) (length (answers g.statuses g.leftovers) - length ans), (counted s h.0, clear u))
ran g h (asks n x) = (Asked n x, h)
ran g h short = (OutOfFuel, h)

-- 3 and 4, and then what is due
abbrev pub ruled_table : Tree → Held → Given → Answer × Held → Answer × Held
ruled_table t h g due = elim (table g.kinds g.ns g.limits) [
  | bad p ↦ (BadTable p, h)
  | good _ ↦ cond (too_short g (size t)) (TooShort, h) due
]

-- 5 and 6, and then what is due
abbrev pub ruled_inputs : Held → Given → Answer × Held → Answer × Held
ruled_inputs h g due = cond (time_allowed g.event)
    (elim (bad_answer 0 g.statuses g.leftovers) [ faulty i ↦ (BadAnswer i, h) | none _ ↦ due ])
    (BadTime, h)

-- a tick: 3 and 4, 9, 5 and 6, 2, and then the walk of the tree held
abbrev pub ruled_tick : Format → Tree → Held → Given → Answer × Held
ruled_tick F t h g = ruled_table t h g (elim (bad_cell false false 0 h.1) [
  | faulty p ↦ (BadCell p, h)
  | none _ ↦ ruled_inputs h g (cond h.0.finished (Finished, h) (ran g h (walk_from F g h.1)))
])

-- a restart: 3 and 4, 5 and 6, and then the walk of the tree made fresh, whatever is held
abbrev pub ruled_restart : Format → Tree → Held → Given → Answer × Held
ruled_restart F t h g = ruled_table t h g (ruled_inputs h g (ran g h (walk_from F g (fresh t))))

abbrev pub ruled : Format → Tree → Held → Call → Answer × Held
ruled F t h a = cond a.fresh (ruled_restart F t h a.given') (ruled_tick F t h a.given')

unfoldable pub ruled_all : Format → Tree → Held → List Call → List Said × Held
ruled_all F t h List.[] = (List.[], h)
ruled_all F t h (List.◌∷◌ a cs) = let x = ruled F t h a in let y = ruled_all F t x.1 cs in (List.◌∷◌ (said_of x.0) y.0, y.1)

-- ---- the calls: what each says, and what stands after it. Each takes up what the last one left; a restart may find any cells
abbrev pub said_by : Format → Call → Said
said_by F a = said_of (left_by F a).answer

abbrev pub TakeUps : Format → Tree → Standing → List Call → Type 0
TakeUps F t st List.[] = Unit {0}
TakeUps F t st (List.◌∷◌ a cs) = TakesUp t st a × (a.given'.record' ≡ st.record') × TakeUps F t (after F st a) cs

-- the record, and the tree that the cells hold
abbrev pub held_in : Tree → Standing → Held
held_in t st = (st.record', held t st.cells')

-- ---- one call
module _ (F : Format) (t : Tree) (st : Standing) (a : Call) (up : TakesUp t st a) (the_record : a.given'.record' ≡ st.record') where
  abbrev g : Given
  g = a.given'

  -- ---- a tick
  abbrev u : Tree
  u = held t st.cells'
