-- A call in two ways: it comes to its walk, and then it is one walk of the rules, of a tick over the tree that the cells hold, of a restart over the
-- table's tree made fresh; or it is refused, and all stays.
use Rattle.std.specs.Prelude.{◌≡◌, Bool, cond, ℕ}
use Rattle.std.proofs.Math.Path.{refl}
use Rattle.std.proofs.Common.{subst}
use Rattle.std.proofs.Math.Bool.{true, false}
use Rattle.std.proofs.Math.Dec.{T}
use Rattle.std.specs.Float.{Format}
use Rattle.rules.specs.declared.answer.Answer.{Answer}
use Rattle.rules.specs.declared.answer.Answer.TheVariants.{Ticked, Asked, Finished, BadTable, TooShort, BadTime, BadAnswer, OutOfFuel, BadCell, NoRoom}
use Rattle.rules.specs.Tree.{Tree, fresh, size}
use Rattle.rules.specs.Outcome.{Out}
use Rattle.rules.specs.Table.{Table, good, bad, table}
use Rattle.rules.specs.Cells.{Found, faulty, none, bad_cell}
use Rattle.rules.specs.Call.{Given, Left, bad_answer, time_allowed, refused, walked, too_short, on_table, on_inputs, walk_from, tick_call, restart_call}
use Rattle.laws.specs.Shape.{shape, fresh_shape}
use Rattle.laws.specs.Memory.{held, held_shape}
use Rattle.laws.specs.Tables.{fresh_fine}

-- a tick or, with a tree that starts fresh, a restart; and all that it is given
pub record Call : Type 0 where
  pub given' : Given
  pub fresh : Bool

abbrev pub ticks : Given → Call
ticks g = record { given' = g; fresh = false }

abbrev pub restarts : Given → Call
restarts g = record { given' = g; fresh = true }

abbrev pub left_by : Format → Call → Left
left_by F a = cond a.fresh (restart_call F a.given') (tick_call F a.given')

-- the tree that the cells at entry hold
abbrev pub held_by : Tree → Given → Tree
held_by t g = held t g.cells'

-- the tree that the walk starts from, and the walk
abbrev pub start_of : Tree → Call → Tree
start_of t a = cond a.fresh (fresh t) (held_by t a.given')

abbrev pub walk : Format → Tree → Call → Out Tree
walk F t a = walk_from F a.given' (start_of t a)

abbrev pub walked_by : Format → Tree → Call → Left
walked_by F t a = walked a.given' (held_by t a.given') (walk F t a)

pub start_shape : (t : Tree) (a : Call) → shape (start_of t a) ≡ shape t
start_shape t a = on a.fresh
  where
    on : (b : Bool) → shape (cond b (fresh t) (held_by t a.given')) ≡ shape t
    on true = fresh_shape t
    on false = held_shape t a.given'.cells'

-- a call that came to its walk: the table is good, the memory long enough, every cell that the walk starts from allowed, the time and the answers
-- too, and the tree of a tick has not finished
pub record Walked (a : Call) (t : Tree) : Type 0 where
  pub table_good : table a.given'.kinds a.given'.ns a.given'.limits ≡ good t
  pub long_enough : too_short a.given' (size t) ≡ false
  pub cells_good : (at : ℕ) × (bad_cell false false 0 (start_of t a) ≡ none at)
  pub time_good : time_allowed a.given'.event ≡ true
  pub answers_good : (i : ℕ) × (bad_answer 0 a.given'.statuses a.given'.leftovers ≡ none i)
  pub not_finished : a.fresh ≡ false → a.given'.record'.finished ≡ false

abbrev pub NotWalked : Answer → Type 0
NotWalked (Ticked s r v u) = ⊥
NotWalked (Asked n x) = ⊥
NotWalked Finished = Unit {0}
NotWalked (BadTable p) = Unit {0}
NotWalked TooShort = Unit {0}
NotWalked BadTime = Unit {0}
NotWalked (BadAnswer i) = Unit {0}
NotWalked OutOfFuel = ⊥
NotWalked (BadCell p) = Unit {0}
NotWalked NoRoom = Unit {0}

-- a refusal, and why; 9 and 2 are a tick's alone, and 13 is of the calls without recursion
abbrev pub Why : Call → Answer → Type 0
Why a (Ticked s r v u) = ⊥
Why a (Asked n x) = ⊥
Why a OutOfFuel = ⊥
Why a (BadTable p) = table a.given'.kinds a.given'.ns a.given'.limits ≡ bad p
Why a TooShort = (t : Tree) × (table a.given'.kinds a.given'.ns a.given'.limits ≡ good t) × (too_short a.given' (size t) ≡ true)
Why a (BadCell p) = (t : Tree) × (table a.given'.kinds a.given'.ns a.given'.limits ≡ good t) × (too_short a.given' (size t) ≡ false)
    × (bad_cell false false 0 (held_by t a.given') ≡ faulty p) × (a.fresh ≡ false)
Why a BadTime = time_allowed a.given'.event ≡ false
Why a (BadAnswer i) = bad_answer 0 a.given'.statuses a.given'.leftovers ≡ faulty i
Why a Finished = (a.given'.record'.finished ≡ true) × (a.fresh ≡ false)
Why a NoRoom = ⊥

pub not_walked : (a : Call) (b : Answer) → Why a b → NotWalked b
not_walked a (Ticked s r v u) h = h
not_walked a (Asked n x) h = h
not_walked a OutOfFuel h = h
not_walked a (BadTable p) h = tt
not_walked a TooShort h = tt
not_walked a (BadCell p) h = tt
not_walked a NoRoom h = tt
not_walked a BadTime h = tt
not_walked a (BadAnswer i) h = tt
not_walked a Finished h = tt

pub data View (F : Format) (a : Call) : Left → Type 0 where
  walking : (t : Tree) → Walked a t → View F a (walked_by F t a)
  refusing : (b : Answer) → Why a b → View F a (refused a.given' b)

module _ (F : Format) where
  -- ---- the refusals of both
  module _ (a : Call) where
    abbrev g : Given
    g = a.given'

    on_inputs_lem : (due : Left) → (time_allowed g.event ≡ true → (i : ℕ) → bad_answer 0 g.statuses g.leftovers ≡ none i → View F a due) → View F a (on_inputs g due)
    on_inputs_lem due f = by_time (time_allowed g.event) refl
      where
        by_answers : time_allowed g.event ≡ true → (o : Found) → bad_answer 0 g.statuses g.leftovers ≡ o
            → View F a (elim o [ faulty i ↦ refused g (BadAnswer i) | none _ ↦ due ])
        by_answers time (faulty i) e = refusing (BadAnswer i) e
        by_answers time (none i) e = f time i e

        by_time : (b : Bool) → time_allowed g.event ≡ b
            → View F a (cond b (elim (bad_answer 0 g.statuses g.leftovers) [ faulty i ↦ refused g (BadAnswer i) | none _ ↦ due ]) (refused g BadTime))
        by_time true e = by_answers e (bad_answer 0 g.statuses g.leftovers) refl
        by_time false e = refusing BadTime e

    on_table_lem : (due : Tree → Left) → ((t : Tree) → table g.kinds g.ns g.limits ≡ good t → too_short g (size t) ≡ false → View F a (due t)) → View F a (on_table g due)
    on_table_lem due f = by_table (table g.kinds g.ns g.limits) refl
      where
        by_length : (t : Tree) → table g.kinds g.ns g.limits ≡ good t → (b : Bool) → too_short g (size t) ≡ b → View F a (cond b (refused g TooShort) (due t))
        by_length t e true s = refusing TooShort (t, e, s)
        by_length t e false s = f t e s

        by_table : (o : Table) → table g.kinds g.ns g.limits ≡ o
            → View F a (elim o [ bad p ↦ refused g (BadTable p) | good t ↦ cond (too_short g (size t)) (refused g TooShort) (due t) ])
        by_table (good t) e = by_length t e (too_short g (size t)) refl
        by_table (bad p) e = refusing (BadTable p) e

  -- ---- each call
  by_finished : (g : Given) (t : Tree) → (g.record'.finished ≡ false → Walked (ticks g) t) → (b : Bool) → g.record'.finished ≡ b
      → View F (ticks g) (cond b (refused g Finished) (walked_by F t (ticks g)))
  by_finished g t w true e = refusing Finished (e, refl)
  by_finished g t w false e = walking t (w e)

  by_cells : (g : Given) (t : Tree) → table g.kinds g.ns g.limits ≡ good t → too_short g (size t) ≡ false → (f : Found) → bad_cell false false 0 (held_by t g) ≡ f
      → View F (ticks g) (elim f [
        | faulty p ↦ refused g (BadCell p)
        | none _ ↦ on_inputs g (cond g.record'.finished (refused g Finished) (walked_by F t (ticks g)))
      ])
  by_cells g t e s (faulty p) c = refusing (BadCell p) (t, e, s, c, refl)
  by_cells g t e s (none at) c = on_inputs_lem (ticks g) _ λ time i ans.
      by_finished g t (λ unfinished. record { table_good = e; long_enough = s; cells_good = (at, c); time_good = time; answers_good = (i, ans); not_finished = λ e. unfinished })
      g.record'.finished refl

  pub view : (a : Call) → View F a (left_by F a)
  unfolding tick_call restart_call
  view a = on a.given' a.fresh
    where
      on : (g : Given) (fresh : Bool) → View F (record { given' = g; fresh = fresh }) (left_by F (record { given' = g; fresh = fresh }))
      on g false = on_table_lem (ticks g) _ λ t e s. by_cells g t e s (bad_cell false false 0 (held_by t g)) refl
      on g true = on_table_lem (restarts g) _ λ t e s. on_inputs_lem (restarts g) _ λ time i ans. walking t (record {
        table_good = e;
        long_enough = s;
        cells_good = fresh_fine t false 0;
        time_good = time;
        answers_good = (i, ans);
        not_finished = λ q. absurd (subst T q tt);
      })
