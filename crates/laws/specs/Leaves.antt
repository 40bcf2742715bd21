-- What a call leaves, a tick or a restart: a refusal leaves everything; answers 7 and 1 leave all but the spare, which holds the cells at entry.
use Rattle.std.specs.Prelude.{◌≡◌, refl, T}
use Rattle.std.proofs.Common.{subst}
use Rattle.std.specs.Float.{Format}
use Rattle.rules.specs.declared.answer.Answer.{Answer}
use Rattle.rules.specs.declared.answer.Answer.TheVariants.{Ticked, Asked, Finished, BadTable, TooShort, BadTime, BadAnswer, OutOfFuel, BadCell, NoRoom}
use Rattle.rules.specs.Tree.{Tree}
use Rattle.rules.specs.Outcome.{world, Out, done, asks, short}
use Rattle.rules.specs.Table.{good, table}
use Rattle.rules.specs.Call.{Given, Left, left, spared, walked, refused, restart_call}
use Rattle.laws.specs.View.{Call, restarts, left_by, held_by, walk, NotWalked, Why, not_walked, View, walking, refusing, view}

-- by the answer: 0 leaves what the rules say; 7 and 1 all but the spare; any other all
abbrev pub Leaves : Given → Left → Answer → Type 0
Leaves g l (Ticked s r v u) = Unit {0}
Leaves g l (Asked n x) = (t : Tree) × (table g.kinds g.ns g.limits ≡ good t) × (l ≡ left (Asked n x) g.record' g.cells' (spared g (held_by t g)) g.board)
Leaves g l OutOfFuel = (t : Tree) × (table g.kinds g.ns g.limits ≡ good t) × (l ≡ left OutOfFuel g.record' g.cells' (spared g (held_by t g)) g.board)
Leaves g l Finished = l ≡ refused g Finished
Leaves g l (BadTable p) = l ≡ refused g (BadTable p)
Leaves g l TooShort = l ≡ refused g TooShort
Leaves g l BadTime = l ≡ refused g BadTime
Leaves g l (BadAnswer i) = l ≡ refused g (BadAnswer i)
Leaves g l (BadCell p) = l ≡ refused g (BadCell p)
Leaves g l NoRoom = l ≡ refused g NoRoom

refused_leaves : (g : Given) (a : Answer) → NotWalked a → Leaves g (refused g a) a
refused_leaves g (Ticked s r v u) h = tt
refused_leaves g (Asked n x) h = absurd h
refused_leaves g OutOfFuel h = absurd h
refused_leaves g Finished h = refl
refused_leaves g (BadTable p) h = refl
refused_leaves g TooShort h = refl
refused_leaves g BadTime h = refl
refused_leaves g (BadAnswer i) h = refl
refused_leaves g (BadCell p) h = refl
refused_leaves g NoRoom h = refl

pub leaves : (F : Format) (a : Call) → Leaves a.given' (left_by F a) (left_by F a).answer
leaves F a = by_view F a (left_by F a) (view F a)
  where
    walked_leaves : (g : Given) (t : Tree) → table g.kinds g.ns g.limits ≡ good t → (o : Out Tree) → Leaves g (walked g (held_by t g) o) (walked g (held_by t g) o).answer
    walked_leaves g t e (done s r t' (world f ans)) = tt
    walked_leaves g t e (asks n x) = (t, e, refl)
    walked_leaves g t e short = (t, e, refl)

    by_view : (F : Format) (a : Call) (l : Left) → View F a l → Leaves a.given' l l.answer
    by_view F a l (refusing b n) = refused_leaves a.given' b (not_walked a b n)
    by_view F a l (walking t w) = walked_leaves a.given' t w.table_good (walk F t a)

-- ---- a restart is never answered 9, 2 or 13
abbrev pub OfRestart : Answer → Type 0
OfRestart (Ticked s r v u) = Unit {0}
OfRestart (Asked n x) = Unit {0}
OfRestart OutOfFuel = Unit {0}
OfRestart Finished = ⊥
OfRestart (BadTable p) = Unit {0}
OfRestart TooShort = Unit {0}
OfRestart BadTime = Unit {0}
OfRestart (BadAnswer i) = Unit {0}
OfRestart (BadCell p) = ⊥
OfRestart NoRoom = ⊥

refused_restart : (g : Given) (b : Answer) → Why (restarts g) b → OfRestart b
refused_restart g (Ticked s r v u) h = tt
refused_restart g (Asked n x) h = tt
refused_restart g OutOfFuel h = tt
refused_restart g Finished h = subst T h.1 tt
refused_restart g (BadTable p) h = tt
refused_restart g TooShort h = tt
refused_restart g BadTime h = tt
refused_restart g (BadAnswer i) h = tt
refused_restart g (BadCell p) h = subst T h.4 tt
refused_restart g NoRoom h = h

walked_restart : (g : Given) (t : Tree) (o : Out Tree) → OfRestart (walked g t o).answer
walked_restart g t (done s r t' (world f ans)) = tt
walked_restart g t (asks n x) = tt
walked_restart g t short = tt

pub restart_says : (F : Format) (g : Given) → OfRestart (restart_call F g).answer
restart_says F g = on (restart_call F g) (view F (restarts g))
  where
    on : (l : Left) → View F (restarts g) l → OfRestart l.answer
    on l (refusing b n) = refused_restart g b n
    on l (walking t w) = walked_restart g (held_by t g) (walk F t (restarts g))
