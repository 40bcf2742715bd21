-- A call whose table, memory, cells, time and answers pass, and of a tick that the tree has not finished, is the walk of the rules.
use Rattle.std.specs.Prelude.{◌≡◌, false, T}
use Rattle.std.proofs.Common.{sym, ap, ◌∙◌, subst}
use Rattle.std.specs.Float.{Format}
use Rattle.rules.specs.declared.answer.Answer.{Answer}
use Rattle.rules.specs.declared.answer.Answer.TheVariants.{Ticked, Asked, Finished, BadTable, TooShort, BadTime, BadAnswer, OutOfFuel, BadCell, NoRoom}
use Rattle.rules.specs.Tree.{Tree, size}
use Rattle.rules.specs.Table.{Table, good, bad, table}
use Rattle.rules.specs.Cells.{Found, faulty, none, bad_cell}
use Rattle.rules.specs.Call.{Left, too_short}
use Rattle.laws.specs.Tables.{one_tree}
use Rattle.laws.specs.View.{Call, left_by, held_by, walked_by, Walked, Why, View, walking, refusing, view}

abbrev IsGood : Table → Type 0
IsGood (good t) = Unit {0}
IsGood (bad p) = ⊥

abbrev IsNone : Found → Type 0
IsNone (faulty p) = ⊥
IsNone (none i) = Unit {0}

the_tree : (a : Call) (t : Tree) → Walked a t → (u : Tree) → table a.given'.kinds a.given'.ns a.given'.limits ≡ good u → u ≡ t
the_tree a t w u e = one_tree (table a.given'.kinds a.given'.ns a.given'.limits) t u w.table_good e

clash : (a : Call) (t : Tree) (b : Answer) → Walked a t → Why a b → ⊥
clash a t (Ticked s r v u) w y = y
clash a t (Asked n x) w y = y
clash a t OutOfFuel w y = y
clash a t NoRoom w y = y
clash a t (BadTable p) w y = subst IsGood (sym w.table_good ∙ y) tt
clash a t TooShort w y = subst T (sym y.2 ∙ ap (λ (u : Tree). too_short a.given' (size u)) (the_tree a t w y.0 y.1) ∙ w.long_enough) tt
clash a t (BadCell p) w y =
    let held : bad_cell false false 0 (held_by t a.given') ≡ none w.cells_good.0 = rw y.4 at w.cells_good.1 in
    subst IsNone (sym held ∙ ap (λ (u : Tree). bad_cell false false 0 (held_by u a.given')) (sym (the_tree a t w y.0 y.1)) ∙ y.3) tt
clash a t BadTime w y = subst T (sym w.time_good ∙ y) tt
clash a t (BadAnswer i) w y = subst IsNone (sym w.answers_good.1 ∙ y) tt
clash a t Finished w y = subst T (sym y.0 ∙ w.not_finished y.1) tt

pub walks : (F : Format) (a : Call) (t : Tree) → Walked a t → left_by F a ≡ walked_by F t a
walks F a t w = on (left_by F a) (view F a)
  where
    on : (l : Left) → View F a l → l ≡ walked_by F t a
    on l (refusing b y) = absurd (clash a t b w y)
    on l (walking u v) = ap (λ (z : Tree). walked_by F z a) (the_tree a t w u v.table_good)
