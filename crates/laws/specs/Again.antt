-- Calling again with more fuel and more answers. A call answered 0 is answered so again, and leaves the same: the visits and the answers used are
-- those of the rules. A call that asked, and gets one answer more, uses it.
use Rattle.std.specs.Prelude.{◌≡◌, List, ◌++◌, T, Float}
use Prim.Native.Nat.{ℕ, ◌+◌}
use Rattle.std.specs.Float.{Format}
use Rattle.rules.specs.declared.answer.Answer.{Answer}
use Rattle.rules.specs.declared.answer.Answer.TheVariants.{Ticked, Asked, Finished, BadTable, TooShort, BadTime, BadAnswer, OutOfFuel, BadCell, NoRoom}
use Rattle.rules.specs.Cells.{none}
use Rattle.rules.specs.Call.{Given, answer_allowed, bad_answer}
use Rattle.laws.specs.View.{Call}
use Rattle.laws.specs.Lent.{Paired}

-- ---- the same call with k more fuel, and with answers behind its own
abbrev pub again : ℕ → List ℕ → List Float → Given → Given
again k ss ls g = record {
  kinds = g.kinds;
  ns = g.ns;
  limits = g.limits;
  record' = g.record';
  cells' = g.cells';
  spare = g.spare;
  board = g.board;
  event = g.event;
  fuel = g.fuel + k;
  statuses = g.statuses ++ ss;
  leftovers = g.leftovers ++ ls;
}

abbrev pub again_by : ℕ → List ℕ → List Float → Call → Call
again_by k ss ls a = record { given' = again k ss ls a.given'; fresh = a.fresh }

module _ (F : Format) (a : Call) (k : ℕ) (ss : List ℕ) (ls : List Float) (even : Paired a.given'.statuses a.given'.leftovers) (i j : ℕ) (allowed : bad_answer i ss ls ≡ none j) where
  abbrev g : Given
  g = a.given'

-- ---- one answer more
-- all answers lent were used, or a next question is asked, or the fuel is used up; no refusal
abbrev pub Progress : ℕ → Answer → Type 0
Progress n (Ticked s r v u) = u ≡ n
Progress n (Asked m x) = Unit {0}
Progress n OutOfFuel = Unit {0}
Progress n Finished = ⊥
Progress n (BadTable p) = ⊥
Progress n TooShort = ⊥
Progress n BadTime = ⊥
Progress n (BadAnswer i) = ⊥
Progress n (BadCell p) = ⊥
Progress n NoRoom = ⊥

abbrev pub is_asked : Answer → Type 0
is_asked (Asked n x) = Unit {0}
is_asked (Ticked s r v u) = ⊥
is_asked OutOfFuel = ⊥
is_asked Finished = ⊥
is_asked (BadTable p) = ⊥
is_asked TooShort = ⊥
is_asked BadTime = ⊥
is_asked (BadAnswer i) = ⊥
is_asked (BadCell p) = ⊥
is_asked NoRoom = ⊥

module _ (F : Format) (a : Call) (s : ℕ) (l : Float) (even : Paired a.given'.statuses a.given'.leftovers) (allowed : T (answer_allowed s l)) where
  abbrev pub one : Call
  one = again_by 0 (List.◌∷◌ s List.[]) (List.◌∷◌ l List.[]) a
