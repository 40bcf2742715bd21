-- What every walk of the rules keeps, every history of calls keeps. P: of the tree held and the number of ticks carried out, while it has not
-- finished; E: of the number once it has. Calls that are not answered 0 are free.
use Rattle.std.specs.Prelude.{◌≡◌, Bool, true, false, List, ℕ, suc}
use Rattle.std.specs.Float.{Format}
use Rattle.rules.specs.declared.status.Status.TheVariants.{Running, Success, Failure}
use Rattle.rules.specs.Tree.{Tree}
use Rattle.rules.specs.Outcome.{Out, done, asks, short}
use Rattle.rules.specs.Call.{Run, walked, walk_from}
use Rattle.laws.specs.Shape.{shape}
use Rattle.laws.specs.Memory.{clear, held}
use Rattle.laws.specs.View.{Call, left_by}
use Rattle.laws.specs.History.{OfTicked, Standing, after}

-- what a walk that started with a tree of the shape of t leaves: its shape, and P or E
abbrev pub After : Tree → (Tree → ℕ → Type 0) → (ℕ → Type 0) → ℕ → Out Tree → Type 0
After t P E k (done Running r t' w) = (shape t' ≡ shape t) × P (clear t') (suc k)
After t P E k (done Success r t' w) = E (suc k)
After t P E k (done Failure r t' w) = E (suc k)
After t P E k (asks n x) = Unit {0}
After t P E k short = Unit {0}

-- what stands: P of the tree held, or E
module _ (t : Tree) (P : Tree → ℕ → Type 0) (E : ℕ → Type 0) where
  abbrev Holds : Bool → Run → ℕ → Type 0
  Holds true c k = E k
  Holds false c k = P (held t c) k

  abbrev pub Keeps : Standing → Type 0
  Keeps st = Holds st.record'.finished st.cells' st.carried

-- Ok: what is asked of a call answered 0, beside what stands, with the number of answers that it used
module _ (F : Format) (Ok : Standing → Call → ℕ → Type 0) where
  abbrev pub Asked : Standing → Call → Type 0
  Asked st a = OfTicked (left_by F a).answer (Ok st a)

  abbrev pub AllAsked : Standing → List Call → Type 0
  AllAsked st List.[] = Unit {0}
  AllAsked st (List.◌∷◌ a cs) = Asked st a × AllAsked (after F st a) cs

  module _ (t : Tree) (P : Tree → ℕ → Type 0) (E : ℕ → Type 0) where
    abbrev pub Steps : Type 0
    Steps = (st : Standing) (a : Call) (t' : Tree) (k : ℕ) (o : Out Tree) → walk_from F a.given' t' ≡ o → P t' k → OfTicked (walked a.given' t' o).answer (Ok st a) → After t P E k o
