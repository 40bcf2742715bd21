-- The cells that whole ticks reach from fresh hold a state of the tree, with a finish bound or without: as long as it has not finished.
use Rattle.std.specs.Prelude.{◌≡◌, false, List, ℕ, ◌-◌, ◌≤◌, T, length, take, Float}
use Rattle.std.specs.Float.{Format}
use Rattle.rules.specs.declared.status.Status.{Status}
use Rattle.rules.specs.declared.event.Event.{Event}
use Rattle.rules.specs.declared.event.Event.TheVariants.{Update, Other}
use Rattle.rules.specs.Tree.{Tree}
use Rattle.rules.specs.Outcome.{world, done, asks, short}
use Rattle.rules.specs.State.{tick}
use Rattle.rules.specs.Table.{most_deep, good, table}
use Rattle.rules.specs.Call.{Given, answers, cleaned_event, restart_call}
use Rattle.rules.specs.Bound.{boundable, num}
use Rattle.laws.specs.Shape.{shape}
use Rattle.laws.specs.View.{Call, restarts}
use Rattle.laws.specs.History.{Standing, is_ticked, after, after_all}
use Rattle.laws.specs.Invariant.{After, Asked, Steps}
use Rattle.laws.proofs.Invariant.{calls_keep, restart_keeps}
use Rattle.floats.specs.Times.{whole_W}
use Rattle.finish.specs.Shaped.{Shaped}
use Rattle.finish.specs.Post.{TickQ}
use Rattle.finish.specs.WholeTicks.{WholeEvent, WholeAnswers, WholeTick, WholeHistory, whole_all}
use Rattle.finish.specs.Finishes.{State, whole_tick, Is, Ended, after_state}
use Rattle.finish.specs.States.{StateIn, shaped, first_state}

-- ---- the walk of a whole tick
module _ (F : Format) (t : Tree) (s : Shaped F (shape t)) (d : ℕ) (P : Tree → ℕ → Type 0) (E : ℕ → Type 0)
    (state : (t' : Tree) (k : ℕ) → P t' k → State F t t')
    (keeps : (t' : Tree) (k : ℕ) (x : Float) (s' : Status) (r : Float) (t'' : Tree) (f : ℕ) (left : List (Status × Float))
    → P t' k → d ≤ num x → TickQ F d (Update x) t' s' r t'' → After t P E k (done s' r t'' (world f left))) where
  on_event : (t' : Tree) (k : ℕ) (e : Event) (fuel : ℕ) (ans left : List (Status × Float)) (s' : Status) (r : Float) (t'' : Tree) (f : ℕ) → P t' k → WholeEvent F d e
      → WholeAnswers F (take (length ans - length left) ans)
      → tick F most_deep t' e (world fuel ans) ≡ done s' r t'' (world f left) → After t P E k (done s' r t'' (world f left))
  on_event t' k Other fuel ans left s' r t'' f v h a q = absurd h
  on_event t' k (Update x) fuel ans left s' r t'' f v h a q =
      keeps t' k x s' r t'' f left v h.1 (whole_tick F t s d most_deep t' x fuel ans left s' r t'' f (state t' k v) (whole_W F x h.0)
      (whole_all F (take (length ans - length left) ans) a) q)

  pub whole_step : Steps F (WholeTick F t d) t P E
  whole_step st a t' k (asks n x) q v h = tt
  whole_step st a t' k short q v h = tt
  whole_step st a t' k (done s' r t'' (world f left)) q v h =
      let g = a.given' in
      on_event t' k (cleaned_event g.event) g.fuel (answers g.statuses g.leftovers) left s' r t'' f v h.whole_time h.whole_leftovers q

module _ (F : Format) (kinds ns : List ℕ) (limits : List Float) (t : Tree) (e : table kinds ns limits ≡ good t) (b : T (boundable F t)) where
  step : Steps F (WholeTick F t 0) t (Is F t (shaped F kinds ns limits t e b) 0) (Ended F t (shaped F kinds ns limits t e b) 0)
  step = whole_step F t (shaped F kinds ns limits t e b) 0 (Is F t (shaped F kinds ns limits t e b) 0) (Ended F t (shaped F kinds ns limits t e b) 0) (λ t' k p. p)
      (λ t' k x s' r t'' f left p full q. after_state F t (shaped F kinds ns limits t e b) 0 t' k x s' r t'' (world f left) p q)

  pub states : (st : Standing) → st.record'.finished ≡ false → StateIn F t st.cells' → (cs : List Call) → WholeHistory F t 0 st cs
      → (after_all F st cs).record'.finished ≡ false → StateIn F t (after_all F st cs).cells'
  states st o v cs h u =
      rw u at (calls_keep F (WholeTick F t 0) t (Is F t (shaped F kinds ns limits t e b) 0) (Ended F t (shaped F kinds ns limits t e b) 0)
      (λ st' g n ok. ok.takes_up) step (first_state F kinds ns limits t e b) st cs h (rw o v))

  -- behind a restart, whatever stood before it
  pub state_restarted : (st : Standing) (g : Given) → T (is_ticked (restart_call F g).answer) → Asked F (WholeTick F t 0) st (restarts g)
      → (after F st (restarts g)).record'.finished ≡ false → StateIn F t (after F st (restarts g)).cells'
  state_restarted st g y h u =
      rw u at (restart_keeps F (WholeTick F t 0) t (Is F t (shaped F kinds ns limits t e b) 0) (Ended F t (shaped F kinds ns limits t e b) 0)
      (λ st' g n ok. ok.takes_up) step (first_state F kinds ns limits t e b) st g y h)
