-- Demand 3, one tick of a tree: a state of the tree stays one, and a tick of d or more takes one from the number of ticks that are still enough.
-- The tick has a whole time, and the answers that it used have whole leftovers.
use Rattle.std.specs.Prelude.{◌≡◌, List, ℕ, zero, suc, ◌+◌, ◌-◌, ◌≤◌, ◌<◌, length, take, Float}
use Rattle.std.proofs.Common.{◌∙◌, le_refl, arith}
use Rattle.std.specs.Float.{Format}
use Rattle.rules.specs.declared.status.Status.{Status}
use Rattle.rules.specs.declared.status.Status.TheVariants.{Running, Success, Failure}
use Rattle.rules.specs.declared.event.Event.TheVariants.{Update}
use Rattle.rules.specs.Tree.{Tree, fresh}
use Rattle.rules.specs.Outcome.{World, world, done}
use Rattle.rules.specs.State.{tick}
use Rattle.rules.specs.Bound.{num, within, bound}
use Rattle.laws.specs.Shape.{shape, fresh_shape}
use Rattle.laws.specs.Memory.{clear, clear_shape}
use Rattle.laws.specs.Invariant.{After}
use Rattle.laws.proofs.Used.{used_alone}
use Rattle.floats.specs.Times.{W}
use Rattle.finish.specs.Shaped.{Shaped}
use Rattle.finish.specs.Enough.{Still}
use Rattle.finish.specs.Valid.{Valid}
use Rattle.finish.specs.Fresh.{fresh_valid}
use Rattle.finish.specs.Ranks.{still_pos, valid_still}
use Rattle.finish.specs.Boards.{valid_clear, still_clear}
use Rattle.finish.specs.Post.{WAll, TickQ}
use Rattle.finish.specs.Ticks.{tick_told}
use Rattle.finish.specs.Bounds.{enough}

module _ (F : Format) where
  -- t' is a state of the tree t
  abbrev pub State : Tree → Tree → Type 0
  State t t' = (shape t' ≡ shape t) × Valid F t'

  pub fresh_state : (t : Tree) → Shaped F (shape t) → State t (fresh t)
  fresh_state t s = (fresh_shape t, fresh_valid F t s)

  -- a state is one between two ticks too
  pub clear_state : (t t' : Tree) → State t t' → State t (clear t')
  clear_state t t' st = (clear_shape t' ∙ st.0, valid_clear F t' st.1)

  module _ (t : Tree) (s : Shaped F (shape t)) (d : ℕ) where
    -- ---- a tick that is done
    pub whole_tick : (depth : ℕ) (t' : Tree) (x : Float) (fuel : ℕ) (ans left : List (Status × Float)) (s' : Status) (r : Float) (t'' : Tree) (f : ℕ) → State t t'
        → W F x → WAll F (take (length ans - length left) ans) → tick F depth t' (Update x) (world fuel ans) ≡ done s' r t'' (world f left) → TickQ F d (Update x) t' s' r t''
    whole_tick depth t' x fuel ans left s' r t'' f st wx wa q =
        tick_told F d depth t' (Update x) (world fuel (take (length ans - length left) ans)) s' r t'' (world f List.[]) (rw st.0 s) st.1 wx wa
        (used_alone F depth t' (Update x) fuel s' r t'' f ans left q)

    -- ---- a state stays a state, with a bound or without
    abbrev pub Is : Tree → ℕ → Type 0
    Is t' k = State t t'

    abbrev pub Ended : ℕ → Type 0
    Ended k = Unit {0}

    pub after_state : (t' : Tree) (k : ℕ) (x : Float) (s' : Status) (r : Float) (t'' : Tree) (w : World) → Is t' k → TickQ F d (Update x) t' s' r t'' → After t Is Ended k (done s' r t'' w)
    after_state t' k x Running r t'' w st h = let same = h.0.0 ∙ st.0 in (same, clear_state t t'' (same, h.1.0))
    after_state t' k x Success r t'' w st h = tt
    after_state t' k x Failure r t'' w st h = tt

    -- ---- and the bound of N ticks is kept to
    module _ (pos : 0 < d) (N : ℕ) where
      -- after k ticks i more are enough, and together they are N; or it is over by then
      abbrev pub Going : Tree → ℕ → Type 0
      Going t' k = State t t' × ((i : ℕ) × (k + i ≡ N) × Still d t' i)

      abbrev pub Over : ℕ → Type 0
      Over k = k ≤ N

      -- the ticks still needed are at most the bound, for every state
      pub start : (t' : Tree) → State t t' → bound d t ≡ within N → Going t' 0
      start t' st e = (st, (N, omega arith, valid_still F d t' N st.1 (rw st.0 (enough F d pos t N s (rw e (le_refl N))))))

      down : (t' t'' : Tree) (k i : ℕ) → k + i ≡ N → Still d t' i → ((j : ℕ) → Still d t' (suc j) → Still d t'' j) → (j : ℕ) × (suc k + j ≡ N) × Still d (clear t'') j
      down t' t'' k zero e l f = absurd (still_pos F d t' l)
      down t' t'' k (suc i) e l f = (i, omega arith, still_clear d t'' i (f i l))

      over : (t' : Tree) (k i : ℕ) → k + i ≡ N → Still d t' i → suc k ≤ N
      over t' k zero e l = absurd (still_pos F d t' l)
      over t' k (suc i) e l = omega arith

      pub after_tick : (t' : Tree) (k : ℕ) (x : Float) (s' : Status) (r : Float) (t'' : Tree) (w : World) → Going t' k → d ≤ num x → TickQ F d (Update x) t' s' r t''
          → After t Going Over k (done s' r t'' w)
      after_tick t' k x Running r t'' w v full h =
          (h.0.0 ∙ v.0.0, (clear_state t t'' (h.0.0 ∙ v.0.0, h.1.0), down t' t'' k v.1.0 v.1.1 v.1.2 (h.1.1 full)))
      after_tick t' k x Success r t'' w v full h = over t' k v.1.0 v.1.1 v.1.2
      after_tick t' k x Failure r t'' w v full h = over t' k v.1.0 v.1.1 v.1.2

      pub in_time : (t' : Tree) (k : ℕ) → Going t' k → k < N
      in_time t' k v = over t' k v.1.0 v.1.1 v.1.2
