-- Sequence and the memoryless forms: document 01, "One tick". Each driver is given the ticker of the children.
use Rattle.std.specs.Prelude.{ℕ, zero, suc}
use Rattle.rules.specs.declared.status.Status.TheVariants.{Running, Success, Failure}
use Rattle.rules.specs.declared.event.Event.{Event}
use Rattle.rules.specs.declared.event.Event.TheVariants.{Update, Other}
use Rattle.rules.specs.Tree.{Tree, Forest, [], ◌◂◌, fresh, fresh_all}
use Rattle.rules.specs.Outcome.{dt, rest, World, Out, done, Ticker, ◌▸◌, waiting}

-- a forest's first tree put back
abbrev pub keep : Tree → Out Forest → Out Forest
keep t o = o ▸ λ s r ts w. done s r (t ◂ ts) w

-- the same where the driver has a place, which goes up by one
abbrev pub pass : Tree → Out (ℕ × Forest) → Out (ℕ × Forest)
pass t o = o ▸ λ s r x w. done s r (suc x.0, t ◂ x.1) w

module _ (child : Ticker) where
  -- Sequence, from the child at the place on. The old and the new child are made fresh.
  unfoldable pub sequence_from : Event → Tree → Forest → World → Out (ℕ × Forest)
  unfolding fresh
  sequence_from e t [] w = child t e w ▸ λ s r t' w'. elim s [
    | Running ↦ waiting (0, t' ◂ []) w'
    | Failure ↦ done Failure r (0, t' ◂ []) w'
    | Success ↦ elim e [
      | Update x ↦ done Success r (1, t' ◂ []) w'
      | Other ↦ done Success r (0, t' ◂ []) w'
    ]
  ]
  sequence_from e t (u ◂ us) w = child t e w ▸ λ s r t' w'. elim s [
    | Running ↦ waiting (0, t' ◂ u ◂ us) w'
    | Failure ↦ done Failure r (0, t' ◂ u ◂ us) w'
    | Success ↦ elim e [
      | Update x ↦ pass (fresh t') (sequence_from (Update r) (fresh u) us w')
      | Other ↦ waiting (1, fresh t' ◂ fresh u ◂ us) w'
    ]
  ]

  -- the place p; past the last child: Running
  unfoldable pub sequence_at : ℕ → Event → Forest → World → Out (ℕ × Forest)
  unfolding sequence_from
  sequence_at p e [] w = waiting (p, []) w
  sequence_at zero e (t ◂ ts) w = sequence_from e t ts w
  sequence_at (suc p) e (t ◂ ts) w = pass t (sequence_at p e ts w)

  -- Memoryless: all children are made fresh first, and moving to a next one makes the old one fresh
  unfoldable pub memoryless : Event → Forest → World → Out Forest
  unfolding fresh
  memoryless e [] w = done Success (dt e) [] w
  memoryless e (t ◂ []) w = child (fresh t) e w ▸ λ s r t' w'. elim s [
    | Running ↦ waiting (t' ◂ []) w'
    | Failure ↦ done Failure r (t' ◂ []) w'
    | Success ↦ done Success (dt (rest r e)) (t' ◂ []) w'
  ]
  memoryless e (t ◂ u ◂ us) w = child (fresh t) e w ▸ λ s r t' w'. elim s [
    | Running ↦ waiting (t' ◂ fresh_all (u ◂ us)) w'
    | Failure ↦ done Failure r (t' ◂ fresh_all (u ◂ us)) w'
    | Success ↦ keep (fresh t') (memoryless (rest r e) (u ◂ us) w')
  ]
