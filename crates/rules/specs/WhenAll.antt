-- WhenAll, Race and After, which tick several children in one tick: document 01, "One tick".
use Rattle.std.specs.Prelude.{ℕ, zero, suc, Bool, true, false, cond, ◌&&◌, Float}
use Rattle.std.specs.Float.Ieee.{lt}
use Rattle.rules.specs.declared.status.Status.TheVariants.{Running, Success, Failure}
use Rattle.rules.specs.declared.event.Event.{Event}
use Rattle.rules.specs.Tree.{zero_time, Forest, [], ◌◂◌, fresh, marked, mark}
use Rattle.rules.specs.Outcome.{dt, World, Out, done, Ticker, ◌▸◌, waiting, smaller}
use Rattle.rules.specs.Sequence.{keep, pass}

module _ (child : Ticker) where
  -- WhenAll: every child without mark; `all`: each so far is marked; `least`: the least leftover so far
  unfoldable pub when_all_from : Event → Bool → Float → Forest → World → Out Forest
  unfolding fresh lt
  when_all_from e all least [] w = cond all (done Success least [] w) (waiting [] w)
  when_all_from e all least (t ◂ ts) w = elim (marked t) [
    | true ↦ keep t (when_all_from e all least ts w)
    | false ↦ child t e w ▸ λ s r t' w'. elim s [
      | Running ↦ keep t' (when_all_from e false least ts w')
      | Failure ↦ done Failure r (t' ◂ ts) w'
      | Success ↦ keep (mark (fresh t')) (when_all_from e all (smaller least r) ts w')
    ]
  ]

  -- no children: (Success, dt)
  unfoldable pub when_all : Float → Event → Forest → World → Out Forest
  unfolding when_all_from
  when_all top e [] w = done Success (dt e) [] w
  when_all top e (t ◂ ts) w = when_all_from e true top (t ◂ ts) w

  -- Race: the first that ends gives the result
  unfoldable pub race_from : Event → Forest → World → Out Forest
  race_from e [] w = waiting [] w
  race_from e (t ◂ ts) w = child t e w ▸ λ s r t' w'. elim s [
    | Running ↦ keep t' (race_from e ts w')
    | Success ↦ done Success r (t' ◂ ts) w'
    | Failure ↦ done Failure r (t' ◂ ts) w'
  ]

  -- After, from the place on. `next`: the child is the one at the place, that is, no child before it is Running
  unfoldable pub after_from : Event → Bool → Float → Forest → World → Out (ℕ × Forest)
  unfolding lt
  after_from e next least [] w = cond next (done Success least (0, []) w) (waiting (0, []) w)
  after_from e next least (t ◂ ts) w = child t e w ▸ λ s r t' w'. elim s [
    | Running ↦ after_from e false zero_time ts w' ▸ λ s'' r'' x w''. done s'' r'' (0, t' ◂ x.1) w''
    | Failure ↦ done Failure r (0, t' ◂ ts) w'
    | Success ↦ elim (next && lt r least) [
      | true ↦ pass t' (after_from e true r ts w')
      | false ↦ done Failure (smaller least r) (0, t' ◂ ts) w'
    ]
  ]

  -- the place p; `top` is the largest finite number
  unfoldable pub after_at : Float → ℕ → Event → Forest → World → Out (ℕ × Forest)
  unfolding after_from
  after_at top zero e ts w = after_from e true top ts w
  after_at top (suc p) e [] w = waiting (suc p, []) w
  after_at top (suc p) e (t ◂ ts) w = pass t (after_at top p e ts w)
