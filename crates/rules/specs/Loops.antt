-- While and WhileAll: document 01, "One tick". Structural over a budget: each turn visits a child, so one more than the fuel is never too little.
use Rattle.std.specs.Prelude.{ℕ, zero, suc, cond, nat_lt}
use Rattle.rules.specs.declared.status.Status.TheVariants.{Running, Success, Failure}
use Rattle.rules.specs.declared.event.Event.{Event}
use Rattle.rules.specs.declared.event.Event.TheVariants.{Update, Other}
use Rattle.rules.specs.Tree.{Tree, Forest, [], ◌◂◌, fresh, count}
use Rattle.rules.specs.Outcome.{rest, World, world, Out, done, short, Ticker, ◌▸◌, waiting}

abbrev pub budget : World → ℕ
budget (world f ans) = suc f

abbrev pub nth : ℕ → Forest → Out Tree → (Tree → Out Tree) → Out Tree
nth p [] o k = o
nth zero (t ◂ ts) o k = k t
nth (suc p) (t ◂ ts) o k = nth p ts o k

abbrev pub put : ℕ → Tree → Forest → Forest
put p u [] = []
put zero u (t ◂ ts) = u ◂ ts
put (suc p) u (t ◂ ts) = t ◂ put p u ts

abbrev pub fresh_at : ℕ → Forest → Forest
fresh_at p [] = []
fresh_at zero (t ◂ ts) = fresh t ◂ ts
fresh_at (suc p) (t ◂ ts) = t ◂ fresh_at p ts

-- the next body index, after the last 0
abbrev pub next : ℕ → Forest → ℕ
next p ts = cond (nat_lt (suc p) (count ts)) (suc p) 0

-- the body after a success at p: the old and the new child made fresh
abbrev pub moved : ℕ → Tree → Forest → Forest
moved p t ts = fresh_at (next p ts) (fresh_at p (put p t ts))

module _ (child : Ticker) where
  -- child p of the forest
  abbrev pub child_at : ℕ → Event → Forest → World → Out Tree
  child_at p e ts w = nth p ts short λ t. child t e w

  -- While's body, from the child at the place
  unfoldable pub while_body : ℕ → ℕ → Event → Forest → World → Out (ℕ × Forest)
  unfolding fresh
  while_body zero p e ts w = short
  while_body (suc budget) p e ts w = child_at p e ts w ▸ λ s r t' w'. elim s [
    | Running ↦ waiting (p, put p t' ts) w'
    | Failure ↦ done Failure r (p, put p t' ts) w'
    | Success ↦ elim e [
      | Update x ↦ while_body budget (next p ts) (Update r) (moved p t' ts) w'
      | Other ↦ waiting (p, put p t' ts) w'
    ]
  ]

  -- WhileAll: p = 0, the condition is due and gets the whole event; p = k + 1, the body child k gets the rest
  unfoldable pub while_all : ℕ → Event → ℕ → Event → Tree → Forest → World → Out (ℕ × Forest)
  unfolding fresh
  while_all zero whole p e c ts w = short
  while_all (suc budget) whole zero e c ts w = child c whole w ▸ λ s r c' w'. elim s [
    | Running ↦ while_all budget whole 1 e c' ts w'
    | Success ↦ done Success r (1, c' ◂ ts) w'
    | Failure ↦ done Failure r (1, c' ◂ ts) w'
  ]
  while_all (suc budget) whole (suc p) e c ts w = child_at p e ts w ▸ λ s r t' w'. elim s [
    | Running ↦ waiting (suc p, c ◂ put p t' ts) w'
    | Failure ↦ done Failure r (suc p, c ◂ put p t' ts) w'
    | Success ↦ while_all budget whole (cond (nat_lt (suc p) (count ts)) (suc (suc p)) 0) (rest r e) c (moved p t' ts) w'
  ]
