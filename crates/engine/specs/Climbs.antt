-- What the ways down and up keep.
use Rattle.std.specs.Prelude.{◌≡◌, true, List, ℕ, ◌+◌, ◌-◌, ◌<◌, ◌≤◌, Float}
use Rattle.std.specs.Float.{Format}
use Rattle.rules.specs.Levels.{Levels, levels, cleared}
use Rattle.work.specs.declared.result.Seen.{Seen}
use Rattle.work.specs.declared.result.Seen.TheVariants.{Stopped}
use Rattle.work.specs.Word.{kind_in}
use Rattle.work.specs.Array.{word_at, fuel_of}
use Rattle.work.specs.Flat.{Out, out, Lent, lent, is_decorator, visiting}
use Rattle.turns.specs.declared.level.Level.{Level}
use Rattle.engine.specs.declared.climb.Stand.{Stand}
use Rattle.engine.specs.declared.climb.Risen.{Risen}
use Rattle.engine.specs.declared.climb.Risen.TheVariants.{Due, Done}
use Rattle.engine.specs.Stands.{decorator_level, through, around, Held}

-- so many nodes are open, and the child of the innermost is due with x; or it has given a result
abbrev pub due_at : Format → Lent → ℕ → Level → Float → Levels → List ℕ → List Float → Out
due_at F T n e x r ws ts = around F T n e r (visiting F T (16 - n) e.child x ws ts)

abbrev pub given_at : Format → Lent → ℕ → Level → Seen → Float → Levels → List ℕ → List Float → Out
given_at F T n e s l r ws ts = around F T n e r (out s l ws ts)

-- down from where a child is due to where one has given a result, for one of the fuel or more
pub record Downs
    (F : Format) (T : Lent)
    (n : ℕ) (e : Level) (x : Float) (r : Levels) (ws : List ℕ) (ts : List Float)
    (n' : ℕ) (e' : Level) (s' : Seen) (l' : Float) (r' : Levels) (ws' : List ℕ) (ts' : List Float) : Type 0 where
  pub same : due_at F T n e x r ws ts ≡ given_at F T n' e' s' l' r' ws' ts'
  pub held : Held n' e' r'
  pub behind : cleared r' ≡ cleared r
  pub less : (s' ≡ Stopped → ⊥) → fuel_of ws' < fuel_of ws

-- the child of the decorator at p is one itself, and can be opened
pub record Next (n p : ℕ) (ws : List ℕ) : Type 0 where
  pub few : n < 16
  pub place : p < 254
  pub some : fuel_of ws ≡ 0 → ⊥
  pub another : is_decorator (kind_in (word_at ws (p + 1))) ≡ true

abbrev pub decorator_at : List ℕ → ℕ → Float → Level
decorator_at ws p x = decorator_level (kind_in (word_at ws p)) p x

-- down from the decorator at p, the innermost of n open nodes, through those below it to the one at p'
pub record Opens (F : Format) (n p : ℕ) (x : Float) (r : Levels) (ws : List ℕ) (p' : ℕ) (r' : Levels) (ws' : List ℕ) : Type 0 where
  pub from : p ≤ p'
  pub place : p' < 255
  pub same : (T : Lent) (ts : List Float) → due_at F T n (decorator_at ws p x) x r ws ts ≡ due_at F T (n + (p' - p)) (decorator_at ws' p' x) x r' ws' ts
  pub held : Held (n + (p' - p)) (decorator_at ws' p' x) r'
  pub behind : cleared r' ≡ cleared r
  pub fuel : fuel_of ws' ≤ fuel_of ws

-- up through the decorators in the innermost of n entries, whatever else the entries hold
pub record Closes
    (F : Format) (limits : List Float) (opens : List ℕ) (wholes : List Float)
    (n : ℕ) (s : Seen) (l : Float) (ws : List ℕ) (ts : List Float) (n' : ℕ) (s' : Seen) (l' : Float) (ws' : List ℕ) (ts' : List Float) : Type 0 where
  pub few : n' ≤ n
  pub same : (a cs : List ℕ) (b rs : List Float) → let T = lent limits a b in let r = levels opens cs wholes rs in
      through F T n r (out s l ws ts) ≡ through F T n' r (out s' l' ws' ts')
  pub fuel : fuel_of ws' ≡ fuel_of ws

-- what comes of where a way up ends: a child is due, or that is the result
abbrev pub risen_at : Format → Lent → Risen → Levels → List ℕ → List Float → Out
risen_at F T (Due t x) r ws ts = due_at F T t.deep t.level x r ws ts
risen_at F T (Done v) r ws ts = out v.seen v.left ws ts

-- what holds of where a child is due
abbrev pub IfDue : (Stand → Type 0) → Risen → Type 0
IfDue P (Due t x) = P t
IfDue P (Done v) = Unit {0}

-- up from where a child has given a result to where one is due, or to the end
pub record Ups
    (F : Format) (T : Lent) (r : Levels)
    (n : ℕ) (e : Level) (s : Seen) (l : Float) (ws : List ℕ) (ts : List Float)
    (u : Risen) (ws' : List ℕ) (ts' : List Float) : Type 0 where
  pub same : given_at F T n e s l r ws ts ≡ risen_at F T u r ws' ts'
  pub held : IfDue (λ t. Held t.deep t.level r) u
  pub going : IfDue (λ t. s ≡ Stopped → ⊥) u
  pub fuel : fuel_of ws' ≤ fuel_of ws
