-- A tree in a checked table, where each subtree's end is known, and whose limits are whole.
use Rattle.std.specs.Prelude.{◌≡◌, true, List, ℕ, zero, suc, ◌^◌, ◌≤◌, Float, get_or, length, Result, Ok, Err}
use Rattle.std.specs.Float.{Format, binary64}
use Rattle.rules.specs.declared.answer.BoundAnswer.{BoundAnswer}
use Rattle.rules.specs.Tree.{Tree, Forest, count}
use Rattle.rules.specs.Bound.{boundable, boundables, told}
use Rattle.lent.specs.declared.table.Table.{Table}
use Rattle.lent.specs.Lent.{rows_of}
use Rattle.limits.specs.Ticks.{Ticks, lim}
use Rattle.tables.specs.At.{At, Ats}

-- steps go from 1 to 2 ^ 40
pub record Step (d : ℕ) : Type 0 where
  pub some : 1 ≤ d
  pub most : d ≤ 2 ^ 40

-- what stands before a place is in the lent slices
pub record Room (kinds ns : List ℕ) (limits : List Float) (stop : ℕ) : Type 0 where
  pub in_kinds : stop ≤ length kinds
  pub in_ns : stop ≤ length ns
  pub in_limits : stop ≤ length limits
  pub in_ends : stop ≤ 256

module _ (F : Format) (kinds ns : List ℕ) (limits : List Float) (ends : List ℕ) where
  -- the tree begins at q
  pub record Stands (q : ℕ) (t : Tree) : Type 0 where
    pub held : At kinds ns limits ends q t
    pub whole : boundable F t ≡ true

  -- so many trees from q to stop
  pub record Stand (q many : ℕ) (ts : Forest) (stop : ℕ) : Type 0 where
    pub held : Ats kinds ns limits ends q ts stop
    pub whole : boundables F ts ≡ true
    pub are : count ts ≡ many

  pub record Ready (q : ℕ) : Type 0 where
    pub tree : Tree
    pub stands : Stands q tree
    pub room : Room kinds ns limits (get_or ends q 0)

  pub record Readys (q many : ℕ) : Type 0 where
    pub trees : Forest
    pub stop : ℕ
    pub stand : Stand q many trees stop
    pub room : Room kinds ns limits stop

-- where so many trees from q end
abbrev pub after : List ℕ → ℕ → ℕ → ℕ
after ends zero q = q
after ends (suc n) q = after ends n (get_or ends q 0)

-- ---- of a lent table
abbrev pub TreeAt : Table → List ℕ → ℕ → Tree → Type 0
TreeAt t = Stands binary64 t.kinds.now t.ns.now t.limits.now

abbrev pub TreesFrom : Table → List ℕ → ℕ → ℕ → Forest → ℕ → Type 0
TreesFrom t = Stand binary64 t.kinds.now t.ns.now t.limits.now

abbrev pub ReadyAt : Table → List ℕ → ℕ → Type 0
ReadyAt t = Ready binary64 t.kinds.now t.ns.now t.limits.now

abbrev pub ReadyFrom : Table → List ℕ → ℕ → ℕ → Type 0
ReadyFrom t = Readys binary64 t.kinds.now t.ns.now t.limits.now

-- the rows are those of one tree
pub record Rooted (t : Table) (ends : List ℕ) (u : Tree) : Type 0 where
  pub held : At t.kinds.now t.ns.now t.limits.now ends 0 u
  pub all : get_or ends 0 0 ≡ length (rows_of t)

-- the root's ticks as they are told, or the refusal
abbrev pub answer_of : Result Ticks BoundAnswer → BoundAnswer
answer_of (Ok r) = told (lim r)
answer_of (Err refused) = refused
