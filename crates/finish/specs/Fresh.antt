-- A fresh tree is valid.
use Rattle.std.specs.Prelude.{Bool, true, false, ℕ, ◌≤◌, T}
use Rattle.std.proofs.Common.{arith}
use Rattle.std.specs.Float.{Format}
use Rattle.rules.specs.declared.behavior.Kind.TheVariants.{Wait, WaitForever, Action, Invert, AlwaysSucceed, Timeout, Select, If, Sequence}
use Rattle.rules.specs.declared.behavior.Kind.TheVariants.{MemorylessSequence, MemorylessSelector, While, WhileAll, WhenAll, WhenAny, After, Race}
use Rattle.rules.specs.Tree.{zero_time, Tree, node, Forest, [], ◌◂◌, fresh, fresh_all, marked}
use Rattle.rules.specs.Bound.{num}
use Rattle.floats.specs.Times.{zero_num, zero_W}
use Rattle.laws.specs.Shape.{shape, shapes, fresh_unmarked}
use Rattle.finish.specs.Shaped.{Shaped, Shapeds, Shaped₁, Shaped₂, Shaped₃}
use Rattle.finish.specs.Enough.{unless}
use Rattle.finish.specs.Valid.{open_or_none, Valid, ValidAt, ValidLoop, ValidAll, ValidFrom, ValidMarks}

module _ (F : Format) where
  zero_under : (l : ℕ) → num zero_time ≤ l
  zero_under l = rw (zero_num F) (omega arith)

  pub use_all : (b : Bool) {X : Type 0} → X → unless b X
  use_all true x = tt
  use_all false x = x

  marks_of : (ts : Forest) → ValidAll F ts → ValidMarks F ts
  marks_of [] v = tt
  marks_of (t ◂ ts) v = (use_all (marked t) v.0, marks_of ts v.1)

  open_fresh : (ts : Forest) → T (open_or_none (fresh_all ts))
  unfolding fresh
  open_fresh [] = tt
  open_fresh (t ◂ ts) = rw (fresh_unmarked t) tt

  mutual
    unfolding fresh

    pub fresh_valid : (t : Tree) → Shaped F (shape t) → Valid F (fresh t)
    fresh_valid (node Wait n l c b ts) s = (zero_W F, zero_under (num l))
    fresh_valid (node WaitForever n l c b ts) s = tt
    fresh_valid (node Action n l c b ts) s = tt
    fresh_valid (node Invert n l c b ts) s = fresh_first ts s
    fresh_valid (node AlwaysSucceed n l c b ts) s = fresh_first ts s
    fresh_valid (node Timeout n l c b ts) s = (zero_W F, zero_under (num l), fresh_first ts s.1)
    fresh_valid (node Select n l c b ts) s = fresh_first ts s
    fresh_valid (node If n l c b ts) s = fresh_third ts s
    fresh_valid (node Sequence n l c b ts) s = fresh_first ts s
    fresh_valid (node MemorylessSequence n l c b ts) s = tt
    fresh_valid (node MemorylessSelector n l c b ts) s = tt
    fresh_valid (node While n l c b ts) s = fresh_loop ts s
    fresh_valid (node WhileAll n l c b ts) s = fresh_loop ts s
    fresh_valid (node WhenAll n l c b ts) s = (marks_of (fresh_all ts) (fresh_all_lem ts s), open_fresh ts)
    fresh_valid (node WhenAny n l c b ts) s = (marks_of (fresh_all ts) (fresh_all_lem ts s), open_fresh ts)
    fresh_valid (node After n l c b ts) s = fresh_from ts s
    fresh_valid (node Race n l c b ts) s = fresh_all_lem ts s

    pub fresh_first : (ts : Forest) → Shaped₁ F (shapes ts) → ValidAt F (fresh_all ts) 0
    fresh_first [] s = s
    fresh_first (t ◂ ts) s = fresh_valid t s.0

    fresh_third : (ts : Forest) → Shaped₃ F (shapes ts) → ValidAt F (fresh_all ts) 0
    fresh_third [] s = s
    fresh_third (t ◂ ts) s = fresh_valid t s.0

    fresh_loop : (ts : Forest) → Shaped₂ F (shapes ts) → ValidLoop F (fresh_all ts) 0
    fresh_loop [] s = s
    fresh_loop (t ◂ ts) s = (fresh_valid t s.0, fresh_first ts s.1)

    pub fresh_all_lem : (ts : Forest) → Shapeds F (shapes ts) → ValidAll F (fresh_all ts)
    fresh_all_lem [] s = tt
    fresh_all_lem (t ◂ ts) s = (fresh_valid t s.0, fresh_all_lem ts s.1)

    fresh_from : (ts : Forest) → Shaped₁ F (shapes ts) → ValidFrom F (fresh_all ts) 0
    fresh_from [] s = s
    fresh_from (t ◂ ts) s = (fresh_valid t s.0, fresh_all_lem ts s.1)
