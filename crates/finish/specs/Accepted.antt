-- A table's tree that the finish bound does not refuse has the children that its kinds need, and whole limits.
use Rattle.std.proofs.Math.Bool.{true, not}
use Rattle.std.specs.Prelude.{cond, ◌&&◌, ℕ, ◌≤◌, T, Float}
use Rattle.std.proofs.Common.{not-suc-le-zero, le_of_suc-le-suc, arith}
use Rattle.std.proofs.Math.Dec.{eqb}
use Rattle.std.specs.Float.{Format}
use Rattle.std.specs.Float.Ieee.Fits.{and_l, and_r}
use Rattle.rules.specs.declared.behavior.Kind.{Kind}
use Rattle.rules.specs.declared.behavior.Kind.TheVariants.{Wait, WaitForever, Action, Invert, AlwaysSucceed, Timeout, Select, If, Sequence}
use Rattle.rules.specs.declared.behavior.Kind.TheVariants.{MemorylessSequence, MemorylessSelector, While, WhileAll, WhenAll, WhenAny, After, Race}
use Rattle.rules.specs.Kinds.{is, timed}
use Rattle.rules.specs.Tree.{Cell, Tree, node, Forest, [], ◌◂◌, count}
use Rattle.rules.specs.Bound.{whole_time, boundable, boundables}
use Rattle.laws.specs.Shape.{shape, shapes}
use Rattle.laws.specs.Tables.{Tabled, Tableds, at_least}
use Rattle.floats.specs.Times.{whole_W}
use Rattle.finish.specs.Shaped.{Shaped, Shapeds, Shaped₁, Shaped₂, Shaped₃}

some : (ts : Forest) → T (not (eqb (count ts) 0)) → 1 ≤ count ts
some [] h = absurd h
some (t ◂ ts) h = omega arith

module _ (F : Format) where
  one : (ts : Forest) → 1 ≤ count ts → Shapeds F (shapes ts) → Shaped₁ F (shapes ts)
  one [] h s = not-suc-le-zero h
  one (t ◂ ts) h s = s

  two : (ts : Forest) → 2 ≤ count ts → Shapeds F (shapes ts) → Shaped₂ F (shapes ts)
  two [] h s = not-suc-le-zero h
  two (t ◂ ts) h s = (s.0, one ts (le_of_suc-le-suc h) s.1)

  three : (ts : Forest) → 3 ≤ count ts → Shapeds F (shapes ts) → Shaped₃ F (shapes ts)
  three [] h s = not-suc-le-zero h
  three (t ◂ ts) h s = (s.0, two ts (le_of_suc-le-suc h) s.1)

  -- the parts of the bound's test
  module _ (k : Kind) (n : ℕ) (l : Float) (c : Cell) (b : ℕ) (ts : Forest) (h : T (boundable F (node k n l c b ts))) where
    limits : T (cond (timed k) (whole_time F l) true)
    unfolding boundable
    limits =
        and_l (cond (timed k) (whole_time F l) true) (not (is k After && eqb (count ts) 0)) (and_l (cond (timed k) (whole_time F l) true && not (is k After && eqb (count ts) 0)) (boundables F ts) h)

    afters : T (not (is k After && eqb (count ts) 0))
    unfolding boundable
    afters =
        and_r (cond (timed k) (whole_time F l) true) (not (is k After && eqb (count ts) 0)) (and_l (cond (timed k) (whole_time F l) true && not (is k After && eqb (count ts) 0)) (boundables F ts) h)

    below : T (boundables F ts)
    unfolding boundable
    below = and_r (cond (timed k) (whole_time F l) true && not (is k After && eqb (count ts) 0)) (boundables F ts) h

  mutual
    unfolding boundable

    pub accepted : (t : Tree) → Tabled t → T (boundable F t) → Shaped F (shape t)
    accepted (node Wait n l c b ts) r h = whole_W F l (limits Wait n l c b ts h)
    accepted (node WaitForever n l c b ts) r h = tt
    accepted (node Action n l c b ts) r h = tt
    accepted (node Invert n l c b ts) r h = one ts (at_least Invert n (count ts) r.0 r.1) (accepted_all ts r.5 (below Invert n l c b ts h))
    accepted (node AlwaysSucceed n l c b ts) r h = one ts (at_least AlwaysSucceed n (count ts) r.0 r.1) (accepted_all ts r.5 (below AlwaysSucceed n l c b ts h))
    accepted (node Timeout n l c b ts) r h = (whole_W F l (limits Timeout n l c b ts h), one ts (at_least Timeout n (count ts) r.0 r.1) (accepted_all ts r.5 (below Timeout n l c b ts h)))
    accepted (node Select n l c b ts) r h = one ts (at_least Select n (count ts) r.0 r.1) (accepted_all ts r.5 (below Select n l c b ts h))
    accepted (node If n l c b ts) r h = three ts (at_least If n (count ts) r.0 r.1) (accepted_all ts r.5 (below If n l c b ts h))
    accepted (node Sequence n l c b ts) r h = one ts (at_least Sequence n (count ts) r.0 r.1) (accepted_all ts r.5 (below Sequence n l c b ts h))
    accepted (node MemorylessSequence n l c b ts) r h = accepted_all ts r.5 (below MemorylessSequence n l c b ts h)
    accepted (node MemorylessSelector n l c b ts) r h = accepted_all ts r.5 (below MemorylessSelector n l c b ts h)
    accepted (node While n l c b ts) r h = two ts (at_least While n (count ts) r.0 r.1) (accepted_all ts r.5 (below While n l c b ts h))
    accepted (node WhileAll n l c b ts) r h = two ts (at_least WhileAll n (count ts) r.0 r.1) (accepted_all ts r.5 (below WhileAll n l c b ts h))
    accepted (node WhenAll n l c b ts) r h = accepted_all ts r.5 (below WhenAll n l c b ts h)
    accepted (node WhenAny n l c b ts) r h = accepted_all ts r.5 (below WhenAny n l c b ts h)
    accepted (node After n l c b ts) r h = one ts (some ts (afters After n l c b ts h)) (accepted_all ts r.5 (below After n l c b ts h))
    accepted (node Race n l c b ts) r h = accepted_all ts r.5 (below Race n l c b ts h)

    accepted_all : (ts : Forest) → Tableds ts → T (boundables F ts) → Shapeds F (shapes ts)
    accepted_all [] r h = tt
    accepted_all (t ◂ ts) r h = (accepted t r.0 (and_l (boundable F t) (boundables F ts) h), accepted_all ts r.1 (and_r (boundable F t) (boundables F ts) h))
