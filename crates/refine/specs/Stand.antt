-- Trees that stand in the table.
use Rattle.std.specs.Prelude.{◌≡◌, refl, Bool, true, false, cond, List, ltb, Float}
use Rattle.std.proofs.Common.{ap, not-suc-le-zero, le_of_suc-le-suc, arith, lt-ltb, le-ltb}
use Prim.Native.Nat.{ℕ, zero, suc, ◌+◌, ◌^◌, ◌≤◌, ◌<◌}
use Rattle.std.proofs.Math.Decide.{dec_lt}
use Rattle.rules.specs.declared.behavior.Kind.{Kind}
use Rattle.rules.specs.Tree.{Cell, Tree, node, Forest, [], ◌◂◌, fresh, fresh_all, mark, size, sizes, count}
use Rattle.rules.specs.Loops.{fresh_at}
use Rattle.refine.specs.Words.{Row, Fits, FitsAll}

-- what a walk is given, and where each subtree of the table ends
pub record Given : Type 0 where
  pub ns : List ℕ
  pub limits : List Float
  pub statuses : List ℕ
  pub leftovers : List Float
  pub update : Bool
  pub fuel : ℕ
  pub ends : ℕ → ℕ
  pub nodes : ℕ
  pub room : nodes ≤ 256
  pub small : fuel < 2 ^ 32

-- a node at q, with its place and mark
pub record Placed (G : Given) (q : ℕ) (k : Kind) (n : ℕ) (l : Float) (kids p m : ℕ) : Type 0 where
  pub row : Row G.ns G.limits q k n l kids
  pub place : p ≤ kids
  pub mark : m < 2
  pub room : G.ends q ≤ G.nodes

count_fresh : (ts : Forest) → count (fresh_all ts) ≡ count ts
unfolding fresh
count_fresh [] = refl
count_fresh (t ◂ ts) = ap (λ (z : ℕ). suc z) (count_fresh ts)

pub count_sizes : (ts : Forest) → count ts ≤ sizes ts
unfolding size
count_sizes [] = omega arith
count_sizes (node k n l c b us ◂ ts) = omega (arith, count_sizes ts)

module _ (G : Given) where
  -- the tree t, at most d deep, stands at q; the trees ts stand from q to stop
  abbrev mutual
    pub At : ℕ → Tree → ℕ → Type 0
    At q (node k n l c b ts) zero = ⊥
    At q (node k n l c b ts) (suc d) = Placed G q k n l (count ts) c.place c.mark × Ats (suc q) ts (G.ends q) d

    pub Ats : ℕ → Forest → ℕ → ℕ → Type 0
    Ats q [] stop d = q ≡ stop
    Ats q (t ◂ ts) stop d = At q t d × Ats (G.ends q) ts stop d

  mutual
    unfolding Fits

    pub at_fits : (q : ℕ) (t : Tree) (d : ℕ) → At q t d → Fits t
    at_fits q (node k n l c b ts) zero v = absurd v
    at_fits q (node k n l c b ts) (suc d) v = ((v.0.place, v.0.mark), ats_fit (suc q) ts (G.ends q) d v.1)

    ats_fit : (q : ℕ) (ts : Forest) (stop d : ℕ) → Ats q ts stop d → FitsAll ts
    ats_fit q [] stop d v = tt
    ats_fit q (t ◂ ts) stop d v = (at_fits q t d v.0, ats_fit (G.ends q) ts stop d v.1)

  mutual
    unfolding size

    pub at_size : (q : ℕ) (t : Tree) (d : ℕ) → At q t d → G.ends q ≡ q + size t
    at_size q (node k n l c b ts) zero v = absurd v
    at_size q (node k n l c b ts) (suc d) v = omega (arith, ats_size (suc q) ts (G.ends q) d v.1)

    pub ats_size : (q : ℕ) (ts : Forest) (stop d : ℕ) → Ats q ts stop d → stop ≡ q + sizes ts
    ats_size q [] stop d v = omega (arith, v)
    ats_size q (t ◂ ts) stop d v = omega (arith, at_size q t d v.0, ats_size (G.ends q) ts stop d v.1)

  pub at_room : (q : ℕ) (t : Tree) (d : ℕ) → At q t d → (q < G.ends q) × (G.ends q ≤ G.nodes)
  unfolding size
  at_room q (node k n l c b ts) zero v = absurd v
  at_room q (node k n l c b ts) (suc d) v = (omega (arith, at_size q (node k n l c b ts) (suc d) v), v.0.room)

  pub at_mark_small : (q : ℕ) (k : Kind) (n : ℕ) (l : Float) (c : Cell) (b : ℕ) (ts : Forest) (d : ℕ) → At q (node k n l c b ts) d → c.mark < 2
  at_mark_small q k n l c b ts zero v = absurd v
  at_mark_small q k n l c b ts (suc d) v = v.0.mark

  mutual
    unfolding fresh

    pub at_fresh : (q : ℕ) (t : Tree) (d : ℕ) → At q t d → At q (fresh t) d
    at_fresh q (node k n l c b ts) zero v = absurd v
    at_fresh q (node k n l c b ts) (suc d) v =
        (record { row = rw (count_fresh ts) v.0.row; place = omega arith; mark = omega arith; room = v.0.room }, ats_fresh (suc q) ts (G.ends q) d v.1)

    pub ats_fresh : (q : ℕ) (ts : Forest) (stop d : ℕ) → Ats q ts stop d → Ats q (fresh_all ts) stop d
    ats_fresh q [] stop d v = v
    ats_fresh q (t ◂ ts) stop d v = (at_fresh q t d v.0, ats_fresh (G.ends q) ts stop d v.1)

  pub ats_fresh_at : (ts : Forest) (i q stop d : ℕ) → Ats q ts stop d → Ats q (fresh_at i ts) stop d
  ats_fresh_at [] i q stop d vs = vs
  ats_fresh_at (t ◂ ts) zero q stop d vs = (at_fresh q t d vs.0, vs.1)
  ats_fresh_at (t ◂ ts) (suc i) q stop d vs = (vs.0, ats_fresh_at ts i (G.ends q) stop d vs.1)

  pub at_mark : (q : ℕ) (t : Tree) (d : ℕ) → At q t d → At q (mark t) d
  at_mark q (node k n l c b ts) zero v = absurd v
  at_mark q (node k n l c b ts) (suc d) v = (record { row = v.0.row; place = v.0.place; mark = omega arith; room = v.0.room }, v.1)

  pub ats_less : (q : ℕ) (t : Tree) (ts : Forest) (stop d : ℕ) → Ats q (t ◂ ts) stop d → q < stop
  ats_less q t ts stop d v = omega (arith, at_room q t d v.0, ats_size (G.ends q) ts stop d v.1)

  -- two forests in one stretch of the table are as many
  pub ats_count : (q : ℕ) (ts us : Forest) (stop d : ℕ) → Ats q ts stop d → Ats q us stop d → count ts ≡ count us
  ats_count q [] [] stop d v w = refl
  ats_count q [] (u ◂ us) stop d v w = absurd (let z : q < stop = ats_less q u us stop d w in omega arith)
  ats_count q (t ◂ ts) [] stop d v w = absurd (let z : q < stop = ats_less q t ts stop d v in omega arith)
  ats_count q (t ◂ ts) (u ◂ us) stop d v w = ap (λ (z : ℕ). suc z) (ats_count (G.ends q) ts us stop d v.1 w.1)

  -- where child i of those that begin at q begins
  abbrev pub spot : ℕ → ℕ → ℕ
  spot zero q = q
  spot (suc i) q = spot i (G.ends q)

  spot_next : (i q : ℕ) → G.ends (spot i q) ≡ spot i (G.ends q)
  spot_next zero q = refl
  spot_next (suc i) q = spot_next i (G.ends q)

  pub spot_less : (ts : Forest) (i q stop d : ℕ) → Ats q ts stop d → i < count ts → spot i q < stop
  spot_less [] i q stop d v l = absurd (not-suc-le-zero l)
  spot_less (t ◂ ts) zero q stop d v l = ats_less q t ts stop d v
  spot_less (t ◂ ts) (suc i) q stop d v l = spot_less ts i (G.ends q) stop d v.1 (le_of_suc-le-suc l)

  spot_count : (ts : Forest) (q stop d : ℕ) → Ats q ts stop d → spot (count ts) q ≡ stop
  spot_count [] q stop d v = v
  spot_count (t ◂ ts) q stop d v = spot_count ts (G.ends q) stop d v.1

  -- the last child, and the child behind, after the last the first
  pub spot_last : (ts : Forest) (i q stop d : ℕ) → Ats q ts stop d → i < count ts → ltb (G.ends (spot i q)) stop ≡ ltb (suc i) (count ts)
  spot_last ts i q stop d vs l = elim (dec_lt (suc i) (count ts)) [
    | yes o ↦ rw (lt-ltb (suc i) (count ts) o) (lt-ltb (G.ends (spot i q)) stop (rw (spot_next i q) (spot_less ts (suc i) q stop d vs o)))
    | no o ↦
        let m : suc i ≡ count ts = omega arith in
        rw (le-ltb (suc i) (count ts) (omega arith)) (le-ltb (G.ends (spot i q)) stop (omega (arith, spot_next i q, rw (← m) at (spot_count ts q stop d vs))))
  ]

  pub spot_after : (c : Bool) (i q : ℕ) → cond c (G.ends (spot i q)) q ≡ spot (cond c (suc i) 0) q
  spot_after true i q = spot_next i q
  spot_after false i q = refl
