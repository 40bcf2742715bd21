-- The tree with a branch replaced: how many nodes it has, and how deep it is.
use mathlib.Core.Path.{◌≡◌}
use mathlib.Core.List.{List}
use Prim.Native.Nat.{ℕ, zero, suc, ◌+◌, ◌-◌, ◌≤◌, ◌<◌, max}
use native.Mathlib.Nat.{add-zero}
use native.Mathlib.Omega.{arith}
use lib.Ieee.{Float}
use lib.ListN.{get_or}
use Rattle.rules.specs.declared.behavior.Kind.{Kind}
use Rattle.rules.specs.Tree.{Cell, Tree, node, Forest, [], ◌◂◌, size, sizes, depth, depths}
use Rattle.rules.specs.Exchange.{replaced, replaced_in, size_at, size_in}
use Rattle.branch.specs.Each.{Each, EachAll}
use Rattle.branch.specs.Way.{above, above_in}
use Rattle.laws.specs.Tests.{below_or_not}
use Rattle.branch.proofs.Eachs.{each_end}

module _ (u : Tree) where
  mutual
    unfolding size replaced size_at

    pub size_replaced : (t : Tree) (p : ℕ) → p < size t → size (replaced t p u) + size_at t p ≡ size t + size u
    size_replaced (node k n l c b ts) zero h = omega arith
    size_replaced (node k n l c b ts) (suc p) h = omega (arith, sizes_replaced ts p (omega arith))

    sizes_replaced : (ts : Forest) (p : ℕ) → p < sizes ts → sizes (replaced_in ts p u) + size_in ts p ≡ sizes ts + size u
    sizes_replaced [] p h = absurd (omega arith)
    sizes_replaced (t ◂ ts) p h = below_or_not p (size t)
        (λ e m. rw e (omega (arith, size_replaced t p m)))
        (λ e m. rw e (omega (arith, sizes_replaced ts (p - size t) (omega arith))))

  mutual
    unfolding size depth replaced above

    -- the branch is so deep down
    pub depth_low : (t : Tree) (p : ℕ) → p < size t → above t p + depth u ≤ depth (replaced t p u)
    depth_low (node k n l c b ts) zero h = omega arith
    depth_low (node k n l c b ts) (suc p) h = omega (arith, depths_low ts p (omega arith))

    depths_low : (ts : Forest) (p : ℕ) → p < sizes ts → above_in ts p + depth u ≤ depths (replaced_in ts p u)
    depths_low [] p h = absurd (omega arith)
    depths_low (t ◂ ts) p h = below_or_not p (size t)
        (λ e m. rw e (omega (arith, depth_low t p m)))
        (λ e m. rw e (omega (arith, depths_low ts (p - size t) (omega arith))))

  mutual
    unfolding size depth replaced above

    -- and nothing else is deeper than it was
    pub depth_high : (t : Tree) (p : ℕ) → p < size t → depth (replaced t p u) ≤ max (depth t) (above t p + depth u)
    depth_high (node k n l c b ts) zero h = omega arith
    depth_high (node k n l c b ts) (suc p) h = omega (arith, depths_high ts p (omega arith))

    depths_high : (ts : Forest) (p : ℕ) → p < sizes ts → depths (replaced_in ts p u) ≤ max (depths ts) (above_in ts p + depth u)
    depths_high [] p h = absurd (omega arith)
    depths_high (t ◂ ts) p h = below_or_not p (size t)
        (λ e m. rw e (omega (arith, depth_high t p m)))
        (λ e m. rw e (omega (arith, depths_high ts (p - size t) (omega arith))))

mutual
  unfolding size above

  -- no more nodes stand above a node than before it
  pub above_low : (t : Tree) (p : ℕ) → above t p ≤ p
  above_low (node k n l c b ts) zero = omega arith
  above_low (node k n l c b ts) (suc p) = omega (arith, aboves_low ts p)

  aboves_low : (ts : Forest) (p : ℕ) → above_in ts p ≤ p
  aboves_low [] p = omega arith
  aboves_low (t ◂ ts) p = below_or_not p (size t) (λ e m. rw e (above_low t p)) (λ e m. rw e (omega (arith, aboves_low ts (p - size t))))

-- where the branch ends
module _ (ends : List ℕ) (P : ℕ → Kind → ℕ → Float → Cell → Type 0) where
  mutual
    unfolding size size_at

    pub branch_end : (t : Tree) (q p : ℕ) → Each ends P q t → p < size t → get_or ends (q + p) 0 ≡ q + p + size_at t p
    branch_end (node k n l c b ts) q zero h m = rw (add-zero q) (each_end ends P (node k n l c b ts) q h)
    branch_end (node k n l c b ts) q (suc p) h m =
        let z : q + suc p ≡ suc q + p = omega arith in
        rw z (omega (arith, branches_end ts (suc q) p (get_or ends q 0) h.1 (omega arith)))

    branches_end : (ts : Forest) (q p stop : ℕ) → EachAll ends P q ts stop → p < sizes ts → get_or ends (q + p) 0 ≡ q + p + size_in ts p
    branches_end [] q p stop h m = absurd (omega arith)
    branches_end (t ◂ ts) q p stop h m = below_or_not p (size t)
        (λ e l. rw e (branch_end t q p h.0 l))
        (λ e l.
        let z = each_end ends P t q h.0 in
        let y : q + p ≡ get_or ends q 0 + (p - size t) = omega arith in
        rw (e, y) (branches_end ts (get_or ends q 0) (p - size t) stop h.1 (omega arith)))

mutual
  unfolding size size_at

  pub branch_fits : (t : Tree) (p : ℕ) → p < size t → p + size_at t p ≤ size t
  branch_fits (node k n l c b ts) zero h = omega arith
  branch_fits (node k n l c b ts) (suc p) h = omega (arith, branches_fit ts p (omega arith))

  branches_fit : (ts : Forest) (p : ℕ) → p < sizes ts → p + size_in ts p ≤ sizes ts
  branches_fit [] p h = absurd (omega arith)
  branches_fit (t ◂ ts) p h = below_or_not p (size t)
      (λ e m. rw e (omega (arith, branch_fits t p m)))
      (λ e m. rw e (omega (arith, branches_fit ts (p - size t) (omega arith))))
