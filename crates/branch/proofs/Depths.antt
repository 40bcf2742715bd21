-- The depth of trees that stand one behind the other, and of a node above them.
use mathlib.Core.Path.{◌≡◌, ◌∙◌}
use mathlib.Core.List.{List}
use Prim.Native.Nat.{ℕ, ◌+◌, ◌≤◌, ◌<◌, min, max}
use native.Mathlib.Numerals.{add-one}
use native.Mathlib.Omega.{arith}
use lib.ListN.{length, get_or, set}
use lib.Seq.{get_or-set_same, get_or-set_other}
use Rattle.rules.specs.Tree.{Tree, node, Forest, [], ◌◂◌, size, depth, depths}
use Rattle.branch.specs.Each.{Each, EachAll, Any}
use Rattle.branch.specs.Depth.{Known, Deepest}
use Rattle.laws.specs.Tests.{below_or_not}
use Rattle.branch.proofs.Eachs.{size_pos, each_end, eachs_end}

module _ (ends : List ℕ) (from stop : ℕ) (ts : Forest) where
  -- of the trees ts some are left from `at` on, and those before are so deep
  pub record Left (levels at : ℕ) : Type 0 where
    us : Forest
    stands : EachAll ends Any at us stop
    later : from ≤ at
    most : max levels (depths us) ≡ depths ts

  pub all_left : EachAll ends Any from ts stop → Left 0 from
  all_left h = record { us = ts; stands = h; later = omega arith; most = omega arith }

  module _ (levels at : ℕ) where
    none_by : (us : Forest) → EachAll ends Any at us stop → max levels (depths us) ≡ depths ts → stop ≤ at → levels ≡ depths ts
    unfolding depth
    none_by [] h m past = omega arith
    none_by (u ◂ us) h m past = absurd (omega (arith, each_end ends Any u at h.0, size_pos u, eachs_end ends Any us (get_or ends at 0) stop h.1))

    pub none_left : Left levels at → stop ≤ at → levels ≡ depths ts
    none_left l past = none_by l.us l.stands l.most past

    goes_by : (us : Forest) → EachAll ends Any at us stop → at < stop → at < get_or ends at 0
    goes_by [] h before = absurd (omega (arith, h))
    goes_by (u ◂ us) h before = omega (arith, each_end ends Any u at h.0, size_pos u)

    pub goes_on : Left levels at → at < stop → at < get_or ends at 0
    goes_on l before = goes_by l.us l.stands before

    module _ (deep : List ℕ) (known : Known deep ends from stop) (few : depths ts ≤ 16) where
      next_by : (us : Forest) → EachAll ends Any at us stop → from ≤ at → max levels (depths us) ≡ depths ts → at < stop → Left (max levels (get_or deep at 0)) (get_or ends at 0)
      unfolding depth
      next_by [] h later m before = absurd (omega (arith, h))
      next_by (u ◂ us) h later m before =
          let e = each_end ends Any u at h.0 in
          let p = size_pos u in
          let z = eachs_end ends Any us (get_or ends at 0) stop h.1 in
          let here = known at u later (omega arith) h.0 (omega arith) in
          record { us = us; stands = h.1; later = omega arith; most = rw here (omega arith) }

      pub next : Left levels at → at < stop → Left (max levels (get_or deep at 0)) (get_or ends at 0)
      next l before = next_by l.us l.stands l.later l.most before

-- ---- one node more is known
module _ (deep ends : List ℕ) (n at stop m v : ℕ) (long : length deep ≡ 256) (few : n ≤ 256) (low : at < n) (known : Known deep ends (at + 1) n)
    (ends_at : stop ≡ get_or ends at 0) (below : Deepest deep ends (at + 1) stop m) (one_more : v ≡ min (m + 1) 255) where
  here : (t : Tree) → at + size t ≤ n → Each ends Any at t → depth t ≤ 16 → v ≡ depth t
  unfolding depth size
  here (node k n' l c b ts) fits h deep_enough =
      let e = each_end ends Any (node k n' l c b ts) at h in
      let kids : EachAll ends Any (at + 1) ts stop = rw (add-one, ends_at) h.1 in
      let levels : m ≡ depths ts = below ts kids (omega arith) (omega arith) (λ p t a z. known p t a (omega arith)) in
      omega arith

  pub known_more : Known (set deep at v) ends at n
  known_more p t a z h d = below_or_not at p
      (λ e l. get_or-set_other deep at p v 0 (omega arith) ∙ known p t (omega arith) z h d)
      (λ e l.
      let same : p ≡ at = omega arith in
      let there : Each ends Any at t = rw (← same) h in
      rw same (get_or-set_same deep at v 0 (omega arith) ∙ here t (rw (← same) z) there d))
