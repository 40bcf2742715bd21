-- The whole call on a table that is good: what its tree's subtrees need is there, and each way gives the rules' answer.
use mathlib.Core.Path.{◌≡◌, sym, ◌∙◌}
use mathlib.Core.Bool.{true, false, cond, ◌&&◌}
use mathlib.Core.List.{List}
use Prim.Native.Nat.{ℕ, ◌≤◌}
use native.Mathlib.Nat.{lt_of_not-le}
use native.Mathlib.Omega.{arith}
use borrow.Author.Tests.{le-leb}
use lib.Dec.{leb}
use lib.Ieee.{Float, Format}
use lib.ListN.{get_or}
use Rattle.rules.specs.declared.answer.BoundAnswer.TheVariants as says
use Rattle.rules.specs.Table.{most_deep, bad, table_within}
use Rattle.rules.specs.Bound.{cap, num, whole_time, boundable, bound, told, bound_call}
use Rattle.tables.proofs.Placed.{at_end}
use Rattle.tables.proofs.Good.{Good}
use Rattle.limits.specs.Ticks.{Ticks, lim, clipped}
use Rattle.limits.proofs.Laws.{clip_told}
use Rattle.limits.proofs.WholeTimes.{cap_most}
use Rattle.lent.specs.declared.table.Table.{Table}
use Rattle.bound.specs.Ready.{Step, Room, Ready, Rooted}

-- ---- the step
pub step_allowed_lem : (F : Format) (d : ℕ) → (d ≡ 0 → ⊥) → d ≤ cap F → Step d
step_allowed_lem F d z h = record { some = lt_of_not-le (λ g. z (omega arith)); most = omega (arith, cap_most F) }

-- ---- a table that was found good
module _ (kinds ns : List ℕ) (limits : List Float) (ends : List ℕ) (count : ℕ) (g : Good most_deep kinds ns limits ends count) where
  pub ends_at : get_or ends 0 0 ≡ count
  ends_at = omega (arith, at_end kinds ns limits g.tree ends 0 g.stands, g.sized)

  pub room : Room kinds ns limits count
  room = record { in_kinds = g.in_kinds; in_ns = g.in_ns; in_limits = g.in_limits; in_ends = g.few }

  module _ (F : Format) where
    pub good_ready : boundable F g.tree ≡ true → Ready F kinds ns limits ends 0
    good_ready b = record { tree = g.tree; stands = record { held = g.stands; whole = b }; room = rw ends_at room }

    module _ (x : Float) where
      good_call :
          bound_call F kinds ns limits x ≡
          cond (whole_time F x && leb 1 (num x) && boundable F g.tree) (told (bound (num x) g.tree)) says.NoBound
      unfolding bound_call
      good_call = rw (bound_call, g.is)

      pub step_not_whole : whole_time F x ≡ false → says.NoBound ≡ bound_call F kinds ns limits x
      step_not_whole e = rw (good_call, e)

      module _ (d : ℕ) (w : whole_time F x ≡ true) (n : d ≡ num x) where
        pub step_zero : d ≡ 0 → says.NoBound ≡ bound_call F kinds ns limits x
        step_zero z = rw (good_call, w, ← n, z)

        module _ (z : d ≡ 0 → ⊥) where
          above_zero : leb 1 d ≡ true
          above_zero = le-leb 1 d (lt_of_not-le (λ h. z (omega arith)))

          pub not_bounded : boundable F g.tree ≡ false → says.NoBound ≡ bound_call F kinds ns limits x
          not_bounded b = rw (good_call, w, ← n, above_zero, b)

          pub bounded_told :
              boundable F g.tree ≡ true →
              (r : Ticks) → r ≡ clipped (bound d g.tree) → told (lim r) ≡ bound_call F kinds ns limits x
          bounded_told b r p = rw (good_call, w, ← n, above_zero, b, p) (clip_told (bound d g.tree))

-- ---- a table that was found bad
pub bad_told : (F : Format) (kinds ns : List ℕ) (limits : List Float) (place : ℕ)
    → table_within most_deep kinds ns limits ≡ bad place
    → (x : Float) → says.BadTable place ≡ bound_call F kinds ns limits x
unfolding bound_call
bad_told F kinds ns limits place e x = rw (bound_call, e)

-- ---- the rows of a good table are its tree's
pub rooted : (t : Table) (ends : List ℕ) (count : ℕ) (g : Good most_deep t.kinds.now t.ns.now t.limits.now ends count) → Rooted t ends g.tree
rooted t ends count g = record { held = g.stands; all = ends_at _ _ _ ends count g ∙ sym g.nodes }
