-- Facts of a tree as it stands in the slices: where it ends, and that it stands there as long as the ends in it do not change.
use mathlib.Core.Path.{◌≡◌, sym, subst}
use mathlib.Core.List.{List}
use Prim.Native.Nat.{ℕ, suc, ◌+◌, ◌≤◌, ◌<◌}
use native.Mathlib.Omega.{arith}
use lib.Ieee.{Float}
use lib.ListN.{get_or}
use Rattle.rules.specs.Tree.{Tree, node, Forest, [], ◌◂◌, size, sizes}
use Rattle.tables.specs.At.{At, Ats}

pub size_pos : (t : Tree) → 0 < size t
unfolding size
size_pos (node k n l c b ts) = omega arith

-- the first n elements are as they were; d is read behind the end
abbrev pub Alike : {A : Type 0} → A → List A → List A → ℕ → Type 0
Alike d xs xs' n = (i : ℕ) → i < n → get_or xs' i d ≡ get_or xs i d

-- the ends from q to stop are as they were
abbrev pub Same : List ℕ → List ℕ → ℕ → ℕ → Type 0
Same ends ends' q stop = (j : ℕ) → q ≤ j → j < stop → get_or ends' j 0 ≡ get_or ends j 0

module _ (kinds ns : List ℕ) (limits : List Float) where
  mutual
    unfolding size

    pub at_end : (t : Tree) (ends : List ℕ) (q : ℕ) → At kinds ns limits ends q t → get_or ends q 0 ≡ q + size t
    at_end (node k n l c b ts) ends q h = omega (arith, ats_end ts ends (suc q) (get_or ends q 0) h.1)

    pub ats_end : (ts : Forest) (ends : List ℕ) (q stop : ℕ) → Ats kinds ns limits ends q ts stop → stop ≡ q + sizes ts
    ats_end [] ends q stop h = omega arith
    ats_end (t ◂ ts) ends q stop h = omega (arith, at_end t ends q h.0, ats_end ts ends (get_or ends q 0) stop h.1)

  module _ (ends ends' : List ℕ) where
    mutual
      unfolding size

      pub at_keeps : (t : Tree) (q : ℕ) → At kinds ns limits ends q t → Same ends ends' q (q + size t) → At kinds ns limits ends' q t
      at_keeps (node k n l c b ts) q h same =
          let stop = get_or ends q 0 in
          let e = ats_end ts ends (suc q) stop h.1 in
          let kids = ats_keeps ts (suc q) stop h.1 (λ j a z. same j (omega arith) (omega arith)) in
          (h.0, subst (λ (e : ℕ). Ats kinds ns limits ends' (suc q) ts e) (sym (same q (omega arith) (omega arith))) kids)

      pub ats_keeps : (ts : Forest) (q stop : ℕ) → Ats kinds ns limits ends q ts stop → Same ends ends' q stop → Ats kinds ns limits ends' q ts stop
      ats_keeps [] q stop h same = h
      ats_keeps (t ◂ ts) q stop h same =
          let e = at_end t ends q h.0 in
          let f = ats_end ts ends (get_or ends q 0) stop h.1 in
          let p = size_pos t in
          let here = at_keeps t q h.0 (λ j a z. same j a (omega arith)) in
          let rest = ats_keeps ts (get_or ends q 0) stop h.1 (λ j a z. same j (omega arith) z) in
          (here, subst (λ (x : ℕ). Ats kinds ns limits ends' x ts stop) (sym (same q (omega arith) (omega arith))) rest)
