-- A tree has a bound or none exactly where each of its rows allows it.
use mathlib.Core.Path.{◌≡◌, refl, sym, ap, ◌∙◌}
use mathlib.Core.Bool.{Bool, true, false, ◌&&◌, and-false}
use mathlib.Core.List.{List}
use mathlib.Core.Logic.{◌⊎◌, inl, inr, ⊎_elim}
use Prim.Native.Nat.{ℕ, zero, suc, ◌≤◌, ◌<◌}
use native.Mathlib.Nat.{le_refl, le_trans, eq-or-lt_of_le}
use native.Mathlib.Omega.{arith}
use borrow.Author.Tests.{ltb-true, ltb-false}
use lib.Dec.{ltb}
use lib.Ieee.{Float, Format, nan}
use lib.ListN.{get_or, length}
use Rattle.rules.specs.declared.behavior.Kind.{Kind}
use Rattle.rules.specs.Kinds.{kind_of, children}
use Rattle.rules.specs.Tree.{zero_time, Tree, node, Forest, [], ◌◂◌, count}
use Rattle.rules.specs.Table.{cleaned, rows}
use Rattle.rules.specs.Bound.{boundable, boundables}
use Rattle.tables.specs.At.{Row, At, Ats}
use Rattle.tables.proofs.Rows.{any_default}
use Rattle.limits.specs.Node.{row_bounded}
use Rattle.bound.proofs.Laws.{and_first, and_second, ends_after, ends_from_lem}
use Rattle.std.specs.List.{zip, list_all}
use Rattle.lent.specs.Lengths.{rows_length}

either : (a b : ℕ) → (a < b) ⊎ (b ≤ a)
either a b = go (ltb a b) refl
  where
    go : (t : Bool) → ltb a b ≡ t → (a < b) ⊎ (b ≤ a)
    go true e = inl (ltb-true a b e)
    go false e = inr (ltb-false a b e)

module _ (F : Format) (kinds ns : List ℕ) (limits : List Float) where
  -- the row at a place
  abbrev pub row_at : ℕ → Bool
  row_at i = row_bounded F (kind_of (get_or kinds i 0)) (children (kind_of (get_or kinds i 0)) (get_or ns i 0)) (cleaned (get_or limits i nan))

  row_is : (q : ℕ) (k : Kind) (n : ℕ) (l : Float) (many : ℕ) → q < length limits → Row kinds ns limits q k n l many → row_at q ≡ row_bounded F k many l
  row_is q k n l many h r = rw (any_default limits q nan zero_time h, r.kind, r.number, r.limit, r.kids)

  module _ (ends : List ℕ) (top : ℕ) (fits : top ≤ length limits) where
    mutual
      unfolding boundable

      pub all_rows :
          (q : ℕ) (t : Tree) → At kinds ns limits ends q t → get_or ends q 0 ≤ top →
          ((i : ℕ) → q ≤ i → i < get_or ends q 0 → row_at i ≡ true) → boundable F t ≡ true
      all_rows q (node k n l c b ts) h u f =
          let below = ends_after F kinds ns limits ends q (node k n l c b ts) h in
          let here : row_bounded F k (count ts) l ≡ true = sym (row_is q k n l (count ts) (omega arith) h.0) ∙ f q (le_refl q) below in
          rw (here, all_rows_of (suc q) ts (get_or ends q 0) h.1 u (λ i a b. f i (omega arith) b))

      pub all_rows_of :
          (q : ℕ) (ts : Forest) (stop : ℕ) → Ats kinds ns limits ends q ts stop → stop ≤ top →
          ((i : ℕ) → q ≤ i → i < stop → row_at i ≡ true) → boundables F ts ≡ true
      all_rows_of q [] stop h u f = refl
      all_rows_of q (t ◂ ts) stop h u f =
          let on = ends_from_lem F kinds ns limits ends (get_or ends q 0) ts stop h.1 in
          let up = ends_after F kinds ns limits ends q t h.0 in
          let first = all_rows q t h.0 (omega arith) (λ i a b. f i a (omega arith)) in
          rw (first, all_rows_of (get_or ends q 0) ts stop h.1 u (λ i a b. f i (omega arith) b))

    mutual
      unfolding boundable

      pub a_row :
          (q : ℕ) (t : Tree) → At kinds ns limits ends q t → get_or ends q 0 ≤ top →
          (i : ℕ) → q ≤ i → i < get_or ends q 0 → row_at i ≡ false → boundable F t ≡ false
      a_row q (node k n l c b ts) h u i from to e = ⊎_elim
          (λ (s : q ≡ i). rw (sym (row_is q k n l (count ts) (omega arith) h.0) ∙ ap row_at s ∙ e))
          (λ (s : q < i). rw (a_row_of (suc q) ts (get_or ends q 0) h.1 u i s to e) (and-false (row_bounded F k (count ts) l)))
          (eq-or-lt_of_le from)

      pub a_row_of :
          (q : ℕ) (ts : Forest) (stop : ℕ) → Ats kinds ns limits ends q ts stop → stop ≤ top →
          (i : ℕ) → q ≤ i → i < stop → row_at i ≡ false → boundables F ts ≡ false
      a_row_of q [] stop h u i from to e = absurd (omega arith)
      a_row_of q (t ◂ ts) stop h u i from to e = ⊎_elim
          (λ (s : i < get_or ends q 0). rw (a_row q t h.0 (le_trans (ends_from_lem F kinds ns limits ends (get_or ends q 0) ts stop h.1) u) i from s e))
          (λ (s : get_or ends q 0 ≤ i). rw (a_row_of (get_or ends q 0) ts stop h.1 u i s to e) (and-false (boundable F t)))
          (either i (get_or ends q 0))

-- ---- the rows one by one, as triples
module _ (F : Format) where
  abbrev pub triples : List ℕ → List ℕ → List Float → List ((ℕ × ℕ) × Float)
  triples ks ns ls = zip (zip ks ns) ls

  abbrev pub triple_bounded : (ℕ × ℕ) × Float → Bool
  triple_bounded r = row_bounded F (kind_of r.0.0) (children (kind_of r.0.0) r.0.1) (cleaned r.1)

  each :
      (ks ns : List ℕ) (ls : List Float) (i : ℕ) → i < length (rows ks ns ls) →
      list_all triple_bounded (triples ks ns ls) ≡ true → row_at F ks ns ls i ≡ true
  unfolding rows
  each List.[] ns ls i h e = absurd (omega arith)
  each (List.◌∷◌ k ks) List.[] ls i h e = absurd (omega arith)
  each (List.◌∷◌ k ks) (List.◌∷◌ n ns) List.[] i h e = absurd (omega arith)
  each (List.◌∷◌ k ks) (List.◌∷◌ n ns) (List.◌∷◌ l ls) zero h e = and_first _ _ e
  each (List.◌∷◌ k ks) (List.◌∷◌ n ns) (List.◌∷◌ l ls) (suc i) h e = each ks ns ls i (omega arith) (and_second _ _ e)

  some :
      (ks ns : List ℕ) (ls : List Float) → list_all triple_bounded (triples ks ns ls) ≡ false →
      (i : ℕ) × (i < length (rows ks ns ls)) × (row_at F ks ns ls i ≡ false)
  unfolding rows
  some List.[] ns ls e = cc
  some (List.◌∷◌ k ks) List.[] ls e = cc
  some (List.◌∷◌ k ks) (List.◌∷◌ n ns) List.[] e = cc
  some (List.◌∷◌ k ks) (List.◌∷◌ n ns) (List.◌∷◌ l ls) e = go (triple_bounded ((k, n), l)) refl (some ks ns ls) e
    where
      go :
          (b : Bool) → triple_bounded ((k, n), l) ≡ b →
          (list_all triple_bounded (triples ks ns ls) ≡ false → (i : ℕ) × (i < length (rows ks ns ls)) × (row_at F ks ns ls i ≡ false)) →
          (b && list_all triple_bounded (triples ks ns ls)) ≡ false →
          (i : ℕ) × (i < suc (length (rows ks ns ls))) × (row_at F (List.◌∷◌ k ks) (List.◌∷◌ n ns) (List.◌∷◌ l ls) i ≡ false)
      go false q more f = (0, omega arith, q)
      go true q more f = let (i, p, g) = more f in (suc i, omega arith, g)

  module _ (kinds ns : List ℕ) (limits : List Float) (ends : List ℕ) (t : Tree) (h : At kinds ns limits ends 0 t) (all : get_or ends 0 0 ≡ length (rows kinds ns limits)) where
    pub all_told : list_all triple_bounded (triples kinds ns limits) ≡ boundable F t
    all_told = go (list_all triple_bounded (triples kinds ns limits)) refl
      where
        fits : length (rows kinds ns limits) ≤ length limits
        fits = omega (arith, rows_length kinds ns limits)

        go : (b : Bool) → list_all triple_bounded (triples kinds ns limits) ≡ b → b ≡ boundable F t
        go true e = sym (all_rows F kinds ns limits ends _ fits 0 t h (omega arith) (λ i p q. each kinds ns limits i (omega arith) e))
        go false e = let (i, p, f) = some kinds ns limits e in sym (a_row F kinds ns limits ends _ fits 0 t h (omega arith) i (omega arith) (omega arith) f)
