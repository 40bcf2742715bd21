-- A field of each node in preorder, and the same of a tree with a branch replaced: what stands before the branch, the new branch, what stands behind the old one.
use Rattle.std.specs.Prelude.{◌≡◌, refl, List, ◌++◌, ℕ, zero, suc, ◌+◌, ◌-◌, ◌<◌, Float, length, take, drop}
use Rattle.std.proofs.Common.{sym, ap, ◌∙◌, append_assoc, zero-add, suc-add, arith, length-append, drop_at, take_at}
use Rattle.std.proofs.Math.Seq.{take-append-add, drop-append-add}
use Rattle.rules.specs.declared.behavior.Kind.{Kind}
use Rattle.rules.specs.Tree.{Cell, Tree, node, Forest, [], ◌◂◌, size, sizes}
use Rattle.rules.specs.Exchange.{replaced, replaced_in, size_at, size_in, listed, listed_all}
use Rattle.laws.specs.Tests.{below_or_not}

module _ {A : Type 0} (field : Kind → ℕ → Float → Cell → A) where
  mutual
    unfolding listed

    pub listed_behind : (t : Tree) (behind : List A) → listed field t behind ≡ listed field t List.[] ++ behind
    listed_behind (node k n l c b ts) behind = ap (λ (z : List A). List.◌∷◌ (field k n l c) z) (listeds_behind ts behind)

    listeds_behind : (ts : Forest) (behind : List A) → listed_all field ts behind ≡ listed_all field ts List.[] ++ behind
    listeds_behind [] behind = refl
    listeds_behind (t ◂ ts) behind =
        rw (listed_behind t (listed_all field ts behind), listeds_behind ts behind, listed_behind t (listed_all field ts List.[]), append_assoc)

  mutual
    unfolding listed size

    pub listed_length : (t : Tree) → length (listed field t List.[]) ≡ size t
    listed_length (node k n l c b ts) = ap (λ (z : ℕ). suc z) (listeds_length ts)

    listeds_length : (ts : Forest) → length (listed_all field ts List.[]) ≡ sizes ts
    listeds_length [] = refl
    listeds_length (t ◂ ts) = rw (listed_behind t (listed_all field ts List.[]), length-append, listed_length t, listeds_length ts)

  -- a tree's column is its first elements
  pub take_listed : (t : Tree) (behind : List A) → take (size t) (listed field t behind) ≡ listed field t List.[]
  take_listed t behind = ap (take (size t)) (listed_behind t behind) ∙ take_at (listed field t List.[]) behind (size t) (listed_length t)

  drop_listed : (t : Tree) (behind : List A) → drop (size t) (listed field t behind) ≡ behind
  drop_listed t behind = ap (drop (size t)) (listed_behind t behind) ∙ drop_at (listed field t List.[]) behind (size t) (listed_length t)

  module _ (u : Tree) where
    abbrev Spliced : List A → List A → ℕ → ℕ → Type 0
    Spliced new old p n = new ≡ take p old ++ listed field u (drop (p + n) old)

    mutual
      unfolding listed size replaced size_at

      pub listed_replaced : (t : Tree) (p : ℕ) → p < size t → (behind : List A) → Spliced (listed field (replaced t p u) behind) (listed field t behind) p (size_at t p)
      listed_replaced (node k n l c b ts) zero h behind = rw (zero-add (suc (sizes ts))) (ap (listed field u) (sym (drop_listed (node k n l c b ts) behind)))
      listed_replaced (node k n l c b ts) (suc p) h behind =
          rw (suc-add p (size_in ts p)) (ap (λ (z : List A). List.◌∷◌ (field k n l c) z) (listeds_replaced ts p (omega arith) behind))

      listeds_replaced : (ts : Forest) (p : ℕ) → p < sizes ts → (behind : List A) → Spliced (listed_all field (replaced_in ts p u) behind) (listed_all field ts behind) p (size_in ts p)
      listeds_replaced [] p h behind = absurd (omega arith)
      listeds_replaced (t ◂ ts) p h behind = below_or_not p (size t)
          (λ e m. rw e (listed_replaced t p m (listed_all field ts behind)))
          (λ e m.
          let x = listed field t List.[] in
          let rest = listed_all field ts behind in
          let n = size_in ts (p - size t) in
          let a : p ≡ length x + (p - size t) = omega (arith, listed_length t) in
          let b : p + n ≡ length x + (p - size t + n) = omega (arith, listed_length t) in
          let before : take p (x ++ rest) ≡ x ++ take (p - size t) rest = ap (λ (z : ℕ). take z (x ++ rest)) a ∙ take-append-add x rest (p - size t) in
          let past : drop (p + n) (x ++ rest) ≡ drop (p - size t + n) rest = ap (λ (z : ℕ). drop z (x ++ rest)) b ∙ drop-append-add x rest (p - size t + n) in
          rw (
            e,
            listed_behind t (listed_all field (replaced_in ts (p - size t) u) behind),
            listeds_replaced ts (p - size t) (omega arith) behind,
            listed_behind t rest,
            before,
            past,
            append_assoc,
          ))
