-- A column of the tree with a branch replaced, as the code writes it.
use mathlib.Core.Path.{◌≡◌, refl, sym, ap, ◌∙◌}
use mathlib.Core.List.{List, ◌++◌, append_assoc, append-nil}
use Prim.Native.Nat.{ℕ, suc, ◌+◌, ◌-◌, ◌≤◌, ◌<◌}
use native.Mathlib.Omega.{arith}
use lib.Ieee.{Float}
use lib.ListN.{length, take, drop, get_or}
use Rattle.rules.specs.declared.behavior.Kind.{Kind}
use Rattle.rules.specs.Tree.{Cell, Tree, node, Forest, [], ◌◂◌, size, sizes}
use Rattle.rules.specs.Exchange.{replaced, size_at, listed, listed_all, new_sinces}
use Rattle.laws.specs.Listed.{listed_replaced}
use Rattle.branch.specs.declared.write.Cut.{Cut}
use Rattle.branch.specs.Each.{Each, EachAll}
use Rattle.branch.specs.Write.{values, source_of, from, at, always}
use Rattle.branch.proofs.Eachs.{each_end}
use Rattle.exchange.proofs.Levels.{branch_fits}
use Rattle.branch.proofs.Values.{values_add, values_always, values_slice, take_values, drop_values, three}

module _ {A : Type 0} (field : Kind → ℕ → Float → Cell → A) where
  -- of a tree of which each node's field is known by its place
  module _ (ends : List ℕ) (g : ℕ → A) where
    abbrev pub Known : ℕ → Kind → ℕ → Float → Cell → Type 0
    Known q k n l c = field k n l c ≡ g q

    mutual
      unfolding listed size

      pub listed_values : (t : Tree) (q : ℕ) → Each ends Known q t → (behind : List A) → listed field t behind ≡ values g q (size t) ++ behind
      listed_values (node k n l c b ts) q h behind = λ i. List.◌∷◌ (h.0 i) (listeds_values ts (suc q) (get_or ends q 0) h.1 behind i)

      listeds_values : (ts : Forest) (q stop : ℕ) → EachAll ends Known q ts stop → (behind : List A) → listed_all field ts behind ≡ values g q (sizes ts) ++ behind
      listeds_values [] q stop h behind = refl
      listeds_values (t ◂ ts) q stop h behind =
          let e = each_end ends Known t q h.0 in
          listed_values t q h.0 (listed_all field ts behind)
          ∙ rw (listeds_values ts (get_or ends q 0) stop h.1 behind, e, values_add g (size t) q (sizes ts), append_assoc)

-- ---- the cut that replaces the branch of t by u
pub record Cuts (cut : Cut) (t u : Tree) : Type 0 where
  pub inside : cut.at < size t
  pub ends : cut.stop ≡ cut.at + size_at t cut.at
  pub new : cut.added ≡ size u
  pub all : cut.nodes + cut.stop ≡ size t + cut.at + cut.added

module _ {cut : Cut} {t u : Tree} (c : Cuts cut t u) where
  fits : cut.at + size_at t cut.at ≤ size t
  fits = branch_fits t cut.at c.inside

  abbrev rest : ℕ
  rest = size t - cut.stop

  parts : cut.nodes ≡ cut.at + (cut.added + rest)
  parts = omega (arith, fits, c.ends, c.all)

  from_at : size t ≡ cut.at + (size t - cut.at)
  from_at = omega (arith, c.inside)

  from_stop : size t ≡ cut.stop + rest
  from_stop = omega (arith, fits, c.ends)

  module _ {A : Type 0} (g : ℕ → A) (behind : List A) where
    first : take cut.at (values g 0 (size t) ++ behind) ≡ values g 0 cut.at
    first = ap (λ (z : ℕ). take cut.at (values g 0 z ++ behind)) from_at ∙ take_values g cut.at (size t - cut.at) behind

    last : drop (cut.at + size_at t cut.at) (values g 0 (size t) ++ behind) ≡ values g cut.stop rest ++ behind
    last = ap (λ (z : ℕ). drop z (values g 0 (size t) ++ behind)) (sym c.ends)
        ∙ ap (λ (z : ℕ). drop cut.stop (values g 0 z ++ behind)) from_stop
        ∙ drop_values g cut.stop rest behind

  module _ {A : Type 0} (field : Kind → ℕ → Float → Cell → A) (ends new_ends : List ℕ) (g h : ℕ → A)
      (old : Each ends (Known field ends g) 0 t) (new : Each new_ends (Known field new_ends h) 0 u) where
    pub column : (behind : List A) → listed field (replaced t cut.at u) behind ≡ values (λ i. from g h (source_of cut i)) 0 cut.nodes ++ behind
    column behind =
        listed_replaced field u t cut.at c.inside behind
        ∙ rw (
          listed_values field ends g t 0 old behind,
          first g behind,
          last g behind,
          listed_values field new_ends h u 0 new (values g cut.stop rest ++ behind),
          ← c.new,
          three cut g h rest parts,
          append_assoc,
          append_assoc,
        )

  pub since_column : (now : ℕ) (ss : List ℕ) → size t ≤ length ss → new_sinces t cut.at u now ss ≡ values (λ i. from (at 0 ss) (always now) (source_of cut i)) 0 cut.nodes
  unfolding new_sinces
  since_column now ss long =
      let g : ℕ → ℕ = at 0 ss in
      let low : cut.at < size t = c.inside in
      let before : take cut.at ss ≡ values g 0 cut.at = values_slice 0 ss cut.at 0 (omega arith) in
      let all : take (size t) ss ≡ values g 0 (size t) ++ List.[] = values_slice 0 ss (size t) 0 (omega arith) ∙ sym (append-nil (values g 0 (size t))) in
      let past : drop (cut.at + size_at t cut.at) (take (size t) ss) ≡ values g cut.stop rest =
      ap (drop (cut.at + size_at t cut.at)) all ∙ last g List.[] ∙ append-nil (values g cut.stop rest) in
      rw (before, past, ← c.new, values_always now cut.added 0, three cut g (always now) rest parts)
