-- A slice whose first elements are what a function gives of their places; what stands behind stays.
use mathlib.Core.Path.{◌≡◌, refl, ap, ◌∙◌}
use mathlib.Core.List.{List, [], ◌∷◌, ◌++◌, append_assoc}
use Prim.Native.Nat.{ℕ, suc, ◌+◌, ◌≤◌, ◌<◌}
use native.Mathlib.Nat.{zero-add}
use native.Mathlib.Numerals.{add-one}
use native.Mathlib.Omega.{arith}
use lib.Ieee.{Float}
use lib.ListN.{length, get_or, set, drop, length-set}
use lib.Seq.{drop-cons, set_at}
use Rattle.rules.specs.Tree.{zero_time}
use Rattle.rules.specs.Table.{cleaned}
use Rattle.branch.specs.declared.write.Cut.{Cut}
use Rattle.branch.specs.declared.write.Source.{Source}
use Rattle.branch.specs.declared.write.Source.TheVariants.{Old, New}
use Rattle.branch.specs.Write.{values, source_of, from, at, limit_at}
use Rattle.branch.proofs.Values.{values_length, values_add}

pub record Filling {A : Type 0} (f : ℕ → A) (start : List A) (n i : ℕ) (l : List A) : Type 0 where
  pub within : i ≤ n
  pub is : l ≡ values f 0 i ++ drop i start
  pub long : length l ≡ length start

pub filling_start : {A : Type 0} {f : ℕ → A} {start : List A} {n : ℕ} → Filling f start n 0 start
filling_start = record { within = omega arith; is = refl; long = refl }

set_next : {A : Type 0} (f : ℕ → A) (start : List A) (i : ℕ) (v : A) → i < length start → v ≡ f i → set (values f 0 i ++ drop i start) i v ≡ values f 0 (i + 1) ++ drop (i + 1) start
set_next {A} f start i v h e =
    let last : List A = f i ∷ [] in
    rw (drop-cons start i v h)
    (set_at (values f 0 i) (get_or start i v) (drop (suc i) start) v i (values_length f i 0)
    ∙ rw (values_add f i 0 1, zero-add i, e, add-one, append_assoc (values f 0 i) last (drop (suc i) start)))

pub filling_more : {A : Type 0} {f : ℕ → A} {start : List A} {n i : ℕ} {l : List A} {v : A} → n ≤ length start → Filling f start n i l → i < n → v ≡ f i → Filling f start n (i + 1) (set l i v)
filling_more {f = f} {start = start} {i = i} {l = l} {v = v} long c h e = record {
  within = omega arith;
  is = rw c.is (set_next f start i v (omega arith) e);
  long = simp length-set c.long;
}

-- a node of the result, from where it stands
pub filling_node : {A : Type 0} (cut : Cut) (old new : ℕ → A) {start : List A} {n i : ℕ} {l : List A} → n ≤ length start
    → Filling (λ i. from old new (source_of cut i)) start n i l → i < n → {s : Source} → s ≡ source_of cut i → {v : A} → v ≡ from old new s
    → Filling (λ i. from old new (source_of cut i)) start n (i + 1) (set l i v)
filling_node cut old new {i = i} long c h e e' = filling_more long c h (e' ∙ ap (from old new) e)

pub filling_end : {A : Type 0} {f : ℕ → A} {start : List A} {n i : ℕ} {l : List A} → Filling f start n i l → n ≤ i → l ≡ values f 0 n ++ drop n start
filling_end {n = n} {i = i} c h = let e : n ≡ i = omega (arith, c.within) in rw e c.is

-- a limit of the result
pub cleaned_from : (old new : List Float) (s : Source) {v w : Float} → w ≡ cleaned v → v ≡ from (at zero_time old) (at zero_time new) s → w ≡ from (limit_at old) (limit_at new) s
cleaned_from old new (Old j) e e' = e ∙ ap cleaned e'
cleaned_from old new (New j) e e' = e ∙ ap cleaned e'
