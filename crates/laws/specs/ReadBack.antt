-- A tree that is written as a table, row by row in preorder, is read as that tree.
use Rattle.std.specs.Prelude.{◌≡◌, refl, Bool, true, false, cond, ◌&&◌, List, T, leb, ltb, Float, take}
use Rattle.std.proofs.Common.{ap, ◌∙◌, add-zero, arith, lt-ltb}
use Prim.Native.Nat.{ℕ, zero, suc, ◌+◌, ◌≤◌}
use Rattle.std.specs.Float.{nan, inf, fin}
use Rattle.std.specs.Float.Ieee.Fits.{and_l, and_r}
use Rattle.rules.specs.declared.behavior.Kind.{Kind}
use Rattle.rules.specs.declared.behavior.Kind.TheVariants.{Wait, WaitForever, Action, Invert, AlwaysSucceed, Timeout, Select, If, Sequence}
use Rattle.rules.specs.declared.behavior.Kind.TheVariants.{MemorylessSequence, MemorylessSelector, While, WhileAll, WhenAll, WhenAny, After, Race}
use Rattle.rules.specs.Kinds.{code, kind_of, children}
use Rattle.rules.specs.Codes.{kind_code}
use Rattle.rules.specs.Tree.{Cell, Tree, node, Forest, [], ◌◂◌, fresh, fresh_all, size, sizes, depth, depths, count}
use Rattle.rules.specs.Table.{most_nodes, most_deep, cleaned, Row, row, rows, count_allowed, limit_allowed, row_allowed}
use Rattle.rules.specs.Table.{Read, got, fault, ◌and_then◌, read_children, read_tree, Table, good, bad, whole, table}
use Rattle.rules.specs.Exchange.{listed, listed_all, code_in, number_in, limit_in}
use Rattle.laws.specs.Memory.{clear, clear_all}
use Rattle.laws.specs.Tables.{renewed}
use Rattle.laws.specs.Listed.{take_listed}

code_low : (k : Kind) → leb (code k) 16 ≡ true
code_low Wait = refl
code_low WaitForever = refl
code_low Action = refl
code_low Invert = refl
code_low AlwaysSucceed = refl
code_low Timeout = refl
code_low Select = refl
code_low If = refl
code_low Sequence = refl
code_low MemorylessSequence = refl
code_low MemorylessSelector = refl
code_low While = refl
code_low WhileAll = refl
code_low WhenAll = refl
code_low WhenAny = refl
code_low After = refl
code_low Race = refl

-- ---- a tree as a table has it: each node with the children and the limit that its kind allows, the limit as it is used
abbrev mutual
  pub Sound : Tree → Type 0
  Sound (node k n l c b ts) = T (count_allowed k n) × (children k n ≡ count ts) × T (limit_allowed k l) × (cleaned l ≡ l) × Sounds ts

  pub Sounds : Forest → Type 0
  Sounds [] = Unit {0}
  Sounds (t ◂ ts) = Sound t × Sounds ts

is_true : (b : Bool) → T b → b ≡ true
is_true true h = refl
is_true false h = absurd h

row_allowed_lem : (k : Kind) (n : ℕ) (l : Float) → T (count_allowed k n) → T (limit_allowed k l) → row_allowed (code k) n l ≡ true
unfolding row_allowed
row_allowed_lem k n l a b = rw (code_low k, kind_code k, is_true (count_allowed k n) a, is_true (limit_allowed k l) b)

abbrev row_in : Kind → ℕ → Float → Cell → Row
row_in k n l c = row (code k) n l

mutual
  unfolding listed size depth read_tree read_children fresh clear

  read_tree_lem : (t : Tree) (deep at : ℕ) (behind : List Row) → Sound t → depth t ≤ deep → at + size t ≤ 256 →
      read_tree deep at (listed row_in t behind) ≡ got (renewed t) (at + size t) behind
  read_tree_lem (node k n l c b ts) zero at behind s d few = absurd (omega arith)
  read_tree_lem (node k n l c b ts) (suc deep) at behind s d few =
      let z : suc at + sizes ts ≡ at + suc (sizes ts) = omega arith in
      rw (lt-ltb at 256 (omega arith), row_allowed_lem k n l s.0 s.2, kind_code k, s.1, read_trees ts deep (suc at) behind s.4 (omega arith) (omega arith), z)

  read_trees : (ts : Forest) (deep at : ℕ) (behind : List Row) → Sounds ts → depths ts ≤ deep → at + sizes ts ≤ 256 →
      read_children (read_tree deep) (count ts) at (listed_all row_in ts behind) ≡ got (clear_all (fresh_all ts)) (at + sizes ts) behind
  read_trees [] deep at behind s d few = rw (add-zero at)
  read_trees (t ◂ ts) deep at behind s d few =
      let z : at + size t + sizes ts ≡ at + (size t + sizes ts) = omega arith in
      rw (read_tree_lem t deep at (listed_all row_in ts behind) s.0 (omega arith) (omega arith), read_trees ts deep (at + size t) behind s.1 (omega arith) (omega arith), z)

mutual
  unfolding listed rows

  rows_listed : (t : Tree) (ks ns : List ℕ) (ls : List Float) → Sound t → rows (listed code_in t ks) (listed number_in t ns) (listed limit_in t ls) ≡ listed row_in t (rows ks ns ls)
  rows_listed (node k n l c b ts) ks ns ls s = rw (s.3, rows_listeds ts ks ns ls s.4)

  rows_listeds : (ts : Forest) (ks ns : List ℕ) (ls : List Float) → Sounds ts
      → rows (listed_all code_in ts ks) (listed_all number_in ts ns) (listed_all limit_in ts ls) ≡ listed_all row_in ts (rows ks ns ls)
  rows_listeds [] ks ns ls s = refl
  rows_listeds (t ◂ ts) ks ns ls s =
      rows_listed t (listed_all code_in ts ks) (listed_all number_in ts ns) (listed_all limit_in ts ls) s.0 ∙ ap (listed row_in t) (rows_listeds ts ks ns ls s.1)

-- the first elements of the slices that a tree is written to are its table
pub read_back : (t : Tree) (ks ns : List ℕ) (ls : List Float) → Sound t → depth t ≤ 16 → size t ≤ 256 →
    table (take (size t) (listed code_in t ks)) (take (size t) (listed number_in t ns)) (take (size t) (listed limit_in t ls)) ≡ good (renewed t)
unfolding table rows
read_back t ks ns ls s d few =
    rw (take_listed code_in t ks, take_listed number_in t ns, take_listed limit_in t ls)
    (ap (λ (z : List Row). whole (read_tree 16 0 z)) (rows_listed t List.[] List.[] List.[] s) ∙ ap whole (read_tree_lem t 16 0 List.[] s d (omega arith)))

-- ---- a table's tree is one
cleaned_twice : (x : Float) → cleaned (cleaned x) ≡ cleaned x
cleaned_twice nan = refl
cleaned_twice (inf s) = refl
cleaned_twice (fin s zero e) = refl
cleaned_twice (fin s (suc m) e) = refl

abbrev Cleans : List Row → Type 0
Cleans List.[] = Unit {0}
Cleans (List.◌∷◌ (row k n l) rs) = (cleaned l ≡ l) × Cleans rs

rows_clean : (ks ns : List ℕ) (ls : List Float) → Cleans (rows ks ns ls)
unfolding rows
rows_clean List.[] ns ls = tt
rows_clean (List.◌∷◌ k ks) List.[] ls = tt
rows_clean (List.◌∷◌ k ks) (List.◌∷◌ n ns) List.[] = tt
rows_clean (List.◌∷◌ k ks) (List.◌∷◌ n ns) (List.◌∷◌ l ls) = (cleaned_twice l, rows_clean ks ns ls)

abbrev Reads : {A : Type 0} → (A → Type 0) → Read A → Type 0
Reads P (got a at rs) = P a × Cleans rs
Reads P (fault p) = Unit {0}

reads_then : {A B : Type 0} (P : A → Type 0) (R : B → Type 0) (o : Read A) (k : A → ℕ → List Row → Read B) → Reads P o
    → ((a : A) (at : ℕ) (rs : List Row) → P a → Cleans rs → Reads R (k a at rs)) → Reads R (o and_then k)
reads_then P R (got a at rs) k h f = f a at rs h.0 h.1
reads_then P R (fault p) k h f = tt

reads_if : {A : Type 0} (P : A → Type 0) (b : Bool) (o : Read A) (at : ℕ) → (T b → Reads P o) → Reads P (cond b o (fault at))
reads_if P true o at f = f tt
reads_if P false o at f = tt

abbrev SoundChildren : ℕ → Forest → Type 0
SoundChildren n ts = (n ≡ count ts) × Sounds ts

module _ (readChild : ℕ → List Row → Read Tree) (g : (at : ℕ) (rs : List Row) → Cleans rs → Reads Sound (readChild at rs)) where
  sound_children : (n at : ℕ) (rs : List Row) → Cleans rs → Reads (SoundChildren n) (read_children readChild n at rs)
  unfolding read_children
  sound_children zero at rs h = ((refl, tt), h)
  sound_children (suc n) at rs h =
      reads_then Sound (SoundChildren (suc n)) (readChild at rs) _ (g at rs h)
      λ t at' rs' p h'. reads_then (SoundChildren n) (SoundChildren (suc n)) (read_children readChild n at' rs') _ (sound_children n at' rs' h')
      λ ts at'' rs'' q h''. ((ap (λ (z : ℕ). suc z) q.0, (p, q.1)), h'')

sound_read : (deep at : ℕ) (rs : List Row) → Cleans rs → Reads Sound (read_tree deep at rs)
unfolding read_tree row_allowed
sound_read zero at rs h = tt
sound_read (suc deep) at List.[] h = tt
sound_read (suc deep) at (List.◌∷◌ (row k n l) rs) h = reads_if Sound (ltb at most_nodes && row_allowed k n l) _ at λ allowed.
    let a : T (row_allowed k n l) = and_r (ltb at most_nodes) (row_allowed k n l) allowed in
    let b : T (leb k 16 && count_allowed (kind_of k) n) = and_l (leb k 16 && count_allowed (kind_of k) n) (limit_allowed (kind_of k) l) a in
    reads_then (SoundChildren (children (kind_of k) n)) Sound (read_children (read_tree deep) (children (kind_of k) n) (suc at) rs) _
    (sound_children (read_tree deep) (sound_read deep) (children (kind_of k) n) (suc at) rs h.1)
    λ ts at' rs' q h'. ((and_r (leb k 16) (count_allowed (kind_of k) n) b, q.0, and_r (leb k 16 && count_allowed (kind_of k) n) (limit_allowed (kind_of k) l) a, h.0, q.1), h')

abbrev IfGood : (Tree → Type 0) → Table → Type 0
IfGood P (good t) = P t
IfGood P (bad p) = Unit {0}

whole_read : (o : Read Tree) → Reads Sound o → IfGood Sound (whole o)
whole_read (got u at List.[]) h = h.0
whole_read (got u at (List.◌∷◌ r rs)) h = tt
whole_read (fault p) h = tt

table_sound : (kinds ns : List ℕ) (limits : List Float) → IfGood Sound (table kinds ns limits)
unfolding table
table_sound kinds ns limits = whole_read (read_tree most_deep 0 (rows kinds ns limits)) (sound_read most_deep 0 (rows kinds ns limits) (rows_clean kinds ns limits))

pub sound : (kinds ns : List ℕ) (limits : List Float) (t : Tree) → table kinds ns limits ≡ good t → Sound t
sound kinds ns limits t e = rw e at (table_sound kinds ns limits)
