-- The tree of a table that was read: the children that each kind allows, the cells of a new tree, a clear board, at most 16 deep.
use Rattle.std.specs.Prelude.{◌≡◌, refl, Bool, true, false, cond, ◌&&◌, List, T, leb, ltb, Float}
use Rattle.std.proofs.Common.{sym, ap, ◌∙◌, le-leb, leb→le}
use Prim.Native.Nat.{ℕ, zero, suc, ◌≤◌, max}
use native.Mathlib.Omega.{arith}
use Rattle.std.specs.Float.Ieee.Fits.{and_l, and_r}
use Rattle.rules.specs.Kinds.{kind_of, children, fewest, most, timed, marks_children}
use Rattle.rules.specs.Tree.{fresh_cell, new_cell, Tree, node, Forest, [], ◌◂◌, fresh, fresh_all, depth, depths, count}
use Rattle.rules.specs.Table.{most_nodes, most_deep, Row, row, rows, count_allowed, limit_allowed, row_allowed, Read, got, fault, ◌and_then◌, read_children, read_tree, Table, good, bad, whole, table}
use Rattle.rules.specs.Cells.{last_place, cell_allowed, Found, faulty, none, bad_cell, bad_cells}
use Rattle.laws.specs.Memory.{clear, clear_all}
use Rattle.rules.specs.declared.behavior.Kind.{Kind}

abbrev mutual
  pub Tabled : Tree → Type 0
  Tabled (node k n l c b ts) = T (count_allowed k n) × (children k n ≡ count ts) × T (limit_allowed k l) × (c ≡ new_cell) × (b ≡ 0) × Tableds ts

  pub Tableds : Forest → Type 0
  Tableds [] = Unit {0}
  Tableds (t ◂ ts) = Tabled t × Tableds ts

-- what holds of all that was read
abbrev Got : {A : Type 0} → (A → Type 0) → Read A → Type 0
Got P (got a at rs) = P a
Got P (fault p) = Unit {0}

got_then : {A B : Type 0} (P : A → Type 0) (R : B → Type 0) (o : Read A) (k : A → ℕ → List Row → Read B) → Got P o → ((a : A) (at : ℕ) (rs : List Row) → P a → Got R (k a at rs)) → Got R (o and_then k)
got_then P R (got a at rs) k h f = f a at rs h
got_then P R (fault p) k h f = tt

got_if : {A : Type 0} (P : A → Type 0) (b : Bool) (o : Read A) (at : ℕ) → (T b → Got P o) → Got P (cond b o (fault at))
got_if P true o at f = f tt
got_if P false o at f = tt

abbrev IsTree : ℕ → Tree → Type 0
IsTree deep t = Tabled t × (depth t ≤ deep)

abbrev AreTrees : ℕ → ℕ → Forest → Type 0
AreTrees deep n ts = (n ≡ count ts) × Tableds ts × (depths ts ≤ deep)

module _ (deep : ℕ) (readChild : ℕ → List Row → Read Tree) (g : (at : ℕ) (rs : List Row) → Got (IsTree deep) (readChild at rs)) where
  children_read : (n at : ℕ) (rs : List Row) → Got (AreTrees deep n) (read_children readChild n at rs)
  unfolding read_children depth
  children_read zero at rs = (refl, tt, omega arith)
  children_read (suc n) at rs =
      got_then (IsTree deep) (AreTrees deep (suc n)) (readChild at rs) _ (g at rs)
      λ t at' rs' p. got_then (AreTrees deep n) (AreTrees deep (suc n)) (read_children readChild n at' rs') _ (children_read n at' rs')
      λ ts at'' rs'' q. (ap (λ (z : ℕ). suc z) q.0, (p.0, q.1), deeper (depth t) (depths ts) p.1 q.2)
    where
      deeper : (a b : ℕ) → a ≤ deep → b ≤ deep → max a b ≤ deep
      deeper a b h k = omega arith

tree_read : (deep at : ℕ) (rs : List Row) → Got (IsTree deep) (read_tree deep at rs)
unfolding read_tree row_allowed depth
tree_read zero at rs = tt
tree_read (suc deep) at List.[] = tt
tree_read (suc deep) at (List.◌∷◌ (row k n l) rs) = got_if (IsTree (suc deep)) (ltb at most_nodes && row_allowed k n l) _ at λ allowed.
    let a : T (row_allowed k n l) = and_r (ltb at most_nodes) (row_allowed k n l) allowed in
    let b : T (leb k 16 && count_allowed (kind_of k) n) = and_l (leb k 16 && count_allowed (kind_of k) n) (limit_allowed (kind_of k) l) a in
    got_then (AreTrees deep (children (kind_of k) n)) (IsTree (suc deep)) (read_children (read_tree deep) (children (kind_of k) n) (suc at) rs) _
    (children_read deep (read_tree deep) (tree_read deep) (children (kind_of k) n) (suc at) rs)
    λ ts at' rs' q. ((and_r (leb k 16) (count_allowed (kind_of k) n) b, q.0, and_r (leb k 16 && count_allowed (kind_of k) n) (limit_allowed (kind_of k) l) a, refl, refl, q.1), omega arith)

abbrev IfGood : (Tree → Type 0) → Table → Type 0
IfGood P (good t) = P t
IfGood P (bad p) = Unit {0}

whole_read : (P : Tree → Type 0) (o : Read Tree) → Got P o → IfGood P (whole o)
whole_read P (got u at List.[]) h = h
whole_read P (got u at (List.◌∷◌ r rs)) h = tt
whole_read P (fault p) h = tt

table_read : (kinds ns : List ℕ) (limits : List Float) → IfGood (IsTree most_deep) (table kinds ns limits)
unfolding table
table_read kinds ns limits = whole_read (IsTree most_deep) (read_tree most_deep 0 (rows kinds ns limits)) (tree_read most_deep 0 (rows kinds ns limits))

pub tabled : (kinds ns : List ℕ) (limits : List Float) (t : Tree) → table kinds ns limits ≡ good t → Tabled t × (depth t ≤ most_deep)
tabled kinds ns limits t e = rw e at (table_read kinds ns limits)

-- the fewest children that a kind allows
pub at_least : (k : Kind) (n c : ℕ) → T (count_allowed k n) → children k n ≡ c → fewest k ≤ c
at_least k n c a e = rw (← e) (leb→le (fewest k) (children k n) (and_l (leb (fewest k) (children k n)) (leb (children k n) (most k)) a))

-- ---- it is what each tree of its shape is anew: made fresh, between two ticks
abbrev pub renewed : Tree → Tree
renewed t = clear (fresh t)

mutual
  unfolding fresh clear

  pub tabled_fresh : (t : Tree) → Tabled t → renewed t ≡ t
  tabled_fresh (node k n l c b ts) h = λ i. node k n l (sym h.3 i) (sym h.4 i) (tableds_fresh ts h.5 i)

  tableds_fresh : (ts : Forest) → Tableds ts → clear_all (fresh_all ts) ≡ ts
  tableds_fresh [] h = refl
  tableds_fresh (t ◂ ts) h = λ i. tabled_fresh t h.0 i ◂ tableds_fresh ts h.1 i

-- ---- no cell of a tree made fresh is bad
fresh_allowed : (mayEnd : Bool) (k : Kind) (n : ℕ) → cell_allowed false mayEnd k n fresh_cell ≡ true
unfolding cell_allowed
fresh_allowed mayEnd k n = on (timed k) (last_place k n)
  where
    on : (b : Bool) (m : ℕ) → cond b true true && leb 0 m ≡ true
    on true m = le-leb 0 m (omega arith)
    on false m = le-leb 0 m (omega arith)

fine_then : (o : Found) (at : ℕ) (rest : ℕ → Found) → o ≡ none at → (q : ℕ) × (rest at ≡ none q) → (q : ℕ) × (elim o [ faulty p ↦ faulty p | none z ↦ rest z ] ≡ none q)
fine_then o at rest e h = rw e h

mutual
  unfolding bad_cell fresh

  pub fresh_fine : (t : Tree) (mayEnd : Bool) (at : ℕ) → (q : ℕ) × (bad_cell false mayEnd at (fresh t) ≡ none q)
  fresh_fine (node k n l c b ts) mayEnd at = rw (fresh_allowed mayEnd k n) (freshs_fine ts (marks_children k) (suc at))

  freshs_fine : (ts : Forest) (mayEnd : Bool) (at : ℕ) → (q : ℕ) × (bad_cells false mayEnd at (fresh_all ts) ≡ none q)
  freshs_fine [] mayEnd at = (at, refl)
  freshs_fine (t ◂ ts) mayEnd at =
      let f = fresh_fine t mayEnd at in
      fine_then (bad_cell false mayEnd at (fresh t)) f.0 (λ (z : ℕ). bad_cells false mayEnd z (fresh_all ts)) f.1 (freshs_fine ts mayEnd f.0)

-- ---- a table has one tree
abbrev tree_or : Tree → Table → Tree
tree_or u (good t) = t
tree_or u (bad p) = u

pub one_tree : (o : Table) (t u : Tree) → o ≡ good t → o ≡ good u → u ≡ t
one_tree o t u e f = ap (tree_or t) (sym f ∙ e)
