-- The tree with the cells of a run has the run's columns.
use mathlib.Core.Path.{◌≡◌, refl, ap, ◌∙◌}
use mathlib.Core.List.{List, map, ◌++◌, append_assoc}
use Prim.Native.Nat.{ℕ, zero, suc, ◌≤◌}
use native.Mathlib.Nat.{not-suc-le-zero, le_of_suc-le-suc}
use native.Mathlib.Omega.{arith}
use lib.Ieee.{Float}
use lib.ListN.{length, take, drop, length-drop}
use lib.Seq.{drop-drop, take-add}
use Rattle.rules.specs.Tree.{Cell, Tree, node, Forest, [], ◌◂◌, size, sizes}
use Rattle.rules.specs.Cells.{cells, with_cells, with_cells_all, column, columns, time_of, place_of, mark_of}

mutual
  unfolding with_cells size

  with_drop : (t : Tree) (cs : List Cell) → (with_cells t cs).1 ≡ drop (size t) cs
  with_drop (node k n l c b ts) List.[] = refl
  with_drop (node k n l c b ts) (List.◌∷◌ c' cs) = with_drops ts cs

  with_drops : (ts : Forest) (cs : List Cell) → (with_cells_all ts cs).1 ≡ drop (sizes ts) cs
  with_drops [] cs = refl
  with_drops (t ◂ ts) cs = with_drops ts (with_cells t cs).1 ∙ ap (λ (l : List Cell). drop (sizes ts) l) (with_drop t cs) ∙ drop-drop (sizes ts) (size t) cs

map_drop : {A B : Type 0} (f : A → B) (n : ℕ) (l : List A) → map f (drop n l) ≡ drop n (map f l)
map_drop f zero l = refl
map_drop f (suc n) List.[] = refl
map_drop f (suc n) (List.◌∷◌ x l) = map_drop f n l

module _ {A : Type 0} (f : Cell → ℕ → A) where
  -- what the cells of a run have in the field
  abbrev pub read : List Cell → List A
  read cs = map (λ (c : Cell). f c 0) cs

  mutual
    unfolding with_cells column size

    pub with_column : (t : Tree) (cs : List Cell) (behind : List A) → size t ≤ length cs → column f (with_cells t cs).0 behind ≡ take (size t) (read cs) ++ behind
    with_column (node k n l c b ts) List.[] behind h = absurd (not-suc-le-zero h)
    with_column (node k n l c b ts) (List.◌∷◌ c' cs) behind h = ap (λ (l : List A). List.◌∷◌ (f c' 0) l) (with_columns ts cs behind (le_of_suc-le-suc h))

    with_columns : (ts : Forest) (cs : List Cell) (behind : List A) → sizes ts ≤ length cs → columns f (with_cells_all ts cs).0 behind ≡ take (sizes ts) (read cs) ++ behind
    with_columns [] cs behind h = refl
    with_columns (t ◂ ts) cs behind h =
        with_column t cs (columns f (with_cells_all ts (with_cells t cs).1).0 behind) (omega arith)
        ∙ rw (with_columns ts (with_cells t cs).1 behind (rw (with_drop t cs, length-drop) (omega arith)), with_drop t cs, map_drop, take-add, append_assoc)

-- the first n cells of a run that is long enough
pub record Cut (n : ℕ) (xs : List Float) (ps ms : List ℕ) : Type 0 where
  pub enough : n ≤ length (cells xs ps ms)
  pub times : take n (read time_of (cells xs ps ms)) ≡ take n xs
  places : take n (read place_of (cells xs ps ms)) ≡ take n ps
  marks : take n (read mark_of (cells xs ps ms)) ≡ take n ms

pub cells_run : (n : ℕ) (xs : List Float) (ps ms : List ℕ) → n ≤ length xs → n ≤ length ps → n ≤ length ms → Cut n xs ps ms
unfolding cells
cells_run zero xs ps ms a b c = record { enough = omega arith; times = refl; places = refl; marks = refl }
cells_run (suc n) List.[] ps ms a b c = absurd (not-suc-le-zero a)
cells_run (suc n) (List.◌∷◌ x xs) List.[] ms a b c = absurd (not-suc-le-zero b)
cells_run (suc n) (List.◌∷◌ x xs) (List.◌∷◌ p ps) List.[] a b c = absurd (not-suc-le-zero c)
cells_run (suc n) (List.◌∷◌ x xs) (List.◌∷◌ p ps) (List.◌∷◌ m ms) a b c =
    let r = cells_run n xs ps ms (le_of_suc-le-suc a) (le_of_suc-le-suc b) (le_of_suc-le-suc c) in
    record {
      enough = omega arith;
      times = ap (λ (l : List Float). List.◌∷◌ x l) r.times;
      places = ap (λ (l : List ℕ). List.◌∷◌ p l) r.places;
      marks = ap
          (λ (l : List ℕ). List.◌∷◌ m l) r.marks;
    }

-- the tree with the cells of a run has the run's columns, and a board of zeros
module _ (t : Tree) (times : List Float) (places marks : List ℕ) (a : size t ≤ length times) (b : size t ≤ length places) (c : size t ≤ length marks) where
  run : Cut (size t) times places marks
  run = cells_run (size t) times places marks a b c

  pub time_column : (behind : List Float) → column time_of (with_cells t (cells times places marks)).0 behind ≡ take (size t) times ++ behind
  time_column behind = with_column time_of t (cells times places marks) behind run.enough ∙ ap (λ (l : List Float). l ++ behind) run.times

  pub place_column : (behind : List ℕ) → column place_of (with_cells t (cells times places marks)).0 behind ≡ take (size t) places ++ behind
  place_column behind = with_column place_of t (cells times places marks) behind run.enough ∙ ap (λ (l : List ℕ). l ++ behind) run.places

  pub mark_column : (behind : List ℕ) → column mark_of (with_cells t (cells times places marks)).0 behind ≡ take (size t) marks ++ behind
  mark_column behind = with_column mark_of t (cells times places marks) behind run.enough ∙ ap (λ (l : List ℕ). l ++ behind) run.marks

-- what stands behind a column stays behind it
module _ {A : Type 0} (f : Cell → ℕ → A) where
  mutual
    unfolding column

    pub column_behind : (t : Tree) (behind : List A) → column f t behind ≡ column f t List.[] ++ behind
    column_behind (node k n l c b ts) behind = ap (λ (l : List A). List.◌∷◌ (f c b) l) (columns_behind ts behind)

    columns_behind : (ts : Forest) (behind : List A) → columns f ts behind ≡ columns f ts List.[] ++ behind
    columns_behind [] behind = refl
    columns_behind (t ◂ ts) behind = rw (column_behind t (columns f ts behind), columns_behind ts behind, column_behind t (columns f ts List.[]), append_assoc)
