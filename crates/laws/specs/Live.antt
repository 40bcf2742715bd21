-- A tree that may be ticked, by its cells: no mark, a place and a time that its kind allows; below a WhenAll or WhenAny a child may have ended.
use Rattle.std.specs.Prelude.{◌≡◌, refl, Bool, true, false, cond, ◌&&◌, ◌||◌, ℕ, ◌≤◌, T, leb, eqb, Float}
use Rattle.std.proofs.Common.{sym, ap, ◌∙◌, subst, arith, eqb→eq, leb→le, le→leb}
use Rattle.std.specs.Float.Ieee.Fits.{and_i, and_l, and_r}
use Rattle.rules.specs.declared.behavior.Kind.{Kind}
use Rattle.rules.specs.Kinds.{timed, marks_children, children}
use Rattle.rules.specs.Tree.{zero_time, Cell, Tree, node, Forest, [], ◌◂◌, fresh, fresh_all, marked, mark}
use Rattle.rules.specs.Table.{zero_bits, count_allowed, limit_allowed}
use Rattle.rules.specs.Cells.{elapsed, last_place, cell_allowed, ended_in}
use Rattle.laws.specs.Shape.{Shape, shp, Shapes, shape, shapes, count_of, count_of_lem, fresh_unmarked}
use Rattle.laws.specs.Shape
use Rattle.laws.specs.Memory.{clear, clear_all, clear_marked}
use Rattle.laws.specs.Tables.{Tabled, Tableds}
use Rattle.laws.specs.Fine.{Fine, Fines}

-- a child that has ended, as the cell check has it: marked, and all else fresh
abbrev pub Ended : Tree → Type 0
Ended t = Fine false true t

abbrev pub choose : Bool → Type 0 → Type 0 → Type 0
choose true X Y = X
choose false X Y = Y

-- `time`: which times a cell in use may have
module _ (time : Float → Bool) where
  abbrev pub LiveCellBy : Kind → ℕ → Cell → Type 0
  LiveCellBy k n c = (c.mark ≡ 0) × T (cond (timed k) (time c.time) (zero_bits c.time)) × (c.place ≤ last_place k n)

  abbrev mutual
    pub LiveBy : Tree → Type 0
    LiveBy (node k n l c b ts) = LiveCellBy k n c × choose (marks_children k) (MarksBy ts) (LivesBy ts)

    pub LivesBy : Forest → Type 0
    LivesBy [] = Unit {0}
    LivesBy (t ◂ ts) = LiveBy t × LivesBy ts

    -- the children of WhenAll and WhenAny
    pub MarksBy : Forest → Type 0
    MarksBy [] = Unit {0}
    MarksBy (t ◂ ts) = choose (marked t) (Ended t) (LiveBy t) × MarksBy ts

  pub live_unmarked : (t : Tree) → LiveBy t → marked t ≡ false
  live_unmarked (node k n l c b ts) h = ap (λ (z : ℕ). eqb z 1) h.0.0

abbrev pub LiveCell : Kind → ℕ → Cell → Type 0
LiveCell = LiveCellBy elapsed

abbrev pub Live : Tree → Type 0
Live = LiveBy elapsed

abbrev pub Lives : Forest → Type 0
Lives = LivesBy elapsed

abbrev pub Marks : Forest → Type 0
Marks = MarksBy elapsed

choose_both : (b : Bool) (X Y : Type 0) → X → Y → choose b X Y
choose_both true X Y x y = x
choose_both false X Y x y = y

choose_map : (b : Bool) (X X' Y Y' : Type 0) → (X → X') → (Y → Y') → choose b X Y → choose b X' Y'
choose_map true X X' Y Y' f g h = f h
choose_map false X X' Y Y' f g h = g h

-- ---- fresh trees
module _ (time : Float → Bool) (zero : T (time zero_time)) where
  fresh_time : (b : Bool) → T (cond b (time zero_time) (zero_bits zero_time))
  fresh_time true = zero
  fresh_time false = tt

  mutual
    unfolding fresh

    pub fresh_live_by : (t : Tree) → LiveBy time (fresh t)
    fresh_live_by (node k n l c b ts) =
        ((refl, fresh_time (timed k), omega arith), choose_both (marks_children k) (MarksBy time (fresh_all ts)) (LivesBy time (fresh_all ts)) (fresh_marks ts) (fresh_lives_by ts))

    pub fresh_lives_by : (ts : Forest) → LivesBy time (fresh_all ts)
    fresh_lives_by [] = tt
    fresh_lives_by (t ◂ ts) = (fresh_live_by t, fresh_lives_by ts)

    fresh_marks : (ts : Forest) → MarksBy time (fresh_all ts)
    fresh_marks [] = tt
    fresh_marks (t ◂ ts) = (rw (fresh_unmarked t) (fresh_live_by t), fresh_marks ts)

pub fresh_live : (t : Tree) → Live (fresh t)
fresh_live = fresh_live_by elapsed tt

mutual
  unfolding fresh cell_allowed

  fine_fresh : (mayEnd : Bool) (t : Tree) → Fine true mayEnd (fresh t)
  fine_fresh mayEnd (node k n l c b ts) = (tt, fines_fresh (marks_children k) ts)

  fines_fresh : (mayEnd : Bool) (ts : Forest) → Fines true mayEnd (fresh_all ts)
  fines_fresh mayEnd [] = tt
  fines_fresh mayEnd (t ◂ ts) = (fine_fresh mayEnd t, fines_fresh mayEnd ts)

pub fresh_ended : (t : Tree) → Ended (mark (fresh t))
unfolding fresh cell_allowed
fresh_ended (node k n l c b ts) = (tt, fines_fresh (marks_children k) ts)

-- ---- whatever the times
any_cell : (b x z : Bool) → T (cond b x z) → T (cond b true z)
any_cell true x z h = tt
any_cell false x z h = h

mutual
  pub any_time : (t : Tree) → Live t → LiveBy (λ x. true) t
  any_time (node k n l c b ts) h = (
    (h.0.0, any_cell (timed k) (elapsed c.time) (zero_bits c.time) h.0.1, h.0.2),
    choose_map (marks_children k) (Marks ts) (MarksBy (λ x. true) ts) (Lives ts) (LivesBy (λ x. true) ts) (λ u. any_marks ts u) (λ u. any_times ts u) h.1,
  )

  any_times : (ts : Forest) → Lives ts → LivesBy (λ x. true) ts
  any_times [] h = tt
  any_times (t ◂ ts) h = (any_time t h.0, any_times ts h.1)

  any_marks : (ts : Forest) → Marks ts → MarksBy (λ x. true) ts
  any_marks [] h = tt
  any_marks (t ◂ ts) h = (choose_map (marked t) (Ended t) (Ended t) (Live t) (LiveBy (λ x. true) t) (λ u. u) (λ u. any_time t u) h.0, any_marks ts h.1)

-- ---- the cell check
in_use_lem : (mayEnd : Bool) (k : Kind) (n : ℕ) (c : Cell) → LiveCell k n c → T (cell_allowed false mayEnd k n c)
unfolding cell_allowed
in_use_lem mayEnd k n c h =
    rw h.0 (and_i (cond (timed k) (elapsed c.time) (zero_bits c.time)) (leb c.place (last_place k n)) h.1 (le→leb c.place (last_place k n) h.2))

choose_fines : (b : Bool) (X Y : Type 0) (Z : Bool → Type 0) → (X → Z true) → (Y → Z false) → choose b X Y → Z b
choose_fines true X Y Z f g h = f h
choose_fines false X Y Z f g h = g h

mutual
  pub live_fine : (mayEnd : Bool) (t : Tree) → Live t → Fine false mayEnd t
  live_fine mayEnd (node k n l c b ts) h =
      (in_use_lem mayEnd k n c h.0, rw h.0.0 (choose_fines (marks_children k) (Marks ts) (Lives ts) (λ (z : Bool). Fines false z ts) (λ u. marks_fine ts u) (λ u. lives_fine ts u) h.1))

  lives_fine : (ts : Forest) → Lives ts → Fines false false ts
  lives_fine [] h = tt
  lives_fine (t ◂ ts) h = (live_fine false t h.0, lives_fine ts h.1)

  marks_fine : (ts : Forest) → Marks ts → Fines false true ts
  marks_fine [] h = tt
  marks_fine (t ◂ ts) h = (choose_fines (marked t) (Ended t) (Live t) (λ (z : Bool). Fine false true t) (λ u. u) (λ u. live_fine true t u) h.0, marks_fine ts h.1)

-- ---- and back: of cells that the check accepts
-- a mark is 0 or 1
one_not_zero : (m : ℕ) → T (eqb m 1) → eqb m 0 ≡ false
one_not_zero m h = rw (eqb→eq m 1 h)

live_cell : (mayEnd : Bool) (k : Kind) (n : ℕ) (c : Cell) → eqb c.mark 1 ≡ false → T (cell_allowed false mayEnd k n c) → LiveCell k n c
unfolding cell_allowed
live_cell mayEnd k n c u h = on (eqb c.mark 0) (eqb→eq c.mark 0) h
  where
    time : Bool
    time = cond (timed k) (elapsed c.time) (zero_bits c.time)

    place : Bool
    place = leb c.place (last_place k n)

    one : Bool
    one = eqb c.mark 1 && mayEnd

    on : (b : Bool) → (T b → c.mark ≡ 0) → T (cond b (time && place) (one && zero_bits c.time && eqb c.place 0)) → LiveCell k n c
    on true f g = (f tt, and_l time place g, leb→le c.place (last_place k n) (and_r time place g))
    on false f g = absurd (subst T u (and_l (eqb c.mark 1) mayEnd (and_l one (zero_bits c.time) (and_l (one && zero_bits c.time) (eqb c.place 0) g))))

-- where a child is marked, one may have ended
marked_ends : (mayEnd : Bool) (t : Tree) → marked t ≡ true → Fine false mayEnd t → T mayEnd
unfolding cell_allowed
marked_ends mayEnd (node k n l c b ts) u h =
    let one : Bool = eqb c.mark 1 in
    let time : Bool = zero_bits c.time in
    let place : Bool = eqb c.place 0 in
    let g : T (one && mayEnd && time && place) = rw (one_not_zero c.mark (subst T (sym u) tt)) at h.0 in
    and_r one mayEnd (and_l (one && mayEnd) time (and_l (one && mayEnd && time) place g))

choose_of : (b : Bool) (X Y : Type 0) (Z : Bool → Type 0) → (Z true → X) → (Z false → Y) → Z b → choose b X Y
choose_of true X Y Z f g h = f h
choose_of false X Y Z f g h = g h

-- a child where none may have ended; where one may
child_live : (t : Tree) → Fine false false t → (marked t ≡ false → Live t) → (b : Bool) → marked t ≡ b → Live t
child_live t h f true u = absurd (marked_ends false t u h)
child_live t h f false u = f u

child_mark : (t : Tree) → Fine false true t → (marked t ≡ false → Live t) → (b : Bool) → marked t ≡ b → choose b (Ended t) (Live t)
child_mark t h f true u = h
child_mark t h f false u = f u

mutual
  pub fine_live : (mayEnd : Bool) (t : Tree) → Fine false mayEnd t → marked t ≡ false → Live t
  fine_live mayEnd (node k n l c b ts) h u =
      (live_cell mayEnd k n c u h.0, choose_of (marks_children k) (Marks ts) (Lives ts) (λ (z : Bool). Fines false z ts) (λ v. fine_marks ts v) (λ v. fine_lives ts v) (rw u at h.1))

  fine_lives : (ts : Forest) → Fines false false ts → Lives ts
  fine_lives [] h = tt
  fine_lives (t ◂ ts) h = (child_live t h.0 (λ u. fine_live false t h.0 u) (marked t) refl, fine_lives ts h.1)

  fine_marks : (ts : Forest) → Fines false true ts → Marks ts
  fine_marks [] h = tt
  fine_marks (t ◂ ts) h = (child_mark t h.0 (λ u. fine_live true t h.0 u) (marked t) refl, fine_marks ts h.1)

-- ---- the board does not matter
mutual
  unfolding clear cell_allowed

  fine_clear : (ended mayEnd : Bool) (t : Tree) → Fine ended mayEnd t → Fine ended mayEnd (clear t)
  fine_clear ended mayEnd (node k n l c b ts) h = (h.0, fines_clear (ended || ended_in c) (marks_children k) ts h.1)

  fines_clear : (ended mayEnd : Bool) (ts : Forest) → Fines ended mayEnd ts → Fines ended mayEnd (clear_all ts)
  fines_clear ended mayEnd [] h = tt
  fines_clear ended mayEnd (t ◂ ts) h = (fine_clear ended mayEnd t h.0, fines_clear ended mayEnd ts h.1)

pub live_clear : (t : Tree) → Live t → Live (clear t)
live_clear t h = fine_live false (clear t) (fine_clear false false t (live_fine false t h)) (clear_marked t ∙ live_unmarked elapsed t h)

-- a root has no mark
pub root_live : (t : Tree) → Fine false false t → Live t
root_live t h = child_live t h (λ u. fine_live false t h u) (marked t) refl

-- ---- what a table says of each node's number and limit
abbrev mutual
  pub Right : Shape → Type 0
  Right (shp k n l ss) = T (count_allowed k n) × (children k n ≡ count_of ss) × T (limit_allowed k l) × Rights ss

  pub Rights : Shapes → Type 0
  Rights Shape.[] = Unit {0}
  Rights (Shape.◌◂◌ s ss) = Right s × Rights ss

mutual
  pub tabled_right : (t : Tree) → Tabled t → Right (shape t)
  tabled_right (node k n l c b ts) h = (h.0, h.1 ∙ count_of_lem ts, h.2, tableds_right ts h.5)

  tableds_right : (ts : Forest) → Tableds ts → Rights (shapes ts)
  tableds_right [] h = tt
  tableds_right (t ◂ ts) h = (tabled_right t h.0, tableds_right ts h.1)
