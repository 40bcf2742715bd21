-- Reading a table from left to right: the open nodes as frames, and what is still to be read of each. What else is known of the frames is a parameter.
use mathlib.Core.Path.{◌≡◌, refl, sym, ap, subst, ◌∙◌}
use mathlib.Core.Bool.{Bool, true, false}
use mathlib.Core.List.{List}
use Prim.Native.Nat.{ℕ, zero, suc, ◌+◌, ◌-◌, ◌≤◌, ◌<◌, min}
use native.Mathlib.Numerals.{add-one}
use native.Mathlib.Omega.{arith}
use borrow.Author.Tests.{lt-ltb, le-ltb, leb-true, leb-false}
use lib.Dec.{leb}
use lib.Ieee.{Float}
use lib.ListN.{length, get_or, set, drop, drop_of_length-le}
use lib.Seq.{get_or-set_same, get_or-set_other}
use Rattle.rules.specs.declared.behavior.Kind.{Kind}
use Rattle.rules.specs.Kinds.{kind_of, children}
use Rattle.rules.specs.Tree.{zero_time, new_cell, Tree, node, Forest, [], ◌◂◌, size, count}
use Rattle.rules.specs.Table.{cleaned, row, rows, row_allowed, Read, got, fault, ◌and_then◌, read_children, read_tree}
use Rattle.rules.specs.Table as T
use Rattle.tables.specs.At.{Row, At, Ats}
use Rattle.tables.proofs.Placed.{size_pos, at_end, Alike, Same, at_keeps}

-- ---- the rows
abbrev row_at : List ℕ → List ℕ → List Float → ℕ → T.Row
row_at ks ns ls i = row (get_or ks i 0) (get_or ns i 0) (cleaned (get_or ls i zero_time))

drop_rows :
    (ks ns : List ℕ) (ls : List Float) (i : ℕ) → i < length (rows ks ns ls) →
    drop i (rows ks ns ls) ≡ List.◌∷◌ (row_at ks ns ls i) (drop (suc i) (rows ks ns ls))
unfolding rows
drop_rows List.[] ns ls i h = absurd (omega arith)
drop_rows (List.◌∷◌ k ks) List.[] ls i h = absurd (omega arith)
drop_rows (List.◌∷◌ k ks) (List.◌∷◌ n ns) List.[] i h = absurd (omega arith)
drop_rows (List.◌∷◌ k ks) (List.◌∷◌ n ns) (List.◌∷◌ l ls) zero h = refl
drop_rows (List.◌∷◌ k ks) (List.◌∷◌ n ns) (List.◌∷◌ l ls) (suc i) h = drop_rows ks ns ls i (omega arith)

-- ---- open nodes: place, kind, n, limit, the children that are read, the last first, and how many are owed behind the next
pub data Frame : Type 0 where
  frame : ℕ → Kind → ℕ → Float → Forest → ℕ → Frame

abbrev pub onto : Forest → Forest → Forest
onto [] ts = ts
onto (t ◂ kids) ts = onto kids (t ◂ ts)

count_onto : (kids ts : Forest) → count (onto kids ts) ≡ count kids + count ts
count_onto [] ts = omega arith
count_onto (t ◂ kids) ts = omega (arith, count_onto kids (t ◂ ts))

-- a node as a table makes it
abbrev pub made : Kind → ℕ → Float → Forest → Tree
made k n l ts = node k n l new_cell 0 ts

-- what is read once the next tree is, d levels below
unfoldable resume : ℕ → List Frame → Read Tree → Read Tree
resume d List.[] r = r
resume d (List.◌∷◌ (frame p k n l kids m) σ) r =
    resume (suc d) σ (r and_then λ t at rs. read_children (read_tree d) m at rs and_then λ ts at' rs'. got (made k n l (onto kids (t ◂ ts))) at' rs')

resume_fault : (d : ℕ) (σ : List Frame) (p : ℕ) → resume d σ (fault p) ≡ fault p
unfolding resume
resume_fault d List.[] p = refl
resume_fault d (List.◌∷◌ (frame q k n l kids m) σ) p = resume_fault (suc d) σ p

module _ (mk : Forest → Tree) where
  one_more :
      (t : Tree) (r : Read Forest) →
      ((r and_then λ ts at rs. got (t ◂ ts) at rs) and_then λ ts at rs. got (mk ts) at rs) ≡ (r and_then λ ts at rs. got (mk (t ◂ ts)) at rs)
  one_more t (got ts at rs) = refl
  one_more t (fault p) = refl

  regroup :
      (r : Read Tree) (rest : ℕ → List T.Row → Read Forest) →
      ((r and_then λ t at rs. rest at rs and_then λ ts at' rs'. got (t ◂ ts) at' rs') and_then λ ts at rs. got (mk ts) at rs) ≡
      (r and_then λ t at rs. rest at rs and_then λ ts at' rs'. got (mk (t ◂ ts)) at' rs')
  regroup (got t at rs) rest = one_more t (rest at rs)
  regroup (fault p) rest = refl

-- ---- one step of the reading
module _ (d at k n : ℕ) (l : Float) (rs : List T.Row) (σ : List Frame) (low : at < 256) where
  refused : row_allowed k n l ≡ false → read_tree (suc d) at (List.◌∷◌ (row k n l) rs) ≡ fault at
  unfolding read_tree
  refused h = rw (lt-ltb at 256 low, h)

  module _ (ok : row_allowed k n l ≡ true) where
    leaf :
        children (kind_of k) n ≡ 0 →
        read_tree (suc d) at (List.◌∷◌ (row k n l) rs) ≡ got (made (kind_of k) n l []) (suc at) rs
    unfolding read_tree read_children
    leaf e = rw (lt-ltb at 256 low, ok, e)

    descend :
        (m : ℕ) → children (kind_of k) n ≡ suc m →
        resume (suc d) σ (read_tree (suc d) at (List.◌∷◌ (row k n l) rs)) ≡
        resume d (List.◌∷◌ (frame at (kind_of k) n l [] m) σ) (read_tree d (suc at) rs)
    unfolding read_tree read_children resume
    descend m e =
        let groups = regroup (made (kind_of k) n l) (read_tree d (suc at) rs) (read_children (read_tree d) m) in
        rw (lt-ltb at 256 low, ok, e) (ap (resume (suc d) σ) groups)

module _ (d p : ℕ) (k : Kind) (n : ℕ) (l : Float) (kids : Forest) (σ : List Frame) (t : Tree) (at : ℕ) (rs : List T.Row) where
  next :
      (m : ℕ) →
      resume d (List.◌∷◌ (frame p k n l kids (suc m)) σ) (got t at rs) ≡
      resume d (List.◌∷◌ (frame p k n l (t ◂ kids) m) σ) (read_tree d at rs)
  unfolding read_tree read_children resume
  next m =
      ap (resume (suc d) σ) (regroup (λ ts. made k n l (onto kids (t ◂ ts))) (read_tree d at rs) (read_children (read_tree d) m))

  close :
      resume d (List.◌∷◌ (frame p k n l kids 0) σ) (got t at rs) ≡
      resume (suc d) σ (got (made k n l (onto kids (t ◂ []))) at rs)
  unfolding read_children resume
  close = refl

-- ---- the open nodes in the code's arrays
module _ (kinds ns : List ℕ) (limits : List Float) where
  abbrev Behind : List ℕ → ℕ → Forest → ℕ → Type 0
  Behind ends q [] stop = q ≡ stop
  Behind ends q (t ◂ kids) stop =
      (s : ℕ) × (Behind ends q kids s × (At kinds ns limits ends s t × (get_or ends s 0 ≡ stop)))

  -- the innermost owes `left` children behind the next one, and `owed` has for each node what is owed around it
  abbrev Open : List ℕ → List ℕ → List ℕ → List Frame → ℕ → ℕ → Type 0
  Open begins owed ends List.[] left at = (left ≡ 0) × (at ≡ 0)
  Open begins owed ends (List.◌∷◌ (frame p k n l kids m) σ) left at =
      Row kinds ns limits p k n l (count kids + suc m) × (Behind ends (suc p) kids at × ((left ≡ m) ×
      ((get_or begins (length σ) 0 ≡ p) × Open begins owed ends σ (get_or owed (length σ) 0) p)))

  -- a node of which one more child is counted
  recount :
      {p : ℕ} {k : Kind} {n : ℕ} {l : Float} {m m' : ℕ} →
      Row kinds ns limits p k n l m → m ≡ m' → Row kinds ns limits p k n l m'
  recount r e = rw e at r

  behind_le : (kids : Forest) (ends : List ℕ) (q stop : ℕ) → Behind ends q kids stop → q ≤ stop
  behind_le [] ends q stop h = omega arith
  behind_le (t ◂ kids) ends q stop (s, (b, (a, e))) =
      omega (arith, behind_le kids ends q s b, at_end kinds ns limits t ends s a)

  behind_ats :
      (kids ts : Forest) (ends : List ℕ) (q s stop : ℕ) →
      Behind ends q kids s → Ats kinds ns limits ends s ts stop →
      Ats kinds ns limits ends q (onto kids ts) stop
  behind_ats [] ts ends q s stop b h = subst (λ (x : ℕ). Ats kinds ns limits ends x ts stop) (sym b) h
  behind_ats (t ◂ kids) ts ends q s stop (s', (b, (a, e))) h =
      behind_ats kids (t ◂ ts) ends q s' stop b (a, subst (λ (x : ℕ). Ats kinds ns limits ends x ts stop) (sym e) h)

  module _ (ends ends' : List ℕ) where
    behind_keeps :
        (kids : Forest) (q stop : ℕ) → Behind ends q kids stop → Same ends ends' q stop →
        Behind ends' q kids stop
    behind_keeps [] q stop h same = h
    behind_keeps (t ◂ kids) q stop (s, (b, (a, e))) same =
        let le = behind_le kids ends q s b in
        let to = at_end kinds ns limits t ends s a in
        let pos = size_pos t in
        let before = behind_keeps kids q s b (λ j x y. same j x (omega arith)) in
        let last = at_keeps kinds ns limits ends ends' t s a (λ j x y. same j (omega arith) (omega arith)) in
        (s, (before, (last, same s le (omega arith) ∙ e)))

    module _ (begins begins' owed owed' : List ℕ) where
      open_keeps :
          (σ : List Frame) (left at : ℕ) → Open begins owed ends σ left at →
          Alike 0 begins begins' (length σ) → Alike 0 owed owed' (length σ) → Alike 0 ends ends' at →
          Open begins' owed' ends' σ left at
      open_keeps List.[] left at h sb so se = h
      open_keeps (List.◌∷◌ (frame p k n l kids m) σ) left at (r, (b, (o, (g, h)))) sb so se =
          let le = behind_le kids ends (suc p) at b in
          let kids' = behind_keeps kids (suc p) at b (λ j x y. se j y) in
          let below = open_keeps σ (get_or owed (length σ) 0) p h (λ i x. sb i (omega arith)) (λ i x. so i (omega arith)) (λ j x. se j (omega arith)) in
          let below' = subst (λ (x : ℕ). Open begins' owed' ends' σ x p) (sym (so (length σ) (omega arith))) below in
          (r, (kids', (o, (sb (length σ) (omega arith) ∙ g, below'))))

  -- ---- what the loops keep
  abbrev all : List T.Row
  all = rows kinds ns limits

  -- the tree at `at` is next in a table that may be so deep at most, and P is known of the frames
  pub record Reading (most : ℕ) (P : List Frame → Type 0) (begins owed ends : List ℕ) (open' left at : ℕ) : Type 0 where
    deep : ℕ
    frames : List Frame
    level : open' ≡ length frames
    levels : deep + length frames ≡ most
    pub owes : 0 < left
    opened : Open begins owed ends frames (left - 1) at
    reads : resume deep frames (read_tree deep at (drop at all)) ≡ read_tree most 0 all
    known : P frames

  -- a tree that ends at `at` is read, and Q is known of it, its place and the frames
  pub record Closing (most : ℕ) (Q : Tree → ℕ → List Frame → Type 0) (begins owed ends : List ℕ) (open' left at : ℕ) : Type 0 where
    deep : ℕ
    frames : List Frame
    tree : Tree
    place : ℕ
    level : open' ≡ length frames
    levels : deep + length frames ≡ most
    opened : Open begins owed ends frames left place
    placed : At kinds ns limits ends place tree
    stop : get_or ends place 0 ≡ at
    reads : resume deep frames (got tree at (drop at all)) ≡ read_tree most 0 all
    known : Q tree place frames

  pub start : {most : ℕ} {P : List Frame → Type 0} (begins owed ends : List ℕ) → P List.[] → Reading most P begins owed ends 0 1 0
  unfolding resume
  start {most = most} begins owed ends h =
      record { deep = most; frames = List.[]; level = refl; levels = omega arith; owes = omega arith; opened = (refl, refl); reads = refl; known = h }

  module _ {most : ℕ} {P : List Frame → Type 0} (begins owed ends : List ℕ) (open' left at : ℕ) (r : Reading most P begins owed ends open' left at) where
    -- ends from `at` on do not matter
    pub ends_alike : {P' : List Frame → Type 0} (ends' : List ℕ) → Alike 0 ends ends' at → ((σ : List Frame) → P σ → P' σ) → Reading most P' begins owed ends' open' left at
    ends_alike ends' same knows = record {
      deep = r.deep;
      frames = r.frames;
      level = r.level;
      levels = r.levels;
      owes = r.owes;
      opened = open_keeps ends ends' begins begins owed owed r.frames (left - 1) at r.opened (λ i x. refl) (λ i x. refl) same;
      reads = r.reads;
      known = knows r.frames r.known;
    }

    ends_here : read_tree r.deep at (drop at all) ≡ fault at → read_tree most 0 all ≡ fault at
    ends_here e = sym r.reads ∙ ap (resume r.deep r.frames) e ∙ resume_fault r.deep r.frames at

    fault_none : (d : ℕ) → length all ≤ at → read_tree d at (drop at all) ≡ fault at
    unfolding read_tree
    fault_none zero h = refl
    fault_none (suc d) h = rw (drop_of_length-le all h)

    fault_wide : (d : ℕ) → 256 ≤ at → (rs : List T.Row) → read_tree d at rs ≡ fault at
    unfolding read_tree
    fault_wide zero h rs = refl
    fault_wide (suc d) h List.[] = refl
    fault_wide (suc d) h (List.◌∷◌ (row k n l) rs) = rw (le-ltb at 256 h)

    past_by : (b : Bool) → leb (length all) at ≡ b → min (length all) 256 ≤ at → read_tree most 0 all ≡ fault at
    past_by true e h = ends_here (fault_none r.deep (leb-true (length all) at e))
    past_by false e h =
        let f = leb-false (length all) at e in
        ends_here (fault_wide r.deep (omega arith) (drop at all))

    pub past : min (length all) 256 ≤ at → read_tree most 0 all ≡ fault at
    past h = past_by _ refl h

    pub too_deep : most ≤ open' → read_tree most 0 all ≡ fault at
    unfolding read_tree
    too_deep h =
        let z : r.deep ≡ 0 = omega (arith, r.level, r.levels) in
        ends_here (rw z)

    module _ (low : at < 256) (inside : at < length all) (room : open' < most) where
      abbrev k : ℕ
      k = get_or kinds at 0

      abbrev n : ℕ
      n = get_or ns at 0

      abbrev l : Float
      l = cleaned (get_or limits at zero_time)

      level_up : r.deep ≡ suc (r.deep - 1)
      level_up = omega (arith, r.level, r.levels)

      abbrev from : List T.Row
      from = List.◌∷◌ (row k n l) (drop (suc at) all)

      reads_row : resume (suc (r.deep - 1)) r.frames (read_tree (suc (r.deep - 1)) at from) ≡ read_tree most 0 all
      reads_row =
          let reads = rw (drop_rows kinds ns limits at inside) at r.reads in
          subst (λ (d : ℕ). resume d r.frames (read_tree d at from) ≡ read_tree most 0 all) level_up reads

      row_here : {m : ℕ} → row_allowed k n l ≡ true → m ≡ children (kind_of k) n → Row kinds ns limits at (kind_of k) n l m
      row_here ok e = record { kind = refl; number = refl; limit = refl; allowed = ok; kids = e }

      pub refuses : row_allowed k n l ≡ false → read_tree most 0 all ≡ fault at
      refuses h =
          let none = refused (r.deep - 1) at k n l (drop (suc at) all) r.frames low h in
          sym reads_row ∙ ap (resume (suc (r.deep - 1)) r.frames) none ∙ resume_fault (suc (r.deep - 1)) r.frames at

      module _ (ok : row_allowed k n l ≡ true) (c : ℕ) (e : c ≡ children (kind_of k) n) where
        pub descends :
            {P' : List Frame → Type 0} → 0 < c → most ≤ length begins → most ≤ length owed →
            ((σ : List Frame) (m : ℕ) → open' ≡ length σ → P σ → P' (List.◌∷◌ (frame at (kind_of k) n l [] m) σ)) →
            Reading most P' (set begins open' at) (set owed open' (left - 1)) ends (open' + 1) c (at + 1)
        descends pos lb lo knows =
            let σ = r.frames in
            let lev = r.level in
            let more : children (kind_of k) n ≡ suc (c - 1) = omega arith in
            let begins' = set begins open' at in
            let owed' = set owed open' (left - 1) in
            let here : get_or begins' (length σ) 0 ≡ at = rw (← lev) (get_or-set_same begins open' at 0 (omega arith)) in
            let around : get_or owed' (length σ) 0 ≡ left - 1 = rw (← lev) (get_or-set_same owed open' (left - 1) 0 (omega arith)) in
            let others : Alike 0 begins begins' (length σ) = λ i x. get_or-set_other begins open' i at 0 (omega arith) in
            let others' : Alike 0 owed owed' (length σ) = λ i x. get_or-set_other owed open' i (left - 1) 0 (omega arith) in
            let below = open_keeps ends ends begins begins' owed owed' σ (left - 1) at r.opened others others' (λ j x. refl) in
            let below' = subst (λ (x : ℕ). Open begins' owed' ends σ x at) (sym around) below in
            record {
              deep = r.deep - 1;
              frames = List.◌∷◌ (frame at (kind_of k) n l [] (c - 1)) σ;
              level = omega arith;
              levels = omega (arith, r.levels, level_up);
              owes = pos;
              opened = (row_here ok (omega arith), (omega arith, (refl, (here, below'))));
              reads = rw (add-one at) (sym (descend (r.deep - 1) at k n l (drop (suc at) all) σ low ok (c - 1) more) ∙ reads_row);
              known = knows σ (c - 1) lev r.known;
            }

        pub leaves :
            {Q : Tree → ℕ → List Frame → Type 0} → c ≤ 0 → at < length ends →
            ((σ : List Frame) → P σ → Q (made (kind_of k) n l []) at σ) →
            Closing most Q begins owed (set ends at (at + 1)) open' (left - 1) (at + 1)
        leaves none le knows =
            let σ = r.frames in
            let ends' = set ends at (at + 1) in
            let here : get_or ends' at 0 ≡ at + 1 = get_or-set_same ends at (at + 1) 0 (omega arith) in
            let others : Alike 0 ends ends' at = λ j x. get_or-set_other ends at j (at + 1) 0 (omega arith) in
            let zero' : children (kind_of k) n ≡ 0 = omega arith in
            let alone = sym (leaf (r.deep - 1) at k n l (drop (suc at) all) σ low ok zero') in
            record {
              deep = r.deep;
              frames = σ;
              tree = made (kind_of k) n l [];
              place = at;
              level = r.level;
              levels = r.levels;
              opened = open_keeps ends ends' begins begins owed owed σ (left - 1) at r.opened (λ i x. refl) (λ i x. refl) others;
              placed = (row_here ok (sym zero'), omega arith);
              stop = here;
              reads = rw (level_up, add-one at) (ap (resume (suc (r.deep - 1)) σ) alone ∙ reads_row);
              known = knows σ r.known;
            }

  -- one child more of the innermost node is read; the innermost node is read
  abbrev pub Nexts : (Tree → ℕ → List Frame → Type 0) → (List Frame → Type 0) → ℕ → Type 0
  Nexts Q P at = (p : ℕ) (k : Kind) (n : ℕ) (l : Float) (kids : Forest) (m m' : ℕ) (σ : List Frame) (t : Tree) (q : ℕ)
      → at ≡ q + size t
      → Q t q (List.◌∷◌ (frame p k n l kids m) σ)
      → P (List.◌∷◌ (frame p k n l (t ◂ kids) m') σ)

  abbrev pub Closes : (Tree → ℕ → List Frame → Type 0) → (Tree → ℕ → List Frame → Type 0) → ℕ → Type 0
  Closes Q Q' open' = (p : ℕ) (k : Kind) (n : ℕ) (l : Float) (kids : Forest) (m : ℕ) (σ : List Frame) (t : Tree) (q : ℕ)
      → open' - 1 ≡ length σ
      → Q t q (List.◌∷◌ (frame p k n l kids m) σ)
      → Q' (made k n l (onto kids (t ◂ []))) p σ

  module _ (begins owed ends : List ℕ) (open' left at : ℕ) (low : at ≤ length ends) where
    module _ (d : ℕ) (t : Tree) (q : ℕ) (placed : At kinds ns limits ends q t) (stop : get_or ends q 0 ≡ at) where
      nexts_at :
          (most : ℕ) (Q : Tree → ℕ → List Frame → Type 0) (P : List Frame → Type 0)
          (σ : List Frame) → open' ≡ length σ → d + length σ ≡ most → Open begins owed ends σ left q →
          resume d σ (got t at (drop at all)) ≡ read_tree most 0 all →
          Q t q σ → Nexts Q P at → 0 < left →
          Reading most P begins owed ends open' left at
      nexts_at most Q P List.[] lev ups (none, z) reads known knows more = absurd (omega arith)
      nexts_at most Q P (List.◌∷◌ (frame p k n l kids m) σ) lev ups (r, (b, (o, (g, h)))) reads known knows more =
          let m' : m ≡ suc (left - 1) = omega arith in
          record {
            deep = d;
            frames = List.◌∷◌ (frame p k n l (t ◂ kids) (left - 1)) σ;
            level = lev;
            levels = ups;
            owes = more;
            opened = (recount r (omega arith), ((q, (b, (placed, stop))), (refl, (g, h))));
            reads = sym (next d p k n l kids σ t at (drop at all) (left - 1)) ∙ (rw m' at reads);
            known = knows p k n l kids m (left - 1) σ t q (omega (arith, stop, at_end kinds ns limits t ends q placed)) known;
          }

      -- the top node begins before its end
      begins_at : (σ : List Frame) → open' ≡ length σ → Open begins owed ends σ left q → 0 < open' → get_or begins (open' - 1) 0 < at
      begins_at List.[] lev opened pos = absurd (omega arith)
      begins_at (List.◌∷◌ (frame p k n l kids m) σ) lev (r, (b, (o, (g, h)))) pos =
          let top : open' - 1 ≡ length σ = omega arith in
          let g' : get_or begins (open' - 1) 0 ≡ p = rw top g in
          omega (arith, behind_le kids ends (suc p) q b, at_end kinds ns limits t ends q placed)

      closes_at :
          (most : ℕ) (Q Q' : Tree → ℕ → List Frame → Type 0)
          (σ : List Frame) → open' ≡ length σ → d + length σ ≡ most → Open begins owed ends σ left q →
          resume d σ (got t at (drop at all)) ≡ read_tree most 0 all →
          Q t q σ → Closes Q Q' open' → 0 < open' → left ≡ 0 →
          Closing most Q' begins owed (set ends (get_or begins (open' - 1) 0) at) (open' - 1) (get_or owed (open' - 1) 0) at
      closes_at most Q Q' List.[] lev ups opened reads known knows pos none = absurd (omega arith)
      closes_at most Q Q' (List.◌∷◌ (frame p k n l kids m) σ) lev ups (r, (b, (o, (g, h)))) reads known knows pos none =
          let top : open' - 1 ≡ length σ = omega arith in
          let g' : get_or begins (open' - 1) 0 ≡ p = rw top g in
          let h' : Open begins owed ends σ (get_or owed (open' - 1) 0) p = rw top h in
          let none' : m ≡ 0 = omega arith in
          let a = behind_le kids ends (suc p) q b in
          let z = at_end kinds ns limits t ends q placed in
          let ends' = set ends p at in
          let here : get_or ends' p 0 ≡ at = get_or-set_same ends p at 0 (omega arith) in
          let before : Alike 0 ends ends' p = λ j x. get_or-set_other ends p j at 0 (omega arith) in
          let others : Same ends ends' (suc p) at = λ j x y. get_or-set_other ends p j at 0 (omega arith) in
          let kids' = behind_keeps ends ends' kids (suc p) q b (λ j x y. others j x (omega arith)) in
          let last = at_keeps kinds ns limits ends ends' t q placed (λ j x y. others j (omega arith) (omega arith)) in
          let stop' = others q a (omega (arith, size_pos t)) ∙ stop ∙ sym here in
          rw g' (record {
            deep = suc d;
            frames = σ;
            tree = made k n l (onto kids (t ◂ []));
            place = p;
            level = top;
            levels = omega arith;
            opened = open_keeps ends ends' begins begins owed owed σ (get_or owed (open' - 1) 0) p h' (λ i x. refl) (λ i x. refl) before;
            placed = (recount r (omega (arith, count_onto kids (t ◂ []))), behind_ats kids (t ◂ []) ends' (suc p) q (get_or ends' p 0) kids' (last, stop'));
            stop = here;
            reads = sym (close d p k n l kids σ t at (drop at all)) ∙ (rw none' at reads);
            known = knows p k n l kids m σ t q top known;
          })

    module _ {most : ℕ} {Q : Tree → ℕ → List Frame → Type 0} (c : Closing most Q begins owed ends open' left at) where
      pub nexts : {P : List Frame → Type 0} → Nexts Q P at → 0 < left → Reading most P begins owed ends open' left at
      nexts {P} = nexts_at c.deep c.tree c.place c.placed c.stop most Q P c.frames c.level c.levels c.opened c.reads c.known

      pub begins_before : 0 < open' → get_or begins (open' - 1) 0 < at
      begins_before = begins_at c.deep c.tree c.place c.placed c.stop c.frames c.level c.opened

      pub closes :
          {Q' : Tree → ℕ → List Frame → Type 0} → Closes Q Q' open' → 0 < open' → left ≡ 0 →
          Closing most Q' begins owed (set ends (get_or begins (open' - 1) 0) at) (open' - 1) (get_or owed (open' - 1) 0) at
      closes {Q'} = closes_at c.deep c.tree c.place c.placed c.stop most Q Q' c.frames c.level c.levels c.opened c.reads c.known

  -- ---- the root is read
  pub record Whole (most : ℕ) (Q : Tree → ℕ → List Frame → Type 0) (ends : List ℕ) (at : ℕ) : Type 0 where
    pub tree : Tree
    pub reads : read_tree most 0 all ≡ got tree at (drop at all)
    pub placed : At kinds ns limits ends 0 tree
    pub sized : at ≡ size tree
    pub known : Q tree 0 List.[]

  module _ (begins owed ends : List ℕ) where
    whole_at :
        (most : ℕ) (Q : Tree → ℕ → List Frame → Type 0) (left at d : ℕ) (σ : List Frame) (t : Tree) (q : ℕ) →
        length σ ≡ 0 → Open begins owed ends σ left q → At kinds ns limits ends q t → get_or ends q 0 ≡ at →
        resume d σ (got t at (drop at all)) ≡ read_tree most 0 all → Q t q σ →
        Whole most Q ends at
    unfolding resume
    whole_at most Q left at d List.[] t q lev (none, opened) placed stop reads known =
        let root : At kinds ns limits ends 0 t = rw opened at placed in
        record { tree = t; reads = sym reads; placed = root; sized = omega (arith, at_end kinds ns limits t ends q placed); known = rw opened at known }
    whole_at most Q left at d (List.◌∷◌ f σ) t q lev opened placed stop reads known = absurd (omega arith)

    pub whole : {most : ℕ} {Q : Tree → ℕ → List Frame → Type 0} (open' left at : ℕ) → Closing most Q begins owed ends open' left at → open' ≡ 0 → Whole most Q ends at
    whole {most} {Q} open' left at c h =
        let none : length c.frames ≡ 0 = omega (arith, c.level) in
        whole_at most Q left at c.deep c.frames c.tree c.place none c.opened c.placed c.stop c.reads c.known
