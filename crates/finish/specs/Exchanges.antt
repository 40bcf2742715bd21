-- An exchange where no state is held keeps what a tree that has not ended keeps to: the parts in progress are as they were, whatever the new branch is.
use Rattle.std.specs.Prelude.{◌≡◌, Bool, true, false, not, ◌&&◌, ◌||◌, T, ltb, eqb, Float}
use Rattle.std.proofs.Math.Path.{refl}
use Rattle.std.proofs.Common.{sym, subst, add-zero, zero-add, eq-eqb}
use Rattle.std.proofs.Math.Bool.{and-false, and-eq-true_iff}
use Prim.Native.Nat.{ℕ, zero, suc, ◌+◌, ◌-◌, ◌<◌, min, max}
use native.Mathlib.Omega.{arith}
use Rattle.std.specs.Float.{Format}
use Rattle.rules.specs.declared.behavior.Kind.{Kind}
use Rattle.rules.specs.declared.behavior.Kind.TheVariants.{Wait, WaitForever, Action, Invert, AlwaysSucceed, Timeout, Select, If, Sequence}
use Rattle.rules.specs.declared.behavior.Kind.TheVariants.{MemorylessSequence, MemorylessSelector, While, WhileAll, WhenAll, WhenAny, After, Race}
use Rattle.rules.specs.Tree.{Cell, Tree, node, Forest, [], ◌◂◌, size, count, marked}
use Rattle.rules.specs.Exchange.{spot, free, free_in, replaced, replaced_in}
use Rattle.laws.specs.Tests.{below_or_not}
use Rattle.laws.specs.ReadBack.{Sound, Sounds}
use Rattle.finish.specs.Enough.{unless}
use Rattle.finish.specs.Valid.{some_open, open_or_none, in_body, Valid, ValidAt, ValidLoop, ValidAll, ValidFrom, ValidMarks}

never : {A : Type 0} → false ≡ true → A
never e = absurd (subst T (sym e) tt)

-- a child that is no spot: the node in it is one further down, and the child has no mark
lies_in : (k : Kind) (n place i : ℕ) (t : Tree) (p : ℕ) → spot k n place i ≡ false → not (marked t) && free (false || spot k n place i) t p ≡ true → free false t p ≡ true
lies_in k n place i t p s h = ((and-eq-true_iff (not (marked t)) (free false t p)).0 (rw s at h)).1

-- its root stays, and with it its mark
marked_stays : (t : Tree) (p : ℕ) (u : Tree) → free false t p ≡ true → marked (replaced t p u) ≡ marked t
unfolding free replaced
marked_stays (node k n l c b ts) zero u f = never f
marked_stays (node k n l c b ts) (suc p) u f = refl

-- ---- the child in progress is no spot
at_place : (p n : ℕ) → p < n → not (eqb p (min p (n - 1))) ≡ false
at_place p n h = let e : min p (n - 1) ≡ p = omega arith in rw (e, eq-eqb p p refl)

chosen : (p : ℕ) → not (eqb p p) ≡ false
chosen p = rw (eq-eqb p p refl)

in_body_lem : (q x : ℕ) → not (eqb q x) ≡ false → ltb 0 q && not (eqb q x) ≡ false
in_body_lem q x e = rw (e, and-false (ltb 0 q))

module _ (F : Format) (u : Tree) where
  at_low : (ts : Forest) (q : ℕ) → ValidAt F ts q → q < count ts
  at_low [] q v = absurd v
  at_low (t ◂ ts) zero v = omega arith
  at_low (t ◂ ts) (suc q) v = omega (arith, at_low ts q v)

  loop_of : (ts : Forest) (q : ℕ) → ValidAt F ts 0 → ValidAt F ts (suc q) → ValidLoop F ts q
  loop_of [] q a b = absurd a
  loop_of (t ◂ ts) q a b = (a, b)

  of_loop : (ts : Forest) (q : ℕ) → ValidLoop F ts q → ValidAt F ts 0 × ValidAt F ts (suc q)
  of_loop [] q v = absurd v
  of_loop (t ◂ ts) q v = (v.0, v.1)

  -- what is asked of each tree
  abbrev Keeps : Tree → ℕ → Type 0
  Keeps t p = Sound t → Valid F t → free false t p ≡ true → Valid F (replaced t p u)

  abbrev AllKeep : Forest → Type 0
  AllKeep [] = Unit {0}
  AllKeep (t ◂ ts) = ((p : ℕ) → Keeps t p) × AllKeep ts

  module _ (k : Kind) (n place : ℕ) where
    -- the child number i + q is in progress, where the trees are the children from number i on
    at_keeps : (ts : Forest) → AllKeep ts → (i q p : ℕ) → Sounds ts → spot k n place (i + q) ≡ false → ValidAt F ts q → free_in false k n place i ts p ≡ true
        → ValidAt F (replaced_in ts p u) q
    unfolding free replaced
    at_keeps [] a i q p s e v f = absurd v
    at_keeps (t ◂ ts) a i zero p s e v f = below_or_not p (size t)
        (λ x m. rw x (a.0 p s.0 v (lies_in k n place i t p (rw (add-zero i) at e) (rw x at f))))
        (λ x m. rw x v)
    at_keeps (t ◂ ts) a i (suc q) p s e v f =
        let z : i + suc q ≡ suc i + q = omega arith in
        below_or_not p (size t)
        (λ x m. rw x v)
        (λ x m. rw x (at_keeps ts a.1 (suc i) q (p - size t) s.1 (rw z at e) v (rw x at f)))

    -- kinds without a spot
    module _ (no-spot : (i : ℕ) → spot k n place i ≡ false) where
      all_keep : (ts : Forest) → AllKeep ts → (i p : ℕ) → Sounds ts → ValidAll F ts → free_in false k n place i ts p ≡ true → ValidAll F (replaced_in ts p u)
      unfolding free replaced
      all_keep [] a i p s v f = tt
      all_keep (t ◂ ts) a i p s v f = below_or_not p (size t)
          (λ x m. rw x (a.0 p s.0 v.0 (lies_in k n place i t p (no-spot i) (rw x at f)), v.1))
          (λ x m. rw x (v.0, all_keep ts a.1 (suc i) (p - size t) s.1 v.1 (rw x at f)))

      from_keeps : (ts : Forest) → AllKeep ts → (i q p : ℕ) → Sounds ts → ValidFrom F ts q → free_in false k n place i ts p ≡ true → ValidFrom F (replaced_in ts p u) q
      unfolding free replaced
      from_keeps [] a i q p s v f = absurd v
      from_keeps (t ◂ ts) a i zero p s v f = below_or_not p (size t)
          (λ x m. rw x (a.0 p s.0 v.0 (lies_in k n place i t p (no-spot i) (rw x at f)), v.1))
          (λ x m. rw x (v.0, all_keep ts a.1 (suc i) (p - size t) s.1 v.1 (rw x at f)))
      from_keeps (t ◂ ts) a i (suc q) p s v f = below_or_not p (size t)
          (λ x m. rw x v)
          (λ x m. rw x (from_keeps ts a.1 (suc i) q (p - size t) s.1 v (rw x at f)))

      unless_keeps : (b : Bool) (X Y : Type 0) → (X → Y) → unless b X → unless b Y
      unless_keeps true X Y to h = tt
      unless_keeps false X Y to h = to h

      marks_keep : (ts : Forest) → AllKeep ts → (i p : ℕ) → Sounds ts → ValidMarks F ts → free_in false k n place i ts p ≡ true → ValidMarks F (replaced_in ts p u)
      unfolding free replaced
      marks_keep [] a i p s v f = tt
      marks_keep (t ◂ ts) a i p s v f = below_or_not p (size t)
          (λ x m.
          let g = lies_in k n place i t p (no-spot i) (rw x at f) in
          let here = unless_keeps (marked t) (Valid F t) (Valid F (replaced t p u)) (λ w. a.0 p s.0 w g) v.0 in
          rw x (rw (marked_stays t p u g) here, v.1))
          (λ x m. rw x (v.0, marks_keep ts a.1 (suc i) (p - size t) s.1 v.1 (rw x at f)))

      some_open_lem : (ts : Forest) (i p : ℕ) → free_in false k n place i ts p ≡ true → some_open (replaced_in ts p u) ≡ some_open ts
      unfolding free replaced
      some_open_lem [] i p f = refl
      some_open_lem (t ◂ ts) i p f = below_or_not p (size t)
          (λ x m. rw (x, marked_stays t p u (lies_in k n place i t p (no-spot i) (rw x at f))))
          (λ x m. rw (x, some_open_lem ts (suc i) (p - size t) (rw x at f)))

      open_stays : (ts : Forest) (p : ℕ) → free_in false k n place 0 ts p ≡ true → open_or_none (replaced_in ts p u) ≡ open_or_none ts
      unfolding free replaced
      open_stays [] p f = refl
      open_stays (t ◂ ts) p f =
          let same = some_open_lem (t ◂ ts) 0 p f in
          below_or_not p (size t) (λ x m. rw x (rw x at same)) (λ x m. rw x (rw x at same))

  by_kind : (k : Kind) (n : ℕ) (l : Float) (c : Cell) (b : ℕ) (ts : Forest) → AllKeep ts → (p : ℕ) → Sound (node k n l c b ts) → Valid F (node k n l c b ts)
      → free_in false k n c.place 0 ts p ≡ true → Valid F (node k n l c b (replaced_in ts p u))
  by_kind Wait n l c b ts a p s v f = v
  by_kind WaitForever n l c b ts a p s v f = tt
  by_kind Action n l c b ts a p s v f = tt
  by_kind Invert n l c b ts a p s v f = at_keeps Invert n c.place ts a 0 0 p s.4 refl v f
  by_kind AlwaysSucceed n l c b ts a p s v f = at_keeps AlwaysSucceed n c.place ts a 0 0 p s.4 refl v f
  by_kind Timeout n l c b ts a p s v f = (v.0, v.1, at_keeps Timeout n c.place ts a 0 0 p s.4 refl v.2 f)
  by_kind Select n l c b ts a p s v f =
      let low : c.place < n = omega (arith, at_low ts c.place v, s.1) in
      at_keeps Select n c.place ts a 0 c.place p s.4 (rw (zero-add c.place) (at_place c.place n low)) v f
  by_kind If n l c b ts a p s v f = at_keeps If n c.place ts a 0 c.place p s.4 (rw (zero-add c.place) (chosen c.place)) v f
  by_kind Sequence n l c b ts a p s v f =
      let low : c.place < n = omega (arith, at_low ts c.place v, s.1) in
      at_keeps Sequence n c.place ts a 0 c.place p s.4 (rw (zero-add c.place) (at_place c.place n low)) v f
  by_kind MemorylessSequence n l c b ts a p s v f = tt
  by_kind MemorylessSelector n l c b ts a p s v f = tt
  by_kind While n l c b ts a p s v f =
      let two = of_loop ts c.place v in
      loop_of (replaced_in ts p u) c.place
      (at_keeps While n c.place ts a 0 0 p s.4 refl two.0 f)
      (at_keeps While n c.place ts a 0 (suc c.place) p s.4 (rw (zero-add (suc c.place)) (in_body_lem (suc c.place) (suc c.place) (chosen (suc c.place)))) two.1 f)
  by_kind WhileAll n l c b ts a p s v f =
      let two = of_loop ts (in_body c.place) v in
      loop_of (replaced_in ts p u) (in_body c.place)
      (at_keeps WhileAll n c.place ts a 0 0 p s.4 refl two.0 f)
      (at_keeps WhileAll n c.place ts a 0 (suc (in_body c.place)) p s.4 (in_progress c.place) two.1 f)
    where
      body : (q : ℕ) → not (eqb (suc (in_body q)) (max 1 q)) ≡ false
      body zero = refl
      body (suc q) = let e : max 1 (suc q) ≡ suc q = omega arith in rw e (chosen (suc q))

      in_progress : (q : ℕ) → spot WhileAll n q (0 + suc (in_body q)) ≡ false
      in_progress q = rw (zero-add (suc (in_body q))) (in_body_lem (suc (in_body q)) (max 1 q) (body q))
  by_kind WhenAll n l c b ts a p s v f =
      (marks_keep WhenAll n c.place (λ i. refl) ts a 0 p s.4 v.0 f, rw (open_stays WhenAll n c.place (λ i. refl) ts p f) v.1)
  by_kind WhenAny n l c b ts a p s v f =
      (marks_keep WhenAny n c.place (λ i. refl) ts a 0 p s.4 v.0 f, rw (open_stays WhenAny n c.place (λ i. refl) ts p f) v.1)
  by_kind After n l c b ts a p s v f = from_keeps After n c.place (λ i. refl) ts a 0 c.place p s.4 v f
  by_kind Race n l c b ts a p s v f = all_keep Race n c.place (λ i. refl) ts a 0 p s.4 v f

  mutual
    unfolding free replaced

    keeps : (t : Tree) (p : ℕ) → Keeps t p
    keeps (node k n l c b ts) zero s v f = never f
    keeps (node k n l c b ts) (suc p) s v f = by_kind k n l c b ts (all_trees ts) p s v f

    all_trees : (ts : Forest) → AllKeep ts
    all_trees [] = tt
    all_trees (t ◂ ts) = (λ p s v f. keeps t p s v f, all_trees ts)

  pub exchange_valid : (t : Tree) (p : ℕ) → Sound t → Valid F t → free false t p ≡ true → Valid F (replaced t p u)
  exchange_valid t p s v f = keeps t p s v f
