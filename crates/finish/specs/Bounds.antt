-- The number that the finish bound gives is enough for a fresh tree.
use Rattle.std.specs.Prelude.{◌≡◌, refl, ◌⊎◌, ℕ, zero, suc, ◌+◌, ◌-◌, ◌*◌, ◌/◌, ◌%◌, ◌≤◌, ◌<◌, max, min}
use Rattle.std.proofs.Common.{inl, inr, le_trans, le_refl, not-suc-le-zero, div-add-mod', mod-lt, mul-le-mul_right, arith}
use Rattle.std.specs.Float.{Format}
use Rattle.rules.specs.declared.behavior.Kind.TheVariants.{Wait, WaitForever, Action, Invert, AlwaysSucceed, Timeout, Select, If, Sequence}
use Rattle.rules.specs.declared.behavior.Kind.TheVariants.{MemorylessSequence, MemorylessSelector, While, WhileAll, WhenAll, WhenAny, After, Race}
use Rattle.rules.specs.Tree.{Tree, node, Forest, [], ◌◂◌}
use Rattle.rules.specs.Bound.{num, Lim, never, within, sum_l, max_l, times_l, min_l, own_ticks, bound, first, sum, largest, smallest, first_and_largest, first_times_sum}
use Rattle.laws.specs.Shape.{Shape, shp, Shapes, shape, shapes}
use Rattle.finish.specs.Shaped.{Shaped, Shapeds, Shaped₁, Shaped₂, Shaped₃}
use Rattle.laws.specs.Shape
use Rattle.finish.specs.Enough.{Enough, EnoughFirst, EnoughSum, EnoughMax, EnoughMin, EnoughIf, EnoughLoop}

-- k is at least the number; nothing is at least none
abbrev pub Is : Lim → ℕ → Type 0
Is never k = ⊥
Is (within n) k = n ≤ k

sum_split : (a b : Lim) (k : ℕ) → Is (sum_l a b) k → (x : ℕ) × (y : ℕ) × (x + y ≤ k) × Is a x × Is b y
sum_split never b k h = absurd h
sum_split (within a) never k h = absurd h
sum_split (within a) (within b) k h = (a, b, h, le_refl a, le_refl b)

max_split : (a b : Lim) (k : ℕ) → Is (max_l a b) k → Is a k × Is b k
max_split never b k h = absurd h
max_split (within a) never k h = absurd h
max_split (within a) (within b) k h = (omega arith, omega arith)

min_is : (a b k : ℕ) → min a b ≤ k → (a ≤ k) ⊎ (b ≤ k)
min_is a b k h = elim (total a b) [ inl x ↦ inl (omega arith) | inr x ↦ inr (omega arith) ]
  where
    total : (a b : ℕ) → (a ≤ b) ⊎ (b ≤ a)
    total zero b = inl (omega arith)
    total (suc a) zero = inr (omega arith)
    total (suc a) (suc b) = elim (total a b) [ inl x ↦ inl (omega arith) | inr x ↦ inr (omega arith) ]

min_split : (a b : Lim) (k : ℕ) → Is (min_l a b) k → Is a k ⊎ Is b k
min_split never b k h = inr h
min_split (within a) never k h = inl h
min_split (within a) (within b) k h = min_is a b k h

times_split : (a b : Lim) (k : ℕ) → Is (times_l a b) k → (x : ℕ) × (y : ℕ) × (x * y ≤ k) × Is a x × Is b y
times_split never b k h = absurd h
times_split (within a) never k h = absurd h
times_split (within a) (within b) k h = (a, b, h, le_refl a, le_refl b)

module _ (F : Format) (d : ℕ) (pos : 0 < d) where
  own : (l k : ℕ) → max 1 ((l + (d - 1)) / d) ≤ k → (1 ≤ k) × (l ≤ k * d)
  own l k h =
      let q : ℕ = (l + (d - 1)) / d in
      let r : ℕ = (l + (d - 1)) % d in
      let e : q * d + r ≡ l + (d - 1) = div-add-mod' (l + (d - 1)) d in
      let f : r < d = mod-lt (l + (d - 1)) pos in
      let m : q * d ≤ k * d = mul-le-mul_right d (under q k h) in
      (least q k h, ceil (q * d) r l (k * d) d e f m)
    where
      least : (q k : ℕ) → max 1 q ≤ k → 1 ≤ k
      least q k h = omega arith

      under : (q k : ℕ) → max 1 q ≤ k → q ≤ k
      under q k h = omega arith

      ceil : (a r l b d : ℕ) → a + r ≡ l + (d - 1) → r < d → a ≤ b → l ≤ b
      ceil a r l b d e f m = omega arith

  sum_zero : (a b : ℕ) → a + b ≤ 0 → a ≡ 0
  sum_zero a b h = omega arith

  mul_zero : (a b : ℕ) → a * b ≤ 0 → 1 ≤ b → a ≡ 0
  mul_zero zero b h k = refl
  mul_zero (suc a) b h k = absurd (not-suc-le-zero (le_trans k (le_trans (omega arith) h)))

  mutual
    enough_pos : (s : Shape) → Shaped F s → Enough d s 0 → ⊥
    enough_pos (shp Wait n l ts) s h = not-suc-le-zero h.0
    enough_pos (shp WaitForever n l ts) s h = h
    enough_pos (shp Action n l ts) s h = h
    enough_pos (shp Invert n l ts) s h = first_pos ts s h
    enough_pos (shp AlwaysSucceed n l ts) s h = first_pos ts s h
    enough_pos (shp Timeout n l ts) s h = elim h [ inl g ↦ not-suc-le-zero g.0 | inr g ↦ first_pos ts s.1 g ]
    enough_pos (shp Select n l ts) s h = sum_pos ts s h
    enough_pos (shp If n l ts) s h = if_pos ts s h
    enough_pos (shp Sequence n l ts) s h = sum_pos ts s h
    enough_pos (shp MemorylessSequence n l Shape.[]) s h = not-suc-le-zero h
    enough_pos (shp MemorylessSequence n l (Shape.◌◂◌ t ts)) s h = h
    enough_pos (shp MemorylessSelector n l Shape.[]) s h = not-suc-le-zero h
    enough_pos (shp MemorylessSelector n l (Shape.◌◂◌ t ts)) s h = h
    enough_pos (shp While n l ts) s h = cond_pos ts s h
    enough_pos (shp WhileAll n l ts) s h = loop_pos ts s h
    enough_pos (shp WhenAll n l ts) s h = max_pos ts h
    enough_pos (shp WhenAny n l ts) s h = max_pos ts h
    enough_pos (shp After n l ts) s h = max_pos ts h
    enough_pos (shp Race n l ts) s h = min_pos ts s h

    first_pos : (ss : Shapes) → Shaped₁ F ss → EnoughFirst d ss 0 → ⊥
    first_pos Shape.[] s h = h
    first_pos (Shape.◌◂◌ t ts) s h = enough_pos t s.0 h

    cond_pos : (ss : Shapes) → Shaped₂ F ss → EnoughFirst d ss 0 → ⊥
    cond_pos Shape.[] s h = h
    cond_pos (Shape.◌◂◌ t ts) s h = enough_pos t s.0 h

    sum_pos : (ss : Shapes) → Shaped₁ F ss → EnoughSum d ss 0 → ⊥
    sum_pos Shape.[] s h = s
    sum_pos (Shape.◌◂◌ t ts) s h = enough_pos t s.0 (rw (sum_zero h.0 h.1 h.2) at h.3)

    if_pos : (ss : Shapes) → Shaped₃ F ss → EnoughIf d ss 0 → ⊥
    if_pos Shape.[] s h = h
    if_pos (Shape.◌◂◌ t ts) s h = enough_pos t s.0 (rw (sum_zero h.0 h.1 h.2) at h.3)

    loop_pos : (ss : Shapes) → Shaped₂ F ss → EnoughLoop d ss 0 → ⊥
    loop_pos Shape.[] s h = h
    loop_pos (Shape.◌◂◌ t ts) s h = enough_pos t s.0 (rw (mul_zero h.0 h.1 h.2 h.3) at h.4)

    max_pos : (ss : Shapes) → EnoughMax d ss 0 → ⊥
    max_pos Shape.[] h = not-suc-le-zero h
    max_pos (Shape.◌◂◌ t ts) h = max_pos ts h.1

    min_pos : (ss : Shapes) → Shapeds F ss → EnoughMin d ss 0 → ⊥
    min_pos Shape.[] s h = h
    min_pos (Shape.◌◂◌ t ts) s h = elim h [ inl g ↦ enough_pos t s.0 g | inr g ↦ min_pos ts s.1 g ]

  sum_one : (ss : Shapes) (k : ℕ) → Shaped₁ F ss → EnoughSum d ss k → 1 ≤ k
  sum_one ss zero s h = absurd (sum_pos ss s h)
  sum_one ss (suc k) s h = omega arith

  mutual
    unfolding bound

    pub enough : (t : Tree) (k : ℕ) → Shaped F (shape t) → Is (bound d t) k → Enough d (shape t) k
    enough (node Wait n l c b ts) k s h = own (num l) k h
    enough (node WaitForever n l c b ts) k s h = h
    enough (node Action n l c b ts) k s h = h
    enough (node Invert n l c b ts) k s h = first_enough ts k s h
    enough (node AlwaysSucceed n l c b ts) k s h = first_enough ts k s h
    enough (node Timeout n l c b ts) k s h = elim (min_split (within (own_ticks d l)) (first d ts) k h) [ inl g ↦ inl (own (num l) k g) | inr g ↦ inr (first_enough ts k s.1 g) ]
    enough (node Select n l c b ts) k s h = sum_enough₁ ts k s h
    enough (node If n l c b ts) k s h = if_enough ts k s h
    enough (node Sequence n l c b ts) k s h = sum_enough₁ ts k s h
    enough (node MemorylessSequence n l c b []) k s h = h
    enough (node MemorylessSequence n l c b (t ◂ ts)) k s h = h
    enough (node MemorylessSelector n l c b []) k s h = h
    enough (node MemorylessSelector n l c b (t ◂ ts)) k s h = h
    enough (node While n l c b ts) k s h = cond_enough ts k s h
    enough (node WhileAll n l c b ts) k s h = loop_enough ts k s h
    enough (node WhenAll n l c b ts) k s h = max_enough ts k s h
    enough (node WhenAny n l c b ts) k s h = max_enough ts k s h
    enough (node After n l c b ts) k s h = max_enough₁ ts k s h
    enough (node Race n l c b ts) k s h = min_enough ts k s h

    first_enough : (ts : Forest) (k : ℕ) → Shaped₁ F (shapes ts) → Is (first d ts) k → EnoughFirst d (shapes ts) k
    first_enough [] k s h = h
    first_enough (t ◂ ts) k s h = enough t k s.0 h

    cond_enough : (ts : Forest) (k : ℕ) → Shaped₂ F (shapes ts) → Is (first d ts) k → EnoughFirst d (shapes ts) k
    cond_enough [] k s h = h
    cond_enough (t ◂ ts) k s h = enough t k s.0 h

    sum_enough : (ts : Forest) (k : ℕ) → Shapeds F (shapes ts) → Is (sum d ts) k → EnoughSum d (shapes ts) k
    sum_enough [] k s h = tt
    sum_enough (t ◂ ts) k s h = let x = sum_split (bound d t) (sum d ts) k h in (x.0, x.1, x.2, enough t x.0 s.0 x.3, sum_enough ts x.1 s.1 x.4)

    sum_enough₁ : (ts : Forest) (k : ℕ) → Shaped₁ F (shapes ts) → Is (sum d ts) k → EnoughSum d (shapes ts) k
    sum_enough₁ [] k s h = tt
    sum_enough₁ (t ◂ ts) k s h = let x = sum_split (bound d t) (sum d ts) k h in (x.0, x.1, x.2, enough t x.0 s.0 x.3, sum_enough ts x.1 s.1 x.4)

    max_enough : (ts : Forest) (k : ℕ) → Shapeds F (shapes ts) → Is (largest d ts) k → EnoughMax d (shapes ts) k
    max_enough [] k s h = h
    max_enough (t ◂ ts) k s h = let x = max_split (bound d t) (largest d ts) k h in (enough t k s.0 x.0, max_enough ts k s.1 x.1)

    max_enough₁ : (ts : Forest) (k : ℕ) → Shaped₁ F (shapes ts) → Is (largest d ts) k → EnoughMax d (shapes ts) k
    max_enough₁ [] k s h = h
    max_enough₁ (t ◂ ts) k s h = let x = max_split (bound d t) (largest d ts) k h in (enough t k s.0 x.0, max_enough ts k s.1 x.1)

    branches : (ts : Forest) (k : ℕ) → Shaped₂ F (shapes ts) → Is (largest d ts) k → EnoughMax d (shapes ts) k
    branches [] k s h = h
    branches (t ◂ ts) k s h = let x = max_split (bound d t) (largest d ts) k h in (enough t k s.0 x.0, max_enough₁ ts k s.1 x.1)

    min_enough : (ts : Forest) (k : ℕ) → Shapeds F (shapes ts) → Is (smallest d ts) k → EnoughMin d (shapes ts) k
    min_enough [] k s h = h
    min_enough (t ◂ ts) k s h = elim (min_split (bound d t) (smallest d ts) k h) [ inl g ↦ inl (enough t k s.0 g) | inr g ↦ inr (min_enough ts k s.1 g) ]

    if_enough : (ts : Forest) (k : ℕ) → Shaped₃ F (shapes ts) → Is (first_and_largest d ts) k → EnoughIf d (shapes ts) k
    if_enough [] k s h = h
    if_enough (t ◂ ts) k s h = let x = sum_split (bound d t) (largest d ts) k h in (x.0, x.1, x.2, enough t x.0 s.0 x.3, branches ts x.1 s.1 x.4)

    loop_enough : (ts : Forest) (k : ℕ) → Shaped₂ F (shapes ts) → Is (first_times_sum d ts) k → EnoughLoop d (shapes ts) k
    loop_enough [] k s h = h
    loop_enough (t ◂ ts) k s h =
        let x = times_split (bound d t) (sum d ts) k h in
        let y : EnoughSum d (shapes ts) x.1 = sum_enough₁ ts x.1 s.1 x.4 in
        (x.0, x.1, x.2, sum_one (shapes ts) x.1 s.1 y, enough t x.0 s.0 x.3, y)
