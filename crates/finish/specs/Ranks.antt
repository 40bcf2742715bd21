-- No number of ticks that is still enough is 0, and what is enough for a fresh tree is enough for a valid one of that shape.
use Rattle.std.specs.Prelude.{◌≡◌, refl, Bool, true, false, ℕ, zero, suc, ◌+◌, ◌*◌, ◌≤◌}
use Rattle.std.proofs.Common.{inl, inr, le_trans, not-suc-le-zero, arith}
use Rattle.std.specs.Float.{Format}
use Rattle.rules.specs.declared.behavior.Kind.TheVariants.{Wait, WaitForever, Action, Invert, AlwaysSucceed, Timeout, Select, If, Sequence}
use Rattle.rules.specs.declared.behavior.Kind.TheVariants.{MemorylessSequence, MemorylessSelector, While, WhileAll, WhenAll, WhenAny, After, Race}
use Rattle.rules.specs.Tree.{Tree, node, Forest, [], ◌◂◌, marked}
use Rattle.laws.specs.Shape.{shape, shapes}
use Rattle.finish.specs.Enough.{unless, Enough, EnoughFirst, EnoughSum, EnoughMax, EnoughMin, EnoughIf, EnoughLoop, Still}
use Rattle.finish.specs.Enough.{StillFirst, StillSum, StillAt, StillIf, StillUnmarked, StillAll, StillFrom, StillMin, StillLoop}
use Rattle.finish.specs.Valid.{in_body, Valid, ValidAt, ValidLoop, ValidAll, ValidFrom, ValidMarks}

module _ (F : Format) (d : ℕ) where
  mul_zero : (a b : ℕ) → a * b ≤ 0 → 1 ≤ b → a ≡ 0
  mul_zero zero b h k = refl
  mul_zero (suc a) b h k = absurd (not-suc-le-zero (le_trans k (le_trans (omega arith) h)))

  sum_zero : (a b : ℕ) → a + b ≤ 0 → a ≡ 0
  sum_zero a b h = omega arith

  mutual
    pub still_pos : (t : Tree) → Still d t 0 → ⊥
    still_pos (node Wait n l c b ts) h = not-suc-le-zero h.0
    still_pos (node WaitForever n l c b ts) h = h
    still_pos (node Action n l c b ts) h = h
    still_pos (node Invert n l c b ts) h = first_pos ts h
    still_pos (node AlwaysSucceed n l c b ts) h = first_pos ts h
    still_pos (node Timeout n l c b ts) h = elim h [ inl g ↦ not-suc-le-zero g.0 | inr g ↦ first_pos ts g ]
    still_pos (node Select n l c b ts) h = stillsum_pos ts c.place h
    still_pos (node If n l c b ts) h = if_pos ts c.place h
    still_pos (node Sequence n l c b ts) h = stillsum_pos ts c.place h
    still_pos (node MemorylessSequence n l c b []) h = not-suc-le-zero h
    still_pos (node MemorylessSequence n l c b (t ◂ ts)) h = h
    still_pos (node MemorylessSelector n l c b []) h = not-suc-le-zero h
    still_pos (node MemorylessSelector n l c b (t ◂ ts)) h = h
    still_pos (node While n l c b ts) h = first_pos ts h
    still_pos (node WhileAll n l c b ts) h = loop_pos ts c.place h
    still_pos (node WhenAll n l c b ts) h = unmarked_pos ts h
    still_pos (node WhenAny n l c b ts) h = unmarked_pos ts h
    still_pos (node After n l c b ts) h = from_pos ts c.place h
    still_pos (node Race n l c b ts) h = min_pos ts h

    first_pos : (ts : Forest) → StillFirst d ts 0 → ⊥
    first_pos [] h = h
    first_pos (t ◂ ts) h = still_pos t h

    pub stillsum_pos : (ts : Forest) (p : ℕ) → StillSum d ts p 0 → ⊥
    stillsum_pos [] p h = h
    stillsum_pos (t ◂ ts) zero h = still_pos t (rw (sum_zero h.0 h.1 h.2) at h.3)
    stillsum_pos (t ◂ ts) (suc p) h = stillsum_pos ts p h

    at_pos : (ts : Forest) (p : ℕ) → StillAt d ts p 0 → ⊥
    at_pos [] p h = h
    at_pos (t ◂ ts) zero h = still_pos t h
    at_pos (t ◂ ts) (suc p) h = at_pos ts p h

    if_pos : (ts : Forest) (p : ℕ) → StillIf d ts p 0 → ⊥
    if_pos [] p h = h
    if_pos (t ◂ ts) zero h = still_pos t (rw (sum_zero h.0 h.1 h.2) at h.3)
    if_pos (t ◂ ts) (suc p) h = at_pos ts p (rw (sum_zero h.0 0 (omega arith)) at h.2)

    unmarked_pos : (ts : Forest) → StillUnmarked d ts 0 → ⊥
    unmarked_pos [] h = not-suc-le-zero h
    unmarked_pos (t ◂ ts) h = unmarked_pos ts h.1

    all_pos : (ts : Forest) → StillAll d ts 0 → ⊥
    all_pos [] h = not-suc-le-zero h
    all_pos (t ◂ ts) h = all_pos ts h.1

    from_pos : (ts : Forest) (p : ℕ) → StillFrom d ts p 0 → ⊥
    from_pos [] p h = h
    from_pos (t ◂ ts) zero h = still_pos t h.0
    from_pos (t ◂ ts) (suc p) h = from_pos ts p h

    min_pos : (ts : Forest) → StillMin d ts 0 → ⊥
    min_pos [] h = h
    min_pos (t ◂ ts) h = elim h [ inl g ↦ still_pos t g | inr g ↦ min_pos ts g ]

    loop_pos : (ts : Forest) (p : ℕ) → StillLoop d ts p 0 → ⊥
    loop_pos [] p h = h
    loop_pos (t ◂ ts) zero h = still_pos t (rw (mul_zero h.0 h.1 h.2 h.3) at h.4)
    loop_pos (t ◂ ts) (suc p) h = stillsum_pos ts p (rw (sum_zero h.2 (h.0 * h.1) (omega arith)) at h.7)

  -- ---- what is enough for a fresh tree is enough for the live one
  pub sum_mono : (ts : Forest) (p a k : ℕ) → a ≤ k → StillSum d ts p a → StillSum d ts p k
  sum_mono [] p a k h v = v
  sum_mono (t ◂ ts) zero a k h v = (v.0, v.1, omega arith, v.3, v.4)
  sum_mono (t ◂ ts) (suc p) a k h v = sum_mono ts p a k h v

  pub map_unless : (b : Bool) {X Y : Type 0} → (X → Y) → unless b X → unless b Y
  map_unless true f x = tt
  map_unless false f x = f x

  mutual
    pub valid_still : (t : Tree) (k : ℕ) → Valid F t → Enough d (shape t) k → Still d t k
    valid_still (node Wait n l c b ts) k v h = (h.0, omega arith)
    valid_still (node WaitForever n l c b ts) k v h = h
    valid_still (node Action n l c b ts) k v h = h
    valid_still (node Invert n l c b ts) k v h = valid_first ts k v h
    valid_still (node AlwaysSucceed n l c b ts) k v h = valid_first ts k v h
    valid_still (node Timeout n l c b ts) k v h = elim h [ inl g ↦ inl (g.0, omega arith) | inr g ↦ inr (valid_first ts k v.2 g) ]
    valid_still (node Select n l c b ts) k v h = valid_sum ts c.place k v h
    valid_still (node If n l c b ts) k v h = valid_if ts c.place k v h
    valid_still (node Sequence n l c b ts) k v h = valid_sum ts c.place k v h
    valid_still (node MemorylessSequence n l c b ts) k v h = h
    valid_still (node MemorylessSelector n l c b ts) k v h = h
    valid_still (node While n l c b ts) k v h = valid_cond ts c.place k v h
    valid_still (node WhileAll n l c b ts) k v h = valid_while_all ts c.place k v h
    valid_still (node WhenAll n l c b ts) k v h = valid_unmarked ts k v.0 h
    valid_still (node WhenAny n l c b ts) k v h = valid_unmarked ts k v.0 h
    valid_still (node After n l c b ts) k v h = valid_from ts c.place k v h
    valid_still (node Race n l c b ts) k v h = valid_min ts k v h

    pub valid_first : (ts : Forest) (k : ℕ) → ValidAt F ts 0 → EnoughFirst d (shapes ts) k → StillFirst d ts k
    valid_first [] k v h = h
    valid_first (t ◂ ts) k v h = valid_still t k v h

    valid_cond : (ts : Forest) (p k : ℕ) → ValidLoop F ts p → EnoughFirst d (shapes ts) k → StillFirst d ts k
    valid_cond [] p k v h = h
    valid_cond (t ◂ ts) p k v h = valid_still t k v.0 h

    pub valid_sum : (ts : Forest) (p k : ℕ) → ValidAt F ts p → EnoughSum d (shapes ts) k → StillSum d ts p k
    valid_sum [] p k v h = v
    valid_sum (t ◂ ts) zero k v h = (h.0, h.1, h.2, valid_still t h.0 v h.3, h.4)
    valid_sum (t ◂ ts) (suc p) k v h = sum_mono ts p h.1 k (omega arith) (valid_sum ts p h.1 v h.4)

    pub valid_at : (ts : Forest) (p k : ℕ) → ValidAt F ts p → EnoughMax d (shapes ts) k → StillAt d ts p k
    valid_at [] p k v h = v
    valid_at (t ◂ ts) zero k v h = valid_still t k v h.0
    valid_at (t ◂ ts) (suc p) k v h = valid_at ts p k v h.1

    valid_if : (ts : Forest) (p k : ℕ) → ValidAt F ts p → EnoughIf d (shapes ts) k → StillIf d ts p k
    valid_if [] p k v h = h
    valid_if (t ◂ ts) zero k v h = (h.0, h.1, h.2, valid_still t h.0 v h.3, h.4)
    valid_if (t ◂ ts) (suc p) k v h = (h.1, omega arith, valid_at ts p h.1 v h.4)

    pub valid_unmarked : (ts : Forest) (k : ℕ) → ValidMarks F ts → EnoughMax d (shapes ts) k → StillUnmarked d ts k
    valid_unmarked [] k v h = h
    valid_unmarked (t ◂ ts) k v h = (map_unless (marked t) (λ x. valid_still t k x h.0) v.0, valid_unmarked ts k v.1 h.1)

    pub valid_all : (ts : Forest) (k : ℕ) → ValidAll F ts → EnoughMax d (shapes ts) k → StillAll d ts k
    valid_all [] k v h = h
    valid_all (t ◂ ts) k v h = (valid_still t k v.0 h.0, valid_all ts k v.1 h.1)

    pub valid_from : (ts : Forest) (p k : ℕ) → ValidFrom F ts p → EnoughMax d (shapes ts) k → StillFrom d ts p k
    valid_from [] p k v h = v
    valid_from (t ◂ ts) zero k v h = (valid_still t k v.0 h.0, valid_all ts k v.1 h.1)
    valid_from (t ◂ ts) (suc p) k v h = valid_from ts p k v h.1

    valid_min : (ts : Forest) (k : ℕ) → ValidAll F ts → EnoughMin d (shapes ts) k → StillMin d ts k
    valid_min [] k v h = h
    valid_min (t ◂ ts) k v h = elim h [ inl g ↦ inl (valid_still t k v.0 g) | inr g ↦ inr (valid_min ts k v.1 g) ]

    valid_while_all : (ts : Forest) (p k : ℕ) → ValidLoop F ts (in_body p) → EnoughLoop d (shapes ts) k → StillLoop d ts p k
    valid_while_all [] p k v h = h
    valid_while_all (t ◂ ts) zero k v h = (h.0, h.1, h.2, h.3, valid_still t h.0 v.0 h.4, h.5)
    valid_while_all (t ◂ ts) (suc p) k v h =
        pick h.0 h.1 h.2 (valid_still t h.0 v.0 h.4) h.3 h.5 (valid_sum ts p h.1 v.1 h.5)
      where
        pick : (a b : ℕ) → a * b ≤ k → Still d t a → 1 ≤ b → EnoughSum d (shapes ts) b → StillSum d ts p b → StillLoop d (t ◂ ts) (suc p) k
        pick zero b g x y z s = absurd (still_pos t x)
        pick (suc a) b g x y z s = (a, b, b, omega arith, y, x, z, s)
