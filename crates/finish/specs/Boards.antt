-- The board does not matter: what is valid, and what is still enough, is so with the board cleared.
use Rattle.std.specs.Prelude.{◌≡◌, refl, Bool, true, false, not, ◌||◌, ℕ, zero, suc}
use Rattle.std.proofs.Common.{inl, inr}
use Rattle.std.specs.Float.{Format}
use Rattle.rules.specs.declared.behavior.Kind.TheVariants.{Wait, WaitForever, Action, Invert, AlwaysSucceed, Timeout, Select, If, Sequence}
use Rattle.rules.specs.declared.behavior.Kind.TheVariants.{MemorylessSequence, MemorylessSelector, While, WhileAll, WhenAll, WhenAny, After, Race}
use Rattle.rules.specs.Tree.{Tree, node, Forest, [], ◌◂◌, marked}
use Rattle.laws.specs.Memory.{clear, clear_all, clears_shape, clear_marked}
use Rattle.finish.specs.Enough.{unless, Still, StillFirst, StillSum, StillAt, StillIf, StillUnmarked, StillAll, StillFrom, StillMin, StillLoop}
use Rattle.finish.specs.Valid.{in_body, some_open, open_or_none, Valid, ValidAt, ValidLoop, ValidAll, ValidFrom, ValidMarks}

unless_clear : (t : Tree) (X Y : Type 0) → (X → Y) → unless (marked t) X → unless (marked (clear t)) Y
unless_clear t X Y f x = rw (clear_marked t) (on (marked t) x)
  where
    on : (b : Bool) → unless b X → unless b Y
    on true u = tt
    on false u = f u

clear_open : (ts : Forest) → some_open (clear_all ts) ≡ some_open ts
unfolding clear
clear_open [] = refl
clear_open (t ◂ ts) = λ i. not (clear_marked t i) || clear_open ts i

clear_none : (ts : Forest) → open_or_none (clear_all ts) ≡ open_or_none ts
unfolding clear
clear_none [] = refl
clear_none (t ◂ ts) = clear_open (t ◂ ts)

module _ (F : Format) where
  mutual
    unfolding clear

    pub valid_clear : (t : Tree) → Valid F t → Valid F (clear t)
    valid_clear (node Wait n l c b ts) v = v
    valid_clear (node WaitForever n l c b ts) v = tt
    valid_clear (node Action n l c b ts) v = tt
    valid_clear (node Invert n l c b ts) v = at_clear ts 0 v
    valid_clear (node AlwaysSucceed n l c b ts) v = at_clear ts 0 v
    valid_clear (node Timeout n l c b ts) v = (v.0, v.1, at_clear ts 0 v.2)
    valid_clear (node Select n l c b ts) v = at_clear ts c.place v
    valid_clear (node If n l c b ts) v = at_clear ts c.place v
    valid_clear (node Sequence n l c b ts) v = at_clear ts c.place v
    valid_clear (node MemorylessSequence n l c b ts) v = tt
    valid_clear (node MemorylessSelector n l c b ts) v = tt
    valid_clear (node While n l c b ts) v = loop_clear ts c.place v
    valid_clear (node WhileAll n l c b ts) v = loop_clear ts (in_body c.place) v
    valid_clear (node WhenAll n l c b ts) v = (marks_clear ts v.0, rw (clear_none ts) v.1)
    valid_clear (node WhenAny n l c b ts) v = (marks_clear ts v.0, rw (clear_none ts) v.1)
    valid_clear (node After n l c b ts) v = from_clear ts c.place v
    valid_clear (node Race n l c b ts) v = all_clear ts v

    at_clear : (ts : Forest) (p : ℕ) → ValidAt F ts p → ValidAt F (clear_all ts) p
    at_clear [] p v = v
    at_clear (t ◂ ts) zero v = valid_clear t v
    at_clear (t ◂ ts) (suc p) v = at_clear ts p v

    loop_clear : (ts : Forest) (p : ℕ) → ValidLoop F ts p → ValidLoop F (clear_all ts) p
    loop_clear [] p v = v
    loop_clear (t ◂ ts) p v = (valid_clear t v.0, at_clear ts p v.1)

    all_clear : (ts : Forest) → ValidAll F ts → ValidAll F (clear_all ts)
    all_clear [] v = tt
    all_clear (t ◂ ts) v = (valid_clear t v.0, all_clear ts v.1)

    from_clear : (ts : Forest) (p : ℕ) → ValidFrom F ts p → ValidFrom F (clear_all ts) p
    from_clear [] p v = v
    from_clear (t ◂ ts) zero v = (valid_clear t v.0, all_clear ts v.1)
    from_clear (t ◂ ts) (suc p) v = from_clear ts p v

    marks_clear : (ts : Forest) → ValidMarks F ts → ValidMarks F (clear_all ts)
    marks_clear [] v = tt
    marks_clear (t ◂ ts) v = (unless_clear t (Valid F t) (Valid F (clear t)) (λ u. valid_clear t u) v.0, marks_clear ts v.1)

module _ (d : ℕ) where
  mutual
    unfolding clear

    pub still_clear : (t : Tree) (k : ℕ) → Still d t k → Still d (clear t) k
    still_clear (node Wait n l c b ts) k v = v
    still_clear (node WaitForever n l c b ts) k v = v
    still_clear (node Action n l c b ts) k v = v
    still_clear (node Invert n l c b ts) k v = first_still ts k v
    still_clear (node AlwaysSucceed n l c b ts) k v = first_still ts k v
    still_clear (node Timeout n l c b ts) k v = elim v [ inl a ↦ inl a | inr a ↦ inr (first_still ts k a) ]
    still_clear (node Select n l c b ts) k v = sum_still ts c.place k v
    still_clear (node If n l c b ts) k v = if_still ts c.place k v
    still_clear (node Sequence n l c b ts) k v = sum_still ts c.place k v
    still_clear (node MemorylessSequence n l c b ts) k v = rw (clears_shape ts) v
    still_clear (node MemorylessSelector n l c b ts) k v = rw (clears_shape ts) v
    still_clear (node While n l c b ts) k v = first_still ts k v
    still_clear (node WhileAll n l c b ts) k v = loop_still ts c.place k v
    still_clear (node WhenAll n l c b ts) k v = unmarked_still ts k v
    still_clear (node WhenAny n l c b ts) k v = unmarked_still ts k v
    still_clear (node After n l c b ts) k v = from_still ts c.place k v
    still_clear (node Race n l c b ts) k v = min_still ts k v

    first_still : (ts : Forest) (k : ℕ) → StillFirst d ts k → StillFirst d (clear_all ts) k
    first_still [] k v = v
    first_still (t ◂ ts) k v = still_clear t k v

    sum_still : (ts : Forest) (p k : ℕ) → StillSum d ts p k → StillSum d (clear_all ts) p k
    sum_still [] p k v = v
    sum_still (t ◂ ts) zero k v = (v.0, v.1, v.2, still_clear t v.0 v.3, rw (clears_shape ts) v.4)
    sum_still (t ◂ ts) (suc p) k v = sum_still ts p k v

    at_still : (ts : Forest) (p k : ℕ) → StillAt d ts p k → StillAt d (clear_all ts) p k
    at_still [] p k v = v
    at_still (t ◂ ts) zero k v = still_clear t k v
    at_still (t ◂ ts) (suc p) k v = at_still ts p k v

    if_still : (ts : Forest) (p k : ℕ) → StillIf d ts p k → StillIf d (clear_all ts) p k
    if_still [] p k v = v
    if_still (t ◂ ts) zero k v = (v.0, v.1, v.2, still_clear t v.0 v.3, rw (clears_shape ts) v.4)
    if_still (t ◂ ts) (suc p) k v = (v.0, v.1, at_still ts p v.0 v.2)

    unmarked_still : (ts : Forest) (k : ℕ) → StillUnmarked d ts k → StillUnmarked d (clear_all ts) k
    unmarked_still [] k v = v
    unmarked_still (t ◂ ts) k v = (unless_clear t (Still d t k) (Still d (clear t) k) (λ u. still_clear t k u) v.0, unmarked_still ts k v.1)

    all_still : (ts : Forest) (k : ℕ) → StillAll d ts k → StillAll d (clear_all ts) k
    all_still [] k v = v
    all_still (t ◂ ts) k v = (still_clear t k v.0, all_still ts k v.1)

    from_still : (ts : Forest) (p k : ℕ) → StillFrom d ts p k → StillFrom d (clear_all ts) p k
    from_still [] p k v = v
    from_still (t ◂ ts) zero k v = (still_clear t k v.0, all_still ts k v.1)
    from_still (t ◂ ts) (suc p) k v = from_still ts p k v

    min_still : (ts : Forest) (k : ℕ) → StillMin d ts k → StillMin d (clear_all ts) k
    min_still [] k v = v
    min_still (t ◂ ts) k v = elim v [ inl a ↦ inl (still_clear t k a) | inr a ↦ inr (min_still ts k a) ]

    loop_still : (ts : Forest) (p k : ℕ) → StillLoop d ts p k → StillLoop d (clear_all ts) p k
    loop_still [] p k v = v
    loop_still (t ◂ ts) zero k v = (v.0, v.1, v.2, v.3, still_clear t v.0 v.4, rw (clears_shape ts) v.5)
    loop_still (t ◂ ts) (suc p) k v = (v.0, v.1, v.2, v.3, v.4, still_clear t (suc v.0) v.5, rw (clears_shape ts) v.6, sum_still ts p v.2 v.7)
