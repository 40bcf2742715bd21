-- Laws of the room and of the nodes that are open around a visit.
use mathlib.Core.Path.{◌≡◌, refl, sym}
use mathlib.Core.Bool.{Bool, true, false, cond}
use mathlib.Core.List.{List, [], ◌∷◌}
use Prim.Native.Nat.{ℕ, zero, suc, ◌+◌, ◌-◌, ◌*◌, ◌/◌, ◌%◌, ◌≤◌, ◌<◌}
use native.Mathlib.Omega.{arith}
use lib.Dec.{eqb}
use lib.Ieee.{Float, Format}
use lib.ListN.{set, drop, length-set}
use lib.Seq.{get_or-set_same, get_or-set_other}
use Rattle.rules.specs.declared.behavior.Kind.{Kind}
use Rattle.rules.specs.declared.behavior.Kind.TheVariants.{Wait, WaitForever, Action, Invert, AlwaysSucceed, Timeout, Select, If, Sequence}
use Rattle.rules.specs.declared.behavior.Kind.TheVariants.{MemorylessSequence, MemorylessSelector, While, WhileAll, WhenAll, WhenAny, After, Race}
use Rattle.rules.specs.Tree.{zero_time}
use Rattle.rules.specs.Kinds.{code}
use Rattle.rules.specs.Codes.{code_small, kind_code}
use Rattle.rules.specs.Levels.{Levels, entries, cleared}
use Rattle.work.specs.declared.result.Seen.{Seen}
use Rattle.work.specs.declared.result.Seen.TheVariants.{Stopped}
use Rattle.work.specs.Flat.{Out, out, Lent, Visitor, visiting}
use Rattle.turns.specs.declared.level.Level.{Level}
use Rattle.turns.specs.Levels.{Fine, resumed_as}
use Rattle.engine.specs.Stands.{packed_in, unpacked_from, level_at, put_at, above, through, around}

same : {A : Type 0} (b : Bool) (x : A) → cond b x x ≡ x
same true x = refl
same false x = refl

-- ---- eight bits, and nine
kind_low : (a b : ℕ) → a < 256 → (a + 256 * b) % 256 ≡ a
kind_low a b h = omega arith

kind_high : (a b : ℕ) → a < 256 → (a + 256 * b) / 256 ≡ b
kind_high a b h = omega arith

low : (a b : ℕ) → a < 512 → (a + 512 * b) % 512 ≡ a
low a b h = omega arith

high : (a b : ℕ) → a < 512 → (a + 512 * b) / 512 ≡ b
high a b h = omega arith

module _ (e : Level) (f : Fine e) where
  abbrev stop_on : ℕ
  stop_on = e.stop + 512 * e.index

  abbrev next_on : ℕ
  next_on = e.next + 512 * stop_on

  abbrev child_on : ℕ
  child_on = e.child + 512 * next_on

  abbrev node_on : ℕ
  node_on = e.node + 512 * child_on

  behind_kind : packed_in e / 256 ≡ node_on
  behind_kind = kind_high (code e.kind) node_on (code_small e.kind)

  behind_node : packed_in e / 256 / 512 ≡ child_on
  behind_node = rw behind_kind (high e.node child_on (omega (arith, f.node_in, f.child_in)))

  behind_child : packed_in e / 256 / 512 / 512 ≡ next_on
  behind_child = rw behind_node (high e.child next_on (omega (arith, f.child_in)))

  behind_next : packed_in e / 256 / 512 / 512 / 512 ≡ stop_on
  behind_next = rw behind_child (high e.next stop_on (omega (arith, f.next_in)))

  behind_stop : packed_in e / 256 / 512 / 512 / 512 / 512 ≡ e.index
  behind_stop = rw behind_next (high e.stop e.index (omega (arith, f.stop_in)))

  -- what is packed comes back
  pub packed_back : unpacked_from (packed_in e) e.count e.whole e.rest ≡ e
  packed_back = rw (
    behind_stop,
    behind_next,
    behind_child,
    behind_node,
    behind_kind,
    kind_low (code e.kind) node_on (code_small e.kind),
    kind_code e.kind,
    low e.node child_on (omega (arith, f.node_in, f.child_in)),
    low e.child next_on (omega (arith, f.child_in)),
    low e.next stop_on (omega (arith, f.next_in)),
    low e.stop e.index (omega (arith, f.stop_in)),
  )

-- ---- one entry
module _ (r : Levels) (l : ℕ) (e : Level) (h : l < entries r) where
  pub put_long : entries (put_at r l e) ≡ entries r
  unfolding put_at
  put_long = rw (length-set r.opens l (packed_in e), length-set r.counts l e.count, length-set r.wholes l e.whole, length-set r.rests l e.rest)

  pub put_same : Fine e → level_at (put_at r l e) l ≡ e
  unfolding put_at level_at
  put_same f = rw (
    get_or-set_same r.opens l (packed_in e) 0 (omega arith),
    get_or-set_same r.counts l e.count 0 (omega arith),
    get_or-set_same r.wholes l e.whole zero_time (omega arith),
    get_or-set_same r.rests l e.rest zero_time (omega arith),
  ) (packed_back e f)

  pub put_other : (j : ℕ) → j < l → level_at (put_at r l e) j ≡ level_at r j
  unfolding put_at level_at
  put_other j d = rw (
    get_or-set_other r.opens l j (packed_in e) 0 (λ e. omega arith),
    get_or-set_other r.counts l j e.count 0 (λ e. omega arith),
    get_or-set_other r.wholes l j e.whole zero_time (λ e. omega arith),
    get_or-set_other r.rests l j e.rest zero_time (λ e. omega arith),
  )

-- what stands behind the sixteenth stays
drop_set : {A : Type 0} (l : List A) (i n : ℕ) (a : A) → i < n → drop n (set l i a) ≡ drop n l
drop_set [] i n a h = refl
drop_set (x ∷ l) i zero a h = absurd (omega arith)
drop_set (x ∷ l) zero (suc n) a h = refl
drop_set (x ∷ l) (suc i) (suc n) a h = drop_set l i n a (omega arith)

pub put_cleared : (r : Levels) (l : ℕ) (e : Level) → l < 16 → cleared (put_at r l e) ≡ cleared r
unfolding put_at
put_cleared r l e h = rw (
  drop_set r.opens l 16 (packed_in e) h,
  drop_set r.counts l 16 e.count h,
  drop_set r.wholes l 16 e.whole h,
  drop_set r.rests l 16 e.rest h,
)

-- ---- through the entries
module _ (F : Format) (T : Lent) where
  pub through_put : (n : ℕ) (r : Levels) (l : ℕ) (e : Level) (o : Out) → l < entries r → n ≤ l → through F T n (put_at r l e) o ≡ through F T n r o
  unfolding through
  through_put zero r l e o h d = refl
  through_put (suc n) r l e o h d = rw (put_other r l e h n (omega arith)) (through_put n r l e (above F T n (level_at r n) o) h (omega arith))

  -- the walk has stopped
  resumed_stopped : (v : Visitor) (k : Kind) (e : Level) (l : Float) (ws : List ℕ) (ts : List Float) → resumed_as F T v k e (out Stopped l ws ts) ≡ out Stopped l ws ts
  resumed_stopped v Wait e l ws ts = refl
  resumed_stopped v WaitForever e l ws ts = refl
  resumed_stopped v Action e l ws ts = refl
  resumed_stopped v Invert e l ws ts = refl
  resumed_stopped v AlwaysSucceed e l ws ts = refl
  resumed_stopped v Timeout e l ws ts = refl
  resumed_stopped v If e l ws ts = same (eqb e.index 0) _
  resumed_stopped v Sequence e l ws ts = refl
  resumed_stopped v Select e l ws ts = refl
  resumed_stopped v MemorylessSequence e l ws ts = refl
  resumed_stopped v MemorylessSelector e l ws ts = refl
  resumed_stopped v While e l ws ts = same (eqb e.count 0) _
  resumed_stopped v WhileAll e l ws ts = same (eqb e.index 0) _
  resumed_stopped v WhenAll e l ws ts = refl
  resumed_stopped v WhenAny e l ws ts = refl
  resumed_stopped v After e l ws ts = refl
  resumed_stopped v Race e l ws ts = refl

  above_stopped : (n : ℕ) (e : Level) (l : Float) (ws : List ℕ) (ts : List Float) → above F T n e (out Stopped l ws ts) ≡ out Stopped l ws ts
  above_stopped n e l ws ts = rw (resumed_stopped (visiting F T (15 - n)) e.kind e l ws ts)

  through_stopped : (n : ℕ) (r : Levels) (l : Float) (ws : List ℕ) (ts : List Float) → through F T n r (out Stopped l ws ts) ≡ out Stopped l ws ts
  unfolding through
  through_stopped zero r l ws ts = refl
  through_stopped (suc n) r l ws ts = rw (above_stopped n (level_at r n) l ws ts) (through_stopped n r l ws ts)

  pub around_stopped : (n : ℕ) (e : Level) (r : Levels) (s : Seen) (l : Float) (ws : List ℕ) (ts : List Float) → s ≡ Stopped → around F T n e r (out s l ws ts) ≡ out s l ws ts
  around_stopped zero e r s l ws ts h = refl
  around_stopped (suc n) e r s l ws ts h = rw (h, above_stopped n e l ws ts) (through_stopped n r l ws ts)

  -- ---- a node is opened below: the innermost goes into the room
  pub around_deeper : (n : ℕ) (e e' : Level) (r r' : Levels) (o : Out) → n ≤ 16 → 16 ≤ entries r → (0 < n → Fine e) → (n ≡ 0 → r' ≡ r) → ((m : ℕ) → n ≡ suc m → r' ≡ put_at r m e)
      → around F T n e r (above F T n e' o) ≡ around F T (suc n) e' r' o
  unfolding through
  around_deeper zero e e' r r' o h long f z p = refl
  around_deeper (suc m) e e' r r' o h long f z p =
      rw (p m refl, put_same r m e (omega arith) (f (omega arith)))
      (sym (through_put m r m e _ (omega arith) (omega arith)))

  -- ---- a node is done: the one around it comes out of the room
  pub around_kept : (n : ℕ) (e : Level) (r : Levels) (o : Out) → ((m : ℕ) → n ≡ suc m → e ≡ level_at r m) → through F T n r o ≡ around F T n e r o
  unfolding through
  around_kept zero e r o p = refl
  around_kept (suc m) e r o p = rw (p m refl)

  -- ---- the innermost may stand in the room, too
  pub around_put : (m : ℕ) (e : Level) (r : Levels) (o : Out) → m < entries r → around F T (suc m) e (put_at r m e) o ≡ around F T (suc m) e r o
  around_put m e r o h = through_put m r m e (above F T m e o) h (omega arith)
