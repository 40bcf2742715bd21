-- Decorators one below the other: what each does by its kind, the way down through them and the way up.
use mathlib.Core.Path.{◌≡◌, refl, ap, ◌∙◌}
use mathlib.Core.Bool.{true, false}
use mathlib.Core.List.{List, []}
use Prim.Native.Nat.{ℕ, suc, ◌+◌, ◌-◌, ◌≤◌, ◌<◌}
use native.Mathlib.Omega.{arith}
use lib.Ieee.{Float, Format}
use lib.ListN.{get_or, set}
use lib.Seq.{get_or-set_other}
use borrow.Author.Tests.{lt-ltb, le-ltb}
use Rattle.rules.specs.declared.behavior.Kind.{Kind}
use Rattle.rules.specs.declared.behavior.Kind.TheVariants.{Invert, AlwaysSucceed, Timeout}
use Rattle.rules.specs.Tree.{zero_time}
use Rattle.rules.specs.Levels.{Levels, levels}
use Rattle.work.specs.declared.result.Seen.{Seen}
use Rattle.work.specs.declared.result.Seen.TheVariants.{Stopped}
use Rattle.work.specs.Word.{kind_in}
use Rattle.work.specs.Array.{word_at, fuel_of}
use Rattle.work.specs.Flat.{Out, out, Lent, lent, Visitor, and_then, seen, is_leaf, is_decorator, decorated, decorator, by_kind, visiting}
use Rattle.work.proofs.KindLaws.{decorator_case}
use Rattle.turns.specs.declared.level.Level.{Level}
use Rattle.turns.specs.Levels.{Fine, Sound, resumed_as, resumed_by}
use Rattle.engine.specs.Stands.{kind_as, node_as, level_at, put_at, through, decorator_level}
use Rattle.engine.specs.Climbs.{Downs, Next, decorator_at, Opens, Closes}
use Rattle.engine.proofs.Ways.{WayDown, Deeper, deeper_one, way_done, way_deeper}

-- ---- by the kind
module _ (F : Format) (T : Lent) (v : Visitor) (p : ℕ) (x : Float) (ws : List ℕ) (ts : List Float) where
  abbrev by_rule : Kind → Out
  by_rule k = by_kind F T v k p x ws ts

  -- its child is due
  abbrev opened_level : Kind → Out
  opened_level k = let e = decorator_level k p x in resumed_by F T v e (v e.child x ws ts)

  decorator_opens : p < 255 → (k : Kind) → is_decorator k ≡ true → by_rule k ≡ opened_level k
  unfolding by_kind decorator
  decorator_opens h = decorator_case (λ k. by_rule k ≡ opened_level k)
      (rw (lt-ltb p 255 h)) (rw (lt-ltb p 255 h)) (rw (lt-ltb p 255 h))

  decorator_ends : 255 ≤ p → (k : Kind) → is_decorator k ≡ true → by_rule k ≡ out Stopped zero_time ws ts
  unfolding by_kind decorator
  decorator_ends h = decorator_case (λ k. by_rule k ≡ out Stopped zero_time ws ts) (rw (le-ltb p 255 h)) (rw (le-ltb p 255 h)) (rw (le-ltb p 255 h))

decorator_sound : (p : ℕ) (x : Float) → p < 255 → (k : Kind) → is_decorator k ≡ true → Sound (decorator_level k p x)
decorator_sound p x h = decorator_case (λ k. Sound (decorator_level k p x))
    (record { fine = fine Invert; ready = tt }) (record { fine = fine AlwaysSucceed; ready = tt }) (record { fine = fine Timeout; ready = tt })
  where
    fine : (k : Kind) → Fine (decorator_level k p x)
    fine k = record { node_in = omega arith; child_in = omega arith; next_in = omega arith; stop_in = omega arith; index_in = omega arith }

-- what is made of the child's outcome
decorator_takes : (F : Format) (T : Lent) (v : Visitor) (e : Level) (o : Out) → is_decorator e.kind ≡ true → resumed_by F T v e o ≡ and_then o (decorated F T e.node e.whole)
decorator_takes F T v e o = decorator_case (λ k. resumed_as F T v k e o ≡ and_then o (decorated F T e.node e.whole)) refl refl refl e.kind

no_leaf : (k : Kind) → is_decorator k ≡ true → is_leaf k ≡ false
no_leaf = decorator_case (λ k. is_leaf k ≡ false) refl refl refl

-- ---- down
-- the fuel is no node's word
pub kind_kept : (ws : List ℕ) (n p : ℕ) → p < 256 → kind_in (word_at (set ws 256 n) p) ≡ kind_in (word_at ws p)
kind_kept ws n p h = ap kind_in (get_or-set_other ws 256 p n 0 (λ e. omega arith))

module _ {F : Format} {T : Lent} {n₀ : ℕ} {e₀ : Level} {x₀ : Float} {r₀ : Levels} {ws₀ : List ℕ} {ts₀ : List Float} {n : ℕ} {e : Level} {x : Float} {r : Levels} {ws : List ℕ} {ts : List Float}
    (w : WayDown F T n₀ e₀ x₀ r₀ ws₀ ts₀ n e x r ws ts) (d : is_decorator (kind_in (word_at ws e.child)) ≡ true) (few : n < 16) (f : fuel_of ws ≡ 0 → ⊥) where
  abbrev k : Kind
  k = kind_in (word_at ws e.child)

  abbrev used : List ℕ
  used = set ws 256 (fuel_of ws - 1)

  pub way_last : 255 ≤ e.child → Downs F T n₀ e₀ x₀ r₀ ws₀ ts₀ n e Stopped zero_time r used ts
  way_last h = way_done w refl (no_leaf k d) few f used refl used ts refl Stopped zero_time (λ T v. decorator_ends F T v e.child x used ts h k d) used (λ l ts. refl) refl

  pub way_decorator : e.child < 255 → {r' : Levels} → Deeper n e r r' → WayDown F T n₀ e₀ x₀ r₀ ws₀ ts₀ (n + 1) (decorator_at used e.child x) x r' used ts
  way_decorator h deep = rw (kind_kept ws (fuel_of ws - 1) e.child (omega arith))
      (way_deeper w refl (no_leaf k d) few f used refl used ts refl (decorator_level k e.child x) x (λ T v. decorator_opens F T v e.child x used ts h k d)
      (record { kind = refl; node = refl; sound = decorator_sound e.child x h k d }) deep)

-- from the decorator at p₀ to the one at p, whatever is lent
pub record WayOpen (F : Format) (n₀ p₀ : ℕ) (x : Float) (r₀ : Levels) (ws₀ : List ℕ) (n p : ℕ) (r : Levels) (ws : List ℕ) : Type 0 where
  pub ways : (T : Lent) (ts : List Float) → WayDown F T n₀ (decorator_at ws₀ p₀ x) x r₀ ws₀ ts n (decorator_at ws p x) x r ws ts
  pub deep : n ≡ n₀ + (p - p₀)
  pub from : p₀ ≤ p
  pub place : p < 255
  pub some : 0 < n

module _ {F : Format} {n₀ p₀ : ℕ} {x : Float} {r₀ : Levels} {ws₀ : List ℕ} {n p : ℕ} {r : Levels} {ws : List ℕ} (w : WayOpen F n₀ p₀ x r₀ ws₀ n p r ws) where
  -- what says nothing of the lent and the times
  pub any_way : WayDown F (lent [] [] []) n₀ (decorator_at ws₀ p₀ x) x r₀ ws₀ [] n (decorator_at ws p x) x r ws []
  any_way = w.ways (lent [] [] []) []

  pub open_on : Next n p ws → {k : Kind} {e : Level} {r' : Levels} → k ≡ kind_in (word_at ws p) → e ≡ decorator_level k p x → r' ≡ put_at r (n - 1) e
      → WayOpen F n₀ p₀ x r₀ ws₀ (n + 1) (p + 1) r' (set ws 256 (fuel_of ws - 1))
  open_on o kind same put = record {
    ways = λ T ts. way_decorator (w.ways T ts) o.another o.few o.some (omega (arith, o.place)) (deeper_one w.some (rw (same, kind) at put));
    deep = omega (arith, w.deep, w.from);
    from = omega (arith, w.from);
    place = omega (arith, o.place);
    some = omega arith;
  }

  pub opened : Opens F n₀ p₀ x r₀ ws₀ p r ws
  opened = record {
    from = w.from;
    place = w.place;
    same = λ T ts. rw w.deep at (w.ways T ts).same;
    held = rw w.deep at any_way.held;
    behind = any_way.behind;
    fuel = any_way.fuel;
  }

-- the way down goes on behind the decorators
pub way_opened : {F : Format} {T : Lent} {n₀ : ℕ} {e₀ : Level} {x₀ : Float} {r₀ : Levels} {ws₀ : List ℕ} {ts₀ : List Float} {n p : ℕ} {x : Float} {r : Levels} {ws : List ℕ} {ts : List Float}
    → WayDown F T n₀ e₀ x₀ r₀ ws₀ ts₀ n (decorator_at ws p x) x r ws ts → {p' : ℕ} {r' : Levels} {ws' : List ℕ} → Opens F n p x r ws p' r' ws'
    → {m : ℕ} {k : Kind} {e : Level} → m ≡ n + (p' - p) → k ≡ kind_in (word_at ws' p') → e ≡ decorator_level k p' x → WayDown F T n₀ e₀ x₀ r₀ ws₀ ts₀ m e x r' ws' ts
way_opened {F} {T} {n₀} {e₀} {x₀} {r₀} {ws₀} {ts₀} {n} {p} {x} {r} {ws} {ts} w o deep kind same = rw (deep, same, kind) (record {
  same = w.same ∙ o.same T ts;
  held = o.held;
  behind = o.behind ∙ w.behind;
  fuel = omega (arith, o.fuel, w.fuel);
})

-- ---- up

-- the decorator in the innermost of the entries takes the result
module _ {F : Format} {limits : List Float} {opens : List ℕ} {wholes : List Float}
    {n₀ : ℕ} {s₀ : Seen} {l₀ : Float} {ws₀ : List ℕ} {ts₀ : List Float} {n : ℕ} {s : Seen} {l : Float} {ws : List ℕ} {ts : List Float}
    (w : Closes F limits opens wholes n₀ s₀ l₀ ws₀ ts₀ n s l ws ts) (some : 0 < n) (p : ℕ) (x : Float) (at_node : p ≡ node_as (get_or opens (n - 1) 0)) (at-time : x ≡ get_or wholes (n - 1) zero_time)
    (d : is_decorator (kind_as (get_or opens (n - 1) 0)) ≡ true) {s₁ : Seen} {l₁ : Float} {ts₁ : List Float}
    (given : (a : List ℕ) (b : List Float) → and_then (out s l ws ts) (decorated F (lent limits a b) p x) ≡ out s₁ l₁ ws ts₁)
    {ws₁ : List ℕ} (shown : (l : Float) (ts : List Float) → seen p (out s₁ l ws ts) ≡ out s₁ l ws₁ ts) (fuel : fuel_of ws₁ ≡ fuel_of ws) where
  taken : (m : ℕ) → n ≡ suc m → (a cs : List ℕ) (b rs : List Float)
      → through F (lent limits a b) n (levels opens cs wholes rs) (out s l ws ts) ≡ through F (lent limits a b) m (levels opens cs wholes rs) (out s₁ l₁ ws₁ ts₁)
  unfolding through level_at
  taken m e a cs b rs =
      let T = lent limits a b in
      let entry = level_at (levels opens cs wholes rs) m in
      let k : n - 1 ≡ m = omega arith in
      let own : resumed_by F T (visiting F T (15 - m)) entry (out s l ws ts) ≡ out s₁ l₁ ws ts₁ =
      decorator_takes F T (visiting F T (15 - m)) entry (out s l ws ts) (rw k at d) ∙ rw (← rw k at at_node, ← rw k at at-time) (given a b) in
      rw e (ap (through F T m (levels opens cs wholes rs)) (ap (seen entry.node) own ∙ rw (← rw k at at_node) (shown l₁ ts₁)))

  pub close_on : Closes F limits opens wholes n₀ s₀ l₀ ws₀ ts₀ (n - 1) s₁ l₁ ws₁ ts₁
  close_on = record {
    few = omega (arith, w.few);
    same = λ a cs b rs. w.same a cs b rs ∙ taken (n - 1) (omega arith) a cs b rs;
    fuel = fuel ∙ w.fuel;
  }
