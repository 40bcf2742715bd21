-- What a way down and a way up have kept so far.
use mathlib.Core.Path.{◌≡◌, refl, sym, ap, ◌∙◌, subst}
use mathlib.Core.Bool.{true, false}
use mathlib.Core.List.{List}
use Prim.Native.Nat.{ℕ, zero, suc, ◌+◌, ◌-◌, ◌≤◌, ◌<◌}
use native.Mathlib.Numerals.{add-one}
use native.Mathlib.Decide.{dec_lt}
use native.Mathlib.Omega.{arith}
use lib.Ieee.{Float, Format}
use lib.ListN.{set}
use Rattle.rules.specs.declared.behavior.Kind.{Kind}
use Rattle.rules.specs.Tree.{zero_time}
use Rattle.rules.specs.Levels.{Levels, entries, cleared}
use Rattle.work.specs.declared.result.Seen.{Seen}
use Rattle.work.specs.declared.result.Seen.TheVariants.{Stopped}
use Rattle.work.specs.Word.{kind_in}
use Rattle.work.specs.Array.{word_at, fuel_of}
use Rattle.work.specs.Flat.{Out, out, Lent, Visitor, result_of, seen, is_leaf, visit_leaf, by_kind, visit, tick, visiting}
use Rattle.turns.specs.declared.level.Level.{Level}
use Rattle.turns.specs.Levels.{Sound, StaysSound, resumed_by, entered_level}
use Rattle.turns.proofs.FuelLaws.{fuel_used, leaf_less}
use Rattle.engine.specs.declared.climb.Risen.{Risen}
use Rattle.engine.specs.declared.climb.Risen.TheVariants.{Due, Done}
use Rattle.engine.specs.Stands.{Placed, level_at, put_at, through, around, Held}
use Rattle.engine.specs.Climbs.{due_at, risen_at, Downs, Closes, Ups}
use Rattle.engine.proofs.StandLaws.{put_long, put_same, put_other, put_cleared, around_stopped, around_deeper, around_kept, around_put}
use Rattle.engine.proofs.ClimbLaws.{visit_root, down_leaf, down_spent, down_deep, down_done, down_due, up_due, up_done}

pub record WayDown
    (F : Format) (T : Lent)
    (n₀ : ℕ) (e₀ : Level) (x₀ : Float) (r₀ : Levels) (ws₀ : List ℕ) (ts₀ : List Float) (n : ℕ) (e : Level) (x : Float) (r : Levels) (ws : List ℕ) (ts : List Float) : Type 0 where
  pub same : due_at F T n₀ e₀ x₀ r₀ ws₀ ts₀ ≡ due_at F T n e x r ws ts
  pub held : Held n e r
  pub behind : cleared r ≡ cleared r₀
  pub fuel : fuel_of ws ≤ fuel_of ws₀

pub record WayUp
    (F : Format) (T : Lent)
    (n₀ : ℕ) (e₀ : Level) (s₀ : Seen) (l₀ : Float) (r : Levels) (ws₀ : List ℕ) (ts₀ : List Float) (n : ℕ) (e : Level) (s : Seen) (l : Float) (ws : List ℕ) (ts : List Float) : Type 0 where
  pub same : around F T n₀ e₀ r (out s₀ l₀ ws₀ ts₀) ≡ around F T n e r (out s l ws ts)
  pub held : Held n e r
  pub fuel : fuel_of ws ≤ fuel_of ws₀
  pub going : s₀ ≡ Stopped → s ≡ Stopped

-- the room that has one node more, or none yet
pub record Deeper (n : ℕ) (e : Level) (r r' : Levels) : Type 0 where
  pub none : n ≡ 0 → r' ≡ r
  pub one : (m : ℕ) → n ≡ suc m → r' ≡ put_at r m e

pub deeper_none : {n : ℕ} {e : Level} {r r' : Levels} → n ≤ 0 → r' ≡ r → Deeper n e r r'
deeper_none h z = record { none = λ _. z; one = λ m k. absurd (omega arith) }

pub deeper_one : {n : ℕ} {e : Level} {r r' : Levels} → 0 < n → r' ≡ put_at r (n - 1) e → Deeper n e r r'
deeper_one {n} {e} {r} {r'} h p = record {
  none = λ z. absurd (omega arith);
  one = λ m k. let d : n - 1 ≡ m = omega arith in rw d at p;
}

module _ (n : ℕ) (e : Level) (r r' : Levels) (d : Deeper n e r r') (h : Held n e r) where
  pub deeper_long : entries r' ≡ entries r
  deeper_long = by n refl
    where
      by : (k : ℕ) → n ≡ k → entries r' ≡ entries r
      by zero z = rw (d.none z)
      by (suc m) z = rw (d.one m z) (put_long r m e (omega (arith, h.few, h.room)))

  pub deeper_behind : cleared r' ≡ cleared r
  deeper_behind = by n refl
    where
      by : (k : ℕ) → n ≡ k → cleared r' ≡ cleared r
      by zero z = rw (d.none z)
      by (suc m) z = rw (d.one m z) (put_cleared r m e (omega (arith, h.few)))

  deeper_outer : (k : ℕ) → n ≡ k → (j : ℕ) → j < n → Sound (level_at r' j)
  deeper_outer zero z j l = absurd (omega arith)
  deeper_outer (suc m) z j l =
      let room : m < entries r = omega (arith, h.few, h.room) in
      rw (d.one m z) (elim (dec_lt j m) [
        | yes g ↦ rw (put_other r m e room j g) (h.outer j (omega arith))
        | no g ↦
            let k : j ≡ m = omega arith in
            rw (k, put_same r m e room (h.inner (omega arith)).fine) (h.inner (omega arith))
      ])

  pub held_deeper : (e' : Level) → n < 16 → Sound e' → Held (suc n) e' r'
  held_deeper e' l s = record {
    few = omega arith;
    due_in = s.fine.child_in;
    inner = λ _. s;
    outer = λ j g. deeper_outer n refl j (omega arith);
    room = omega (arith, deeper_long, h.room);
  }

  pub held_kept : Held n e r'
  held_kept = record {
    few = h.few;
    due_in = h.due_in;
    inner = h.inner;
    outer = λ j l. deeper_outer n refl j (omega arith);
    room = omega (arith, deeper_long, h.room);
  }

  pub around_same : (F : Format) (T : Lent) (o : Out) → around F T n e r' o ≡ around F T n e r o
  around_same F T o = by n refl
    where
      by : (k : ℕ) → n ≡ k → around F T n e r' o ≡ around F T n e r o
      by zero z = rw (d.none z)
      by (suc m) z = rw (d.one m z, z) (around_put F T m e r o (omega (arith, h.few, h.room)))

-- ---- down
-- the innermost node may stand in the room, too
pub way_kept : {F : Format} {T : Lent} {n₀ : ℕ} {e₀ : Level} {x₀ : Float} {r₀ : Levels} {ws₀ : List ℕ} {ts₀ : List Float} {n : ℕ} {e : Level} {x : Float} {r : Levels} {ws : List ℕ} {ts : List Float}
    → WayDown F T n₀ e₀ x₀ r₀ ws₀ ts₀ n e x r ws ts → {r' : Levels} → Deeper n e r r' → WayDown F T n₀ e₀ x₀ r₀ ws₀ ts₀ n e x r' ws ts
way_kept {F} {T} {n₀} {e₀} {x₀} {r₀} {ws₀} {ts₀} {n} {e} {x} {r} {ws} {ts} w {r'} deep =
    record {
      same = w.same ∙ sym (around_same n e r r' deep w.held F T _);
      held = held_kept n e r r' deep w.held;
      behind = deeper_behind n e r r' deep w.held ∙ w.behind;
      fuel = w.fuel;
    }

module _ {F : Format} {T : Lent} {n₀ : ℕ} {e₀ : Level} {x₀ : Float} {r₀ : Levels} {ws₀ : List ℕ} {ts₀ : List Float} {n : ℕ} {e : Level} {x : Float} {r : Levels} {ws : List ℕ} {ts : List Float}
    (w : WayDown F T n₀ e₀ x₀ r₀ ws₀ ts₀ n e x r ws ts) {k : Kind} (c : k ≡ kind_in (word_at ws e.child)) where
  abbrev To : Seen → Float → List ℕ → List Float → Type 0
  To s l ws' ts' = Downs F T n₀ e₀ x₀ r₀ ws₀ ts₀ n e s l r ws' ts'

  -- a result of the child that is due
  gives : {s : Seen} {l : Float} {ws' : List ℕ} {ts' : List Float} → visiting F T (16 - n) e.child x ws ts ≡ out s l ws' ts'
      → ((s ≡ Stopped → ⊥) → fuel_of ws' < fuel_of ws) → To s l ws' ts'
  gives v f = record { same = w.same ∙ ap (around F T n e r) v; held = w.held; behind = w.behind; less = λ g. omega (arith, f g, w.fuel) }

  pub way_leaf : is_leaf k ≡ true → {s : Seen} {l : Float} {ws' : List ℕ} {ts' : List Float} → visit_leaf F T k e.child x ws ts ≡ out s l ws' ts' → To s l ws' ts'
  way_leaf h {s} {l} {ws'} {ts'} v =
      gives (down_leaf F T n x e.child ws ts k c (out s l ws' ts') h v) (leaf_less F T k e.child x ws ts w.held.due_in s l ws' ts' v)

  module _ (h : is_leaf k ≡ false) where
    pub way_spent : fuel_of ws ≡ 0 → To Stopped zero_time ws ts
    way_spent z = gives (down_spent F T n x e.child ws ts k c h z) (λ g. absurd (g refl))

    pub way_deep : 16 ≤ n → To Stopped zero_time ws ts
    way_deep z = gives (down_deep F T n x e.child ws ts k c h z) (λ g. absurd (g refl))

    module _ (d : n < 16) (f : fuel_of ws ≡ 0 → ⊥) (ws₁ : List ℕ) (a : ws₁ ≡ set ws 256 (fuel_of ws - 1)) (ws₂ : List ℕ) (ts₂ : List Float) (g : fuel_of ws₂ ≡ fuel_of ws₁) where
      used : fuel_of ws₂ < fuel_of ws
      used = omega (arith, g, ap fuel_of a, fuel_used ws f)

      pub way_done : (s : Seen) (l : Float) → ((T : Lent) (v : Visitor) → by_kind F T v k e.child x ws₁ ts ≡ out s l ws₂ ts₂)
          → (ws₃ : List ℕ) → ((l : Float) (ts : List Float) → seen e.child (out s l ws₂ ts) ≡ out s l ws₃ ts) → fuel_of ws₃ ≡ fuel_of ws₂ → To s l ws₃ ts₂
      way_done s l o ws₃ shown same =
          gives (down_done F T n x e.child ws ts k c h d f ws₁ a ws₂ ts₂ s l (o T (visiting F T (15 - n))) ws₃ (shown l ts₂)) (λ _. omega (arith, same, used))

      pub way_deeper : (i : Level) (y : Float) → ((T : Lent) (v : Visitor) → by_kind F T v k e.child x ws₁ ts ≡ resumed_by F T v i (v i.child y ws₂ ts₂))
          → StaysSound (entered_level k e.child x) i → {r' : Levels} → Deeper n e r r' → WayDown F T n₀ e₀ x₀ r₀ ws₀ ts₀ (n + 1) i y r' ws₂ ts₂
      way_deeper i y o keeps {r'} deep =
          let on = down_due F T n x e.child ws ts k c h d f ws₁ a ws₂ ts₂ i y (o T (visiting F T (15 - n))) keeps.node in
          rw add-one (record {
            same = w.same ∙ ap (around F T n e r) on
                ∙ around_deeper F T n e i r r' _ w.held.few w.held.room (λ l. (w.held.inner l).fine) deep.none deep.one;
            held = held_deeper n e r r' deep w.held i d keeps.sound;
            behind = deeper_behind n e r r' deep w.held ∙ w.behind;
            fuel = omega (arith, used, w.fuel);
          })

-- ---- up
-- a node in an entry has a word
pub held_placed : {n : ℕ} {e : Level} {r : Levels} → Held n e r → Placed (n - 1) r
unfolding level_at
held_placed h j l = let fine = (h.outer j l).fine in omega (arith, fine.node_in, fine.child_in)

-- the innermost is done, and decorators around it
pub held_out : (n m : ℕ) (e e' : Level) (r : Levels) → Held n e r → m < n → (0 < m → e' ≡ level_at r (m - 1)) → (m ≤ 0 → e' ≡ e) → Held m e' r
held_out n m e e' r h d p q = record {
  few = omega (arith, h.few);
  due_in = in_place;
  inner = λ l. rw (p l) (h.outer (m - 1) (omega arith));
  outer = λ j l. h.outer j (omega arith);
  room = h.room;
}
  where
    in_place : e'.child < 256
    in_place = elim (dec_lt 0 m) [
      | yes l ↦ rw (p l) (h.outer (m - 1) (omega arith)).fine.child_in
      | no l ↦ rw (q (omega arith)) h.due_in
    ]

module _ {F : Format} {T : Lent}
    {n₀ : ℕ} {e₀ : Level} {s₀ : Seen} {l₀ : Float} {r : Levels} {ws₀ : List ℕ} {ts₀ : List Float} {n : ℕ} {e : Level} {s : Seen} {l : Float} {ws : List ℕ} {ts : List Float}
    (w : WayUp F T n₀ e₀ s₀ l₀ r ws₀ ts₀ n e s l ws ts) where
  -- the walk has stopped
  pub way_stopped : s ≡ Stopped → Ups F T r n₀ e₀ s₀ l₀ ws₀ ts₀ (Done (result_of s l)) ws ts
  way_stopped z = record { same = w.same ∙ around_stopped F T n e r s l ws ts z; held = tt; going = tt; fuel = w.fuel }

  module _ (some : 0 < n) (going : s ≡ Stopped → ⊥) (ws₁ : List ℕ) (ts₁ : List Float) (g : fuel_of ws₁ ≤ fuel_of ws) where
    abbrev m : ℕ
    m = n - 1

    suc_m : n ≡ suc m
    suc_m = omega arith

    pub way_due : (i : Level) (y : Float) → ((tk : Visitor) → let v = visit F T tk in resumed_by F T v e (out s l ws ts) ≡ resumed_by F T v i (v i.child y ws₁ ts₁))
        → StaysSound e i → Ups F T r n₀ e₀ s₀ l₀ ws₀ ts₀ (Due (record { deep = n; level = i }) y) ws₁ ts₁
    way_due i y o keeps = record {
      same = w.same ∙ turned_up;
      held = record {
        few = w.held.few;
        due_in = keeps.sound.fine.child_in;
        inner = λ _. keeps.sound;
        outer = w.held.outer;
        room = w.held.room;
      };
      going = λ d. going (w.going d);
      fuel = omega (arith, g, w.fuel);
    }
      where
        turned_up : around F T n e r (out s l ws ts) ≡ around F T n i r (visiting F T (16 - n) i.child y ws₁ ts₁)
        turned_up = rw suc_m (up_due F T m e r (out s l ws ts) ws₁ ts₁ i y (o (tick F T (15 - m))) keeps.node)

    pub way_up : (s₁ : Seen) (l₁ : Float) → ((tk : Visitor) → resumed_by F T (visit F T tk) e (out s l ws ts) ≡ out s₁ l₁ ws₁ ts₁)
        → (ws₂ : List ℕ) → ((l : Float) (ts : List Float) → seen e.node (out s₁ l ws₁ ts) ≡ out s₁ l ws₂ ts) → fuel_of ws₂ ≡ fuel_of ws₁
        → {n' : ℕ} {s' : Seen} {l' : Float} {ws₃ : List ℕ} {ts₃ : List Float} → Closes F T.limits r.opens r.wholes m s₁ l₁ ws₂ ts₁ n' s' l' ws₃ ts₃
        → {e' : Level} → (0 < n' → e' ≡ level_at r (n' - 1)) → (n' ≤ 0 → e' ≡ e)
        → WayUp F T n₀ e₀ s₀ l₀ r ws₀ ts₀ n' e' s' l' ws₃ ts₃
    way_up s₁ l₁ o ws₂ shown same {n'} {s'} {l'} {ws₃} {ts₃} closed {e'} p q = record {
      same = w.same ∙ turned_up ∙ closed.same T.statuses r.counts T.leftovers r.rests ∙ around_kept F T n' e' r (out s' l' ws₃ ts₃) inside;
      held = held_out n n' e e' r w.held (omega (arith, closed.few)) p q;
      fuel = omega (arith, closed.fuel, same, g, w.fuel);
      going = λ d. absurd (going (w.going d));
    }
      where
        inside : (j : ℕ) → n' ≡ suc j → e' ≡ level_at r j
        inside j d = let k : n' - 1 ≡ j = omega arith in rw k at (p (omega arith))

        turned_up : around F T n e r (out s l ws ts) ≡ through F T m r (out s₁ l₁ ws₂ ts₁)
        turned_up = subst (λ (k : ℕ). around F T k e r (out s l ws ts) ≡ through F T m r (out s₁ l₁ ws₂ ts₁)) (sym suc_m)
            (up_done F T m e r (out s l ws ts) ws₁ ts₁ s₁ l₁ (o (tick F T (15 - m))) ws₂ (shown l₁ ts₁))

-- ---- round: down to a result, and up to where a child is due or to the end
pub round_over : {F : Format} {T : Lent} {n₀ : ℕ} {e₀ : Level} {x₀ : Float} {r₀ : Levels} {ws₀ : List ℕ} {ts₀ : List Float} {n : ℕ} {e : Level} {x : Float} {r : Levels} {ws : List ℕ} {ts : List Float}
    {n₁ : ℕ} {e₁ : Level} {s₁ : Seen} {l₁ : Float} {r₁ : Levels} {ws₁ : List ℕ} {ts₁ : List Float} {u : Risen} {ws₂ : List ℕ} {ts₂ : List Float}
    → WayDown F T n₀ e₀ x₀ r₀ ws₀ ts₀ n e x r ws ts → Downs F T n e x r ws ts n₁ e₁ s₁ l₁ r₁ ws₁ ts₁ → Ups F T r₁ n₁ e₁ s₁ l₁ ws₁ ts₁ u ws₂ ts₂
    → due_at F T n₀ e₀ x₀ r₀ ws₀ ts₀ ≡ risen_at F T u r₁ ws₂ ts₂
round_over w d u = w.same ∙ d.same ∙ u.same

-- the root is due, with no node open
pub root_due : (F : Format) (T : Lent) (e : Level) (x : Float) (r : Levels) (ws : List ℕ) (ts : List Float) → e.child ≡ 0 → tick F T 16 0 x ws ts ≡ due_at F T 0 e x r ws ts
root_due F T e x r ws ts z = rw z (visit_root F T x ws ts)
