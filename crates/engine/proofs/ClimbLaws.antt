-- One law for each step down and up.
use mathlib.Core.Path.{◌≡◌, refl, sym, ap, ◌∙◌}
use mathlib.Core.Bool.{Bool, true, false}
use mathlib.Core.List.{List}
use Prim.Native.Nat.{ℕ, suc, ◌-◌, ◌≤◌, ◌<◌}
use native.Mathlib.Omega.{arith}
use lib.Ieee.{Float, Format}
use lib.ListN.{set}
use Rattle.rules.specs.declared.behavior.Kind.{Kind}
use Rattle.rules.specs.declared.behavior.Kind.TheVariants.{Wait, WaitForever, Action, Invert, AlwaysSucceed, Timeout, Select, If, Sequence}
use Rattle.rules.specs.declared.behavior.Kind.TheVariants.{MemorylessSequence, MemorylessSelector, While, WhileAll, WhenAll, WhenAny, After, Race}
use Rattle.rules.specs.Tree.{zero_time}
use Rattle.rules.specs.Levels.{Levels}
use Rattle.work.specs.declared.result.Seen.{Seen}
use Rattle.work.specs.declared.result.Seen.TheVariants.{Stopped}
use Rattle.work.specs.Word.{kind_in}
use Rattle.work.specs.Array.{word_at, fuel_of}
use Rattle.work.specs.Flat.{Out, out, Lent, Visitor, seen, is_leaf, leaf, visit_leaf, visit, by_kind, tick, visiting}
use Rattle.work.proofs.VisitLaws.{visit_leaf_lem, visit_node, tick_zero, tick_spent, tick_on}
use Rattle.turns.specs.declared.level.Level.{Level}
use Rattle.turns.specs.Levels.{resumed_by}
use Rattle.engine.specs.Stands.{above, through, around}

not_so : ◌≡◌ {A = Bool} false true → ⊥
not_so e = let z : ◌≡◌ {A = ℕ} 0 1 = cc in omega arith

-- a visit to the root is its tick, of a leaf too
leaf_kind : (F : Format) (T : Lent) (v : Visitor) (k : Kind) → is_leaf k ≡ true → (p : ℕ) (dt : Float) (ws : List ℕ) (ts : List Float) → by_kind F T v k p dt ws ts ≡ leaf F T k p dt ws ts
unfolding by_kind
leaf_kind F T v Wait h p dt ws ts = refl
leaf_kind F T v WaitForever h p dt ws ts = refl
leaf_kind F T v Action h p dt ws ts = refl
leaf_kind F T v Invert h p dt ws ts = absurd (not_so h)
leaf_kind F T v AlwaysSucceed h p dt ws ts = absurd (not_so h)
leaf_kind F T v Timeout h p dt ws ts = absurd (not_so h)
leaf_kind F T v Select h p dt ws ts = absurd (not_so h)
leaf_kind F T v If h p dt ws ts = absurd (not_so h)
leaf_kind F T v Sequence h p dt ws ts = absurd (not_so h)
leaf_kind F T v MemorylessSequence h p dt ws ts = absurd (not_so h)
leaf_kind F T v MemorylessSelector h p dt ws ts = absurd (not_so h)
leaf_kind F T v While h p dt ws ts = absurd (not_so h)
leaf_kind F T v WhileAll h p dt ws ts = absurd (not_so h)
leaf_kind F T v WhenAll h p dt ws ts = absurd (not_so h)
leaf_kind F T v WhenAny h p dt ws ts = absurd (not_so h)
leaf_kind F T v After h p dt ws ts = absurd (not_so h)
leaf_kind F T v Race h p dt ws ts = absurd (not_so h)

module _ (F : Format) (T : Lent) (x : Float) (ws : List ℕ) (ts : List Float) where
  abbrev root : Kind
  root = kind_in (word_at ws 0)

  root_leaf : is_leaf root ≡ true → tick F T 16 0 x ws ts ≡ visiting F T 16 0 x ws ts
  unfolding visit visit_leaf tick
  root_leaf h = rw (h, leaf_kind F T (visiting F T 15) root h 0 x (set ws 256 (fuel_of ws - 1)) ts)

  root_node : is_leaf root ≡ false → tick F T 16 0 x ws ts ≡ visiting F T 16 0 x ws ts
  root_node h = sym (visit_node F T 0 x ws ts (tick F T 16) root _ refl h refl)

  either : (b : Bool) → is_leaf root ≡ b → tick F T 16 0 x ws ts ≡ visiting F T 16 0 x ws ts
  either true h = root_leaf h
  either false h = root_node h

  pub visit_root : tick F T 16 0 x ws ts ≡ visiting F T 16 0 x ws ts
  visit_root = either (is_leaf root) refl

-- ---- down
module _ (F : Format) (T : Lent) (n : ℕ) (x : Float) (q : ℕ) (ws : List ℕ) (ts : List Float) (k : Kind) (c : k ≡ kind_in (word_at ws q)) where
  abbrev due_now : Out
  due_now = visiting F T (16 - n) q x ws ts

  pub down_leaf : (o : Out) → is_leaf k ≡ true → visit_leaf F T k q x ws ts ≡ o → due_now ≡ o
  down_leaf o h e = visit_leaf_lem F T q x ws ts (tick F T (16 - n)) k o c h e

  module _ (h : is_leaf k ≡ false) where
    pub down_spent : fuel_of ws ≡ 0 → due_now ≡ out Stopped zero_time ws ts
    down_spent z = visit_node F T q x ws ts (tick F T (16 - n)) k _ c h (tick_spent F T q x ws ts (16 - n) z)

    pub down_deep : 16 ≤ n → due_now ≡ out Stopped zero_time ws ts
    down_deep d = visit_node F T q x ws ts (tick F T (16 - n)) k _ c h (tick_zero F T q x ws ts (16 - n) (omega arith))

    module _ (d : n < 16) (f : fuel_of ws ≡ 0 → ⊥) (ws₁ : List ℕ) (a : ws₁ ≡ set ws 256 (fuel_of ws - 1)) where
      abbrev v : Visitor
      v = visiting F T (15 - n)

      down_on : (o : Out) → by_kind F T v k q x ws₁ ts ≡ o → due_now ≡ seen q o
      down_on o e =
          let m : 16 - n - 1 ≡ 15 - n = omega arith in
          let some : 16 - n ≡ 0 → ⊥ = (λ z. omega arith) in
          visit_node F T q x ws ts (tick F T (16 - n)) k (seen q o) c h (tick_on F T q x ws ts (16 - n) k o (seen q o) some f c (rw (m, ← a) e) refl)

      module _ (ws₂ : List ℕ) (ts₂ : List Float) where
        pub down_done : (s : Seen) (l : Float) → by_kind F T v k q x ws₁ ts ≡ out s l ws₂ ts₂ → (ws₃ : List ℕ) → seen q (out s l ws₂ ts₂) ≡ out s l ws₃ ts₂
            → due_now ≡ out s l ws₃ ts₂
        down_done s l e ws₃ shown = down_on (out s l ws₂ ts₂) e ∙ shown

        pub down_due : (i : Level) (y : Float) → by_kind F T v k q x ws₁ ts ≡ resumed_by F T v i (v i.child y ws₂ ts₂) → i.node ≡ q
            → due_now ≡ above F T n i (visiting F T (16 - suc n) i.child y ws₂ ts₂)
        down_due i y e p =
            let m : 16 - suc n ≡ 15 - n = omega arith in
            rw m (down_on (resumed_by F T v i (v i.child y ws₂ ts₂)) e ∙ ap (λ (j : ℕ). seen j (resumed_by F T v i (v i.child y ws₂ ts₂))) (sym p))

-- ---- up
module _ (F : Format) (T : Lent) (m : ℕ) (e : Level) (r : Levels) (o : Out) (ws : List ℕ) (ts : List Float) where
  pub up_due : (i : Level) (y : Float) → let v = visiting F T (15 - m) in resumed_by F T v e o ≡ resumed_by F T v i (v i.child y ws ts) → i.node ≡ e.node
      → around F T (suc m) e r o ≡ around F T (suc m) i r (visiting F T (16 - suc m) i.child y ws ts)
  up_due i y a p = let k : 16 - suc m ≡ 15 - m = omega arith in rw (k, a, p)

  pub up_done : (s : Seen) (l : Float) → resumed_by F T (visiting F T (15 - m)) e o ≡ out s l ws ts → (ws₁ : List ℕ) → seen e.node (out s l ws ts) ≡ out s l ws₁ ts
      → around F T (suc m) e r o ≡ through F T m r (out s l ws₁ ts)
  up_done s l a ws₁ shown = ap (through F T m r) (rw a shown)
