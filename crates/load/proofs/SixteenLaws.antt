-- Groups of sixteen nodes: what a fold by `|` tells, when a time and its limit are good, and words that are set to 0.
use mathlib.Core.Path.{◌≡◌, refl, sym, ◌∙◌}
use mathlib.Core.Bool.{Bool, true, false, not, ◌&&◌, ◌||◌, false≢true}
use mathlib.Core.List.{List, [], ◌∷◌, ◌++◌}
use Prim.Native.Nat.{ℕ, zero, suc, ◌+◌, ◌-◌, ◌*◌, ◌/◌, ◌%◌, ◌≤◌, ◌<◌}
use native.Mathlib.Nat.{mul-pos, zero-lt-suc}
use native.Mathlib.Omega.{arith}
use borrow.Author.Tests.{eqb-true, eqb-false, lt-ltb, ltb-true, ltb-false}
use lib.Dec.{T, eqb, ltb}
use lib.Ieee.{Float, nan, inf, fin, binary64, fits, is_nan, of_bits, of_fields, to_bits, lt, eq, le, up, down}
use lib.Ieee.Fits.{up_pos, down_pos}
use borrow.Rule.Slice.PartMut.{mid_of}
use lib.Bits.{bit_or}
use lib.ListN.{length, get_or, set, take, drop, length-set, length-drop}
use lib.Seq.{get_or-set_other}
use Rattle.std.specs.List.{All, fold, zip}
use Rattle.std.proofs.lemmas.Bool.{and_parts}
use Rattle.std.proofs.lemmas.List.{get_or-take, get_or-drop, length-take-le}
use Rattle.std.proofs.lemmas.List.Elements.{All-push, All-tail}
use Rattle.work.proofs.Laws.{or_first, or_second}
use Rattle.rules.specs.Table.{cleaned, number}
use Rattle.rules.specs.Cells.{elapsed}
use Rattle.tables.proofs.Bits.{elapsed_bits}
use Rattle.refine.specs.Words.{pack}
use Rattle.load.specs.Scans.{PlainWait, Passes}
use Rattle.load.specs.Sixteens.{Bare, Timed, Groups, Cleared}
use Rattle.load.proofs.PassLaws.{plain, unmarked}

-- ---- a fold over sixteen elements
module _ {A : Type 0} (same : A → A → Bool) (z : A) where
  abbrev pub zeros : Bool → A → Bool
  zeros b x = b && same x z

  zero_more : (x : A) (xs : List A) → same x z ≡ true → ((i : ℕ) → i < length xs → same (get_or xs i z) z ≡ true)
      → (i : ℕ) → i < length (x ∷ xs) → same (get_or (x ∷ xs) i z) z ≡ true
  zero_more x xs e r zero h = e
  zero_more x xs e r (suc i) h = r i (omega arith)

  all_zero : (b : Bool) (xs : List A) → fold zeros b xs ≡ true → (b ≡ true) × ((i : ℕ) → i < length xs → same (get_or xs i z) z ≡ true)
  all_zero b [] e = (e, λ i h. absurd (omega arith))
  all_zero b (x ∷ xs) e =
      let on = all_zero (b && same x z) xs e in
      let parts = and_parts b (same x z) on.0 in
      (parts.0, zero_more x xs parts.1 on.1)

  pub part_zero : (at k : ℕ) (xs : List A) → at + k ≤ length xs → fold zeros true (mid_of at k xs) ≡ true
      → (i : ℕ) → at ≤ i → i < at + k → same (get_or xs i z) z ≡ true
  part_zero at k xs n e i g h =
      let long : length (mid_of at k xs) ≡ k = length-take-le k (drop at xs) (rw length-drop (omega arith)) in
      let on : at + (i - at) ≡ i = omega arith in
      let here = (all_zero true (mid_of at k xs) e).1 (i - at) (omega arith) in
      rw (get_or-take k (drop at xs) (i - at) z (omega arith), get_or-drop at xs (i - at) z, on) at here

-- ---- a fold over times and limits
abbrev pub Good : Float × Float → Type 0
Good p = Timed p.1 p.0

abbrev pub Below : List (Float × Float) → ℕ → Type 0
Below ps all = all < 0x8000000000000000 → All Good ps

pub below_push : (ps : List (Float × Float)) (p : Float × Float) (a r b : ℕ) → Below ps a → (r < 0x8000000000000000 → Good p) → b ≡ bit_or a r → Below (ps ++ (p ∷ [])) b
below_push ps p a r b h g e low =
    let l = or_first a r in
    let m = or_second a r in
    All-push Good ps p (h (omega arith)) (g (omega arith))

good_at : (ts ls : List Float) → All Good (zip ts ls) → (i : ℕ) → i < length ts → i < length ls → Timed (get_or ls i nan) (get_or ts i nan)
good_at [] ls h i m n = absurd (omega arith)
good_at (t ∷ ts) [] h i m n = absurd (omega arith)
good_at (t ∷ ts) (l ∷ ls) h zero m n = h 0 (t, l) (omega arith)
good_at (t ∷ ts) (l ∷ ls) h (suc i) m n = good_at ts ls (All-tail Good (t, l) (zip ts ls) h) i (omega arith) (omega arith)

pub timed_part : (n : ℕ) (ts ls : List Float) → n ≤ length ts → n ≤ length ls → All Good (zip (take n ts) (take n ls))
    → (i : ℕ) → i < n → Timed (get_or ls i nan) (get_or ts i nan)
timed_part n ts ls k m h i low =
    let times = length-take-le n ts k in
    let limits = length-take-le n ls m in
    let here = good_at (take n ts) (take n ls) h i (omega arith) (omega arith) in
    rw (get_or-take n ts i nan low, get_or-take n ls i nan low) at here

-- ---- a time that is at most a limit, which is below infinity
abbrev infinity : Float
infinity = of_bits binary64 0x7ff0000000000000

pub le_no_nan : (x y : Float) → le x y ≡ true → T (not (is_nan x))
unfolding le lt eq is_nan
le_no_nan nan y e = absurd (false≢true e)
le_no_nan (inf s) y e = tt
le_no_nan (fin s m d) y e = tt

above_zero : (a b : ℕ) → 0 < b → eqb a b && (false || eqb a 0) ≡ true → ⊥
above_zero a b h e = go (eqb a b) refl e
  where
    go : (t : Bool) → eqb a b ≡ t → t && (false || eqb a 0) ≡ true → ⊥
    go false z f = false≢true f
    go true z f = let x = eqb-true a b z in let y = eqb-true a 0 f in omega arith

-- no limit below zero is above a time
pub limit_good : (x y : Float) → elapsed x ≡ true → le x y ≡ true → lt y infinity ≡ true → number (cleaned y) ≡ true
unfolding le lt eq of_bits of_fields
limit_good nan y w a b = absurd (false≢true w)
limit_good (inf true) y w a b = absurd (false≢true w)
limit_good (fin true n c) y w a b = absurd (false≢true w)
limit_good (inf false) nan w a b = absurd (false≢true a)
limit_good (inf false) (inf true) w a b = absurd (false≢true a)
limit_good (inf false) (inf false) w a b = absurd (false≢true b)
limit_good (inf false) (fin s m d) w a b = absurd (false≢true a)
limit_good (fin false n c) nan w a b = absurd (false≢true a)
limit_good (fin false n c) (inf true) w a b = absurd (false≢true a)
limit_good (fin false n c) (inf false) w a b = absurd (false≢true b)
limit_good (fin false n c) (fin s zero d) w a b = refl
limit_good (fin false n c) (fin false (suc m) d) w a b = refl
limit_good (fin false n c) (fin true (suc m) d) w a b =
    absurd (above_zero (n * up c * down d) (suc m * up d * down c) (mul-pos (mul-pos (zero-lt-suc m) (up_pos d)) (down_pos c)) a)

pub timed : (x y : Float) → T (fits binary64 x) → le x y ≡ true → lt y infinity ≡ true → to_bits binary64 x < 0x8000000000000000 → Timed y x
timed x y ok a b h =
    let w = elapsed_bits x ok (le_no_nan x y a) ∙ lt-ltb _ _ h in
    record { limits = limit_good x y w a b; waited = w }

-- ---- the groups, one after the other
-- what is known before the times are looked at; `any` tells whether some group may be plain
pub record Seen (kinds ns places marks : List ℕ) (last : ℕ) (groups : List Bool) (any : Bool) : Type 0 where
  pub long : length groups ≡ 16
  pub bare : (b : ℕ) → b < 16 → get_or groups b false ≡ true → (k : ℕ) → k < 16 → Bare kinds ns places marks (16 * b + 1 + k)
  pub inside : (b : ℕ) → b < 16 → get_or groups b false ≡ true → 16 * b + 17 < last
  pub none : any ≡ false → (b : ℕ) → b < 16 → get_or groups b false ≡ false

pub seen_none : {kinds ns places marks : List ℕ} {last : ℕ} {groups : List Bool} {any : Bool}
    → length groups ≡ 16
    → ((b : ℕ) → b < 16 → get_or groups b false ≡ false)
    → Seen kinds ns places marks last groups any
seen_none l h = record {
  long = l;
  bare = λ b i e. absurd (false≢true (sym (h b i) ∙ e));
  inside = λ b i e. absurd (false≢true (sym (h b i) ∙ e));
  none = λ e. h;
}

module _ {kinds ns places marks : List ℕ} {last : ℕ} {groups : List Bool} {any : Bool} (s : Seen kinds ns places marks last groups any) where
  pub seen_one : (b : ℕ) → b < 16 → 16 * b + 17 < last → ((k : ℕ) → k < 16 → Bare kinds ns places marks (16 * b + 1 + k))
      → Seen kinds ns places marks last (set groups b true) true
  seen_one b low room here = record {
    long = length-set groups b true ∙ s.long;
    bare = λ a i e. one a (λ a. (k : ℕ) → k < 16 → Bare kinds ns places marks (16 * a + 1 + k)) here (λ z. s.bare a i (z e));
    inside = λ a i e. one a (λ a. 16 * a + 17 < last) room (λ z. s.inside a i (z e));
    none = λ e. absurd (false≢true (sym e));
  }
    where
      one : (a : ℕ) (P : ℕ → Type 0) → P b → ((get_or (set groups b true) a false ≡ true → get_or groups a false ≡ true) → P a) → P a
      one a P h f = go (eqb a b) refl
        where
          go : (t : Bool) → eqb a b ≡ t → P a
          go true t = let z = eqb-true a b t in rw z h
          go false t = f (λ e. sym (get_or-set_other groups b a true false (eqb-false a b t)) ∙ e)

  pub groups_timed : {limits times : List Float} → ((i : ℕ) → i < last → Timed (get_or limits i nan) (get_or times i nan))
      → Groups kinds ns limits times places marks groups
  groups_timed h = record {
    long = s.long;
    bare = s.bare;
    timed = λ b i e k z. h (16 * b + 1 + k) (omega (arith, z, s.inside b i e));
  }

pub groups_none : {kinds ns : List ℕ} {limits times : List Float} {places marks : List ℕ} {groups : List Bool}
    → length groups ≡ 16
    → ((b : ℕ) → b < 16 → get_or groups b false ≡ false)
    → Groups kinds ns limits times places marks groups
groups_none l h = record {
  long = l;
  bare = λ b i e. absurd (false≢true (sym (h b i) ∙ e));
  timed = λ b i e. absurd (false≢true (sym (h b i) ∙ e));
}

-- ---- sixteen Waits more
bare_plain : (kinds ns : List ℕ) (limits times : List Float) (places marks : List ℕ) (i : ℕ) (m : Bool)
    → Bare kinds ns places marks i
    → Timed (get_or limits i nan) (get_or times i nan)
    → PlainWait m (get_or kinds i 0) (get_or ns i 0) (get_or limits i nan) (get_or times i nan) (get_or places i 0) (get_or marks i 0)
bare_plain kinds ns limits times places marks i m b t =
    plain m _ _ _ _ _ _ (omega (arith, b.kind, b.leaf, b.at_start)) t.limits
    (sym (unmarked m (get_or times i nan) (get_or marks i 0) b.unmarked) ∙ t.waited)

bare_word : {kinds ns places marks : List ℕ} {i : ℕ} → Bare kinds ns places marks i → 0 ≡ pack 0 (get_or kinds i 0) (get_or places i 0) (get_or marks i 0) false 0
unfolding pack
bare_word b = rw (b.kind, b.at_start, b.unmarked)

module _ {kinds ns : List ℕ} {limits times : List Float} {places marks : List ℕ} {m : Bool} {ws₀ ws ws' : List ℕ} {from to at : ℕ} {groups : List Bool} where
  pub passes_sixteen : Passes kinds ns limits times places marks m ws₀ ws from to at
      → at + 16 ≤ to → to ≤ 256 → at % 16 ≡ 1
      → Groups kinds ns limits times places marks groups → get_or groups (at / 16) false ≡ true → Cleared ws ws' at 16
      → Passes kinds ns limits times places marks m ws₀ ws' from to (at + 16)
  passes_sixteen h room low first g e c = record {
    lower = omega (arith, h.lower);
    upper = room;
    long = c.long;
    plain = λ i a b. in_run i b
        (λ j. PlainWait m (get_or kinds j 0) (get_or ns j 0) (get_or limits j nan) (get_or times j nan) (get_or places j 0) (get_or marks j 0))
        (λ z. h.plain i a z) (λ k z. bare_plain kinds ns limits times places marks (at + k) m (bare k z) (good k z));
    word = λ i a b. in_run i b
        (λ j. get_or ws' j 0 ≡ pack 0 (get_or kinds j 0) (get_or places j 0) (get_or marks j 0) false 0)
        (λ z. c.before i z ∙ h.word i a z) (λ k z. c.zeros k z ∙ bare_word (bare k z));
    before = λ i a. c.before i (omega (arith, a, h.lower)) ∙ h.before i a;
    behind = λ i a. c.behind i a ∙ h.behind i (omega (arith, a));
  }
    where
      is : at ≡ 16 * (at / 16) + 1
      is = omega arith

      bare : (k : ℕ) → k < 16 → Bare kinds ns places marks (at + k)
      bare k z = rw is (g.bare (at / 16) (omega arith) e k z)

      good : (k : ℕ) → k < 16 → Timed (get_or limits (at + k) nan) (get_or times (at + k) nan)
      good k z = rw is (g.timed (at / 16) (omega arith) e k z)

      in_run : (i : ℕ) → i < at + 16 → (P : ℕ → Type 0) → (i < at → P i) → ((k : ℕ) → k < 16 → P (at + k)) → P i
      in_run i b P f s = go (ltb i at) refl
        where
          go : (t : Bool) → ltb i at ≡ t → P i
          go true t = f (ltb-true i at t)
          go false t =
              let z = ltb-false i at t in
              let sum : at + (i - at) ≡ i = omega arith in
              rw sum at (s (i - at) (omega arith))
