-- A visit to a Wait that stays Running, and several, one after the other.
use mathlib.Core.Path.{◌≡◌, refl, sym, subst, ap, ◌∙◌}
use mathlib.Core.Bool.{Bool, true, false, cond, ◌&&◌, ◌||◌}
use mathlib.Core.Logic.{⊎_elim}
use mathlib.Core.List.{List, [], ◌∷◌, ◌++◌}
use Prim.Native.Nat.{ℕ, zero, suc, ◌+◌, ◌-◌, ◌*◌, ◌≤◌, ◌<◌}
use native.Mathlib.Nat.{zero-mul, eq-or-lt_of_le}
use native.Mathlib.Omega.{arith}
use native.Mathlib.Numerals.{unary_clauses}
use borrow.Author.Tests.{ltb-true, lt-ltb, le-ltb, ne_eqb}
use lib.Dec.{T, ltb, eqb}
use lib.Ieee.{Float, nan, inf, fin, binary64, add, lt, eq, le, up, down, below, level}
use lib.ListN.{length, get_or, set, take, drop, replicate, length-set, length-drop, length-replicate}
use lib.Seq.{lt-length-set, get_or-set_same, get_or-set_other}
use borrow.Rule.Slice.PartMut.{mid_of, put_mid, same_len_mid}
use Rattle.std.specs.List.{fold, zip}
use Rattle.std.proofs.lemmas.Bool.{and_parts, cases_lt}
use Rattle.std.proofs.lemmas.Bool.Decides.{eqb_tells}
use Rattle.std.proofs.lemmas.List.{ext_get_or, get_or-take, get_or-drop, get_or-replicate, get_or_append_left, get_or-append_right, length-take-le}
use Rattle.rules.specs.declared.behavior.Kind.{Kind}
use Rattle.rules.specs.declared.behavior.Kind.TheVariants.{Wait}
use Rattle.rules.specs.Kinds.{kind_of}
use Rattle.rules.specs.Tree.{zero_time}
use Rattle.rules.specs.Table.{cleaned}
use Rattle.work.specs.declared.result.Seen.TheVariants.{Running}
use Rattle.work.specs.Word.{below_of, code_of, kind_in, mark_of, with_seen}
use Rattle.work.specs.Array.{word_at, time_at, number_at, fuel_of, updates, end_of}
use Rattle.work.specs.Flat.{Visitor, Lent, out, lent, wait, leaf, visit_leaf, visit}
use Rattle.leaves.specs.Waiting.{Waiting, none, more}

module _ (T : Lent) (tick : Visitor) (p : ℕ) (dt : Float) (ws : List ℕ) (ts ts' : List Float) (kind : Kind) (update : Bool) (limit time : Float) (w n : ℕ) where
  pub waits_on : p < 256
      → kind ≡ kind_in (word_at ws p)
      → kind ≡ Wait
      → (fuel_of ws ≡ 0 → ⊥)
      → update ≡ updates ws
      → update ≡ true
      → limit ≡ number_at T.limits p
      → time ≡ time_at ts p
      → le limit (add binary64 time dt) ≡ false
      → w ≡ with_seen (word_at ws p) n
      → n ≡ 1
      → ts' ≡ set ts p (add binary64 time dt)
      → visit binary64 T tick p dt ws ts ≡ out Running zero_time (set (set ws 256 (fuel_of ws - 1)) p w) ts'
  unfolding visit visit_leaf leaf wait
  waits_on h k is f u on l t less word one s =
      let other = get_or-set_other ws 256 in
      rw (← k, is, ne_eqb _ 0 f, other 259 (fuel_of ws - 1) 0 (omega arith), ← u, on, ← l, ← t, less, other p (fuel_of ws - 1) 0 (omega arith), word, one, s)

-- ---- below the limit as it is lent, so below it as it is used
and_none : (a b : Bool) → b ≡ false → a && b ≡ false
and_none true b e = e
and_none false b e = refl

below_not_from : (s t : Bool) (a b : ℕ) → below s a t b ≡ true → below t b s a || level t b s a ≡ false
below_not_from false false a b e =
    let h = ltb-true a b e in
    rw (le-ltb b a (omega arith), ne_eqb b a (omega arith))
below_not_from false true a b e = absurd (subst T (sym e) tt)
below_not_from true false a zero e = let h = ltb-true 0 (a + 0) e in rw (ne_eqb 0 a (omega arith))
below_not_from true false a (suc b) e = and_none (eqb (suc b) a) (eqb (suc b) 0) (ne_eqb (suc b) 0 (omega arith))
below_not_from true true a b e =
    let h = ltb-true b a e in
    rw (le-ltb a b (omega arith), ne_eqb b a (omega arith))

zero_not_from : (s t : Bool) (a c b z : ℕ) → b ≡ 0 → z ≡ 0 → (c ≡ 0 → a ≡ 0) → below s a t b ≡ true → below false z s c || level false z s c ≡ false
zero_not_from false false a c b z e f g h = let l = ltb-true a b h in absurd (omega arith)
zero_not_from false true a c b z e f g h = absurd (subst T (sym h) tt)
zero_not_from true false a c b z e f g h =
    let l = ltb-true 0 (a + b) h in
    rw (ne_eqb z c (λ i. let a-none = g (omega arith) in omega arith))
zero_not_from true true a c b z e f g h =
    let l = ltb-true b a h in
    rw (ne_eqb z c (λ i. let a-none = g (omega arith) in omega arith))

gone : (y d : ℕ) → y * 1 ≡ 0 → y * d ≡ 0
gone y d e = let z : y ≡ 0 = omega arith in rw (z, zero-mul d)

pub not_ended : (e l : Float) → lt e l ≡ true → le (cleaned l) e ≡ false
unfolding le lt eq
not_ended nan l h = absurd (subst T (sym h) tt)
not_ended (inf s) nan h = absurd (subst T (sym h) tt)
not_ended (inf true) (inf true) h = absurd (subst T (sym h) tt)
not_ended (inf true) (inf false) h = refl
not_ended (inf false) (inf t) h = absurd (subst T (sym h) tt)
not_ended (inf true) (fin t zero d) h = refl
not_ended (inf true) (fin t (suc n) d) h = refl
not_ended (inf false) (fin t n d) h = absurd (subst T (sym h) tt)
not_ended (fin s m x) nan h = absurd (subst T (sym h) tt)
not_ended (fin s m x) (inf true) h = absurd (subst T (sym h) tt)
not_ended (fin s m x) (inf false) h = refl
not_ended (fin s m x) (fin t zero d) h = zero_not_from s t (m * up x * down d) (m * up x * 1) (0 * up d * down x) (0 * 1 * down x)
    (rw (zero-mul (up d), zero-mul (down x))) (rw (zero-mul (down x))) (gone (m * up x) (down d)) h
not_ended (fin s m x) (fin t (suc n) d) h = below_not_from s t (m * up x * down d) (suc n * up d * down x) h

-- ---- several visits
module _ {limits : List Float} {dt : Float} where
  pub passed_on : {q r : ℕ} {ws ws₁ : List ℕ} {ts ts₁ : List Float} → Waiting limits dt q r ws ts ws₁ ts₁ → q ≤ r
  passed_on none = omega arith
  passed_on (more e m v w) = let h = passed_on w in omega arith

  pub joined : {q r s : ℕ} {ws ws₁ ws₂ : List ℕ} {ts ts₁ ts₂ : List Float}
      → Waiting limits dt q r ws ts ws₁ ts₁ → Waiting limits dt r s ws₁ ts₁ ws₂ ts₂ → Waiting limits dt q s ws ts ws₂ ts₂
  joined none y = y
  joined (more e m v w) y = more e m v (joined w y)

capped : (e : ℕ) → e ≤ 256 → cond (ltb e 256) e 256 ≡ e
capped e h = ⊎_elim (λ p. rw p) (λ l. rw (lt-ltb e 256 l)) (eq-or-lt_of_le h)

-- ---- a word of 0: a Wait without a mark
module _ (ws : List ℕ) (q : ℕ) (z : word_at ws q ≡ 0) where
  zero_kind : Wait ≡ kind_in (word_at ws q)
  unfolding code_of kind_of
  zero_kind = rw z

  zero_mark : mark_of (word_at ws q) ≡ 0
  unfolding mark_of
  zero_mark = rw z

  zero_end : q < 256 → end_of ws q ≡ q + 1
  unfolding end_of below_of
  zero_end h = rw z (simp unary_clauses (capped (suc q) (omega arith)))

  zero_seen : 67108864 ≡ with_seen (word_at ws q) 1
  unfolding with_seen
  zero_seen = rw z

  pub waits_once : (T : Lent) (dt : Float) (ts : List Float) → q < 256
      → (fuel_of ws ≡ 0 → ⊥)
      → updates ws ≡ true
      → le (number_at T.limits q) (add binary64 (time_at ts q) dt) ≡ false
      → (tick : Visitor) → visit binary64 T tick q dt ws ts ≡ out Running zero_time (set (set ws 256 (fuel_of ws - 1)) q 67108864) (set ts q (add binary64 (time_at ts q) dt))
  waits_once T dt ts h f u less tick =
      waits_on T tick q dt ws ts _ Wait true (number_at T.limits q) (time_at ts q) 67108864 1 h zero_kind refl f (sym u) refl refl refl less zero_seen refl refl

-- ---- many visits at once, to k nodes from q on
-- each is a Wait without a mark, and there is fuel for all
pub record Ready (k q : ℕ) (ws : List ℕ) : Type 0 where
  pub long : 256 < length ws
  pub words : (i : ℕ) → q ≤ i → i < q + k → word_at ws i ≡ 0
  pub fuel : k ≤ fuel_of ws
  pub on : updates ws ≡ true

-- the words behind
pub record Spent (k q : ℕ) (ws ws' : List ℕ) : Type 0 where
  pub long : length ws' ≡ length ws
  pub fuel : fuel_of ws' ≡ fuel_of ws - k
  pub within : (i : ℕ) → q ≤ i → i < q + k → word_at ws' i ≡ 67108864
  pub before : (i : ℕ) → i < q → word_at ws' i ≡ word_at ws i
  pub behind : (i : ℕ) → q + k ≤ i → (i ≡ 256 → ⊥) → word_at ws' i ≡ word_at ws i

-- the times behind
pub record Aged (dt : Float) (k q : ℕ) (ts ts' : List Float) : Type 0 where
  pub long : length ts' ≡ length ts
  pub room : q + k ≤ length ts
  pub within : (i : ℕ) → q ≤ i → i < q + k → time_at ts' i ≡ add binary64 (time_at ts i) dt
  pub before : (i : ℕ) → i < q → time_at ts' i ≡ time_at ts i
  pub behind : (i : ℕ) → q + k ≤ i → time_at ts' i ≡ time_at ts i

-- no visit
spent_none : (q : ℕ) (ws ws' : List ℕ) → Spent 0 q ws ws' → ws' ≡ ws
spent_none q ws ws' s = ext_get_or 0 ws' ws s.long λ i h. ⊎_elim
    (λ (l : i < q). s.before i l)
    (λ (g : q ≤ i). ⊎_elim (λ e. rw e.1 (omega (arith, s.fuel))) (λ n. s.behind i (omega arith) n.1) (eqb_tells i 256))
    (cases_lt i q)

aged_none : (dt : Float) (q : ℕ) (ts ts' : List Float) → Aged dt 0 q ts ts' → ts' ≡ ts
aged_none dt q ts ts' a = ext_get_or zero_time ts' ts a.long λ i h. ⊎_elim (λ l. a.before i l) (λ g. a.behind i (omega arith)) (cases_lt i q)

-- the first visit
module _ (k q : ℕ) (ws : List ℕ) (h : q + suc k ≤ 256) (r : Ready (suc k) q ws) where
  abbrev first : List ℕ
  first = set (set ws 256 (fuel_of ws - 1)) q 67108864

  first_other : (i : ℕ) → (i ≡ q → ⊥) → (i ≡ 256 → ⊥) → word_at first i ≡ word_at ws i
  first_other i n m = get_or-set_other (set ws 256 (fuel_of ws - 1)) q i 67108864 0 n ∙ get_or-set_other ws 256 i (fuel_of ws - 1) 0 m

  first_fuel : fuel_of first ≡ fuel_of ws - 1
  first_fuel = get_or-set_other (set ws 256 (fuel_of ws - 1)) q 256 67108864 0 (omega arith) ∙ get_or-set_same ws 256 (fuel_of ws - 1) 0 r.long

  first_ready : Ready k (q + 1) first
  first_ready = record {
    long = lt-length-set (set ws 256 (fuel_of ws - 1)) q 67108864 (lt-length-set ws 256 (fuel_of ws - 1) r.long);
    words = λ i a b. first_other i (omega arith) (omega arith) ∙ r.words i (omega arith) (omega arith);
    fuel = omega (arith, first_fuel, r.fuel);
    on = rw (first_other 259 (omega arith) (omega arith)) r.on;
  }

  first_spent : (ws' : List ℕ) → Spent (suc k) q ws ws' → Spent k (q + 1) first ws'
  first_spent ws' s = record {
    long = s.long ∙ sym (length-set (set ws 256 (fuel_of ws - 1)) q 67108864 ∙ length-set ws 256 (fuel_of ws - 1));
    fuel = omega (arith, first_fuel, s.fuel);
    within = λ i a b. s.within i (omega arith) (omega arith);
    before = λ i l. ⊎_elim
        (λ e. rw e (s.within q (omega arith) (omega arith) ∙ sym (get_or-set_same (set ws 256 (fuel_of ws - 1)) q 67108864 0 (lt-length-set ws 256 (fuel_of ws - 1) (omega (arith, r.long))))))
        (λ l. s.before i (omega arith) ∙ sym (first_other i (omega arith) (omega arith)))
        (eq-or-lt_of_le {n = i} {m = q} (omega arith));
    behind = λ i a n. s.behind i (omega arith) n ∙ sym (first_other i (omega arith) n);
  }

module _ (dt : Float) (k q : ℕ) (ts ts' : List Float) (a : Aged dt (suc k) q ts ts') where
  first_aged : Aged dt k (q + 1) (set ts q (add binary64 (time_at ts q) dt)) ts'
  first_aged =
      let now = add binary64 (time_at ts q) dt in
      let other = λ (i : ℕ) (n : i ≡ q → ⊥). get_or-set_other ts q i now zero_time n in
      record {
        long = a.long ∙ sym (length-set ts q now);
        room = rw (length-set ts q now) (omega (arith, a.room));
        within = λ i l m. rw (other i (omega arith)) (a.within i (omega arith) (omega arith));
        before = λ i l. ⊎_elim
            (λ e. rw e (a.within q (omega arith) (omega arith) ∙ sym (get_or-set_same ts q now zero_time (omega (arith, a.room)))))
            (λ l. a.before i (omega arith) ∙ sym (other i (omega arith)))
            (eq-or-lt_of_le {n = i} {m = q} (omega arith));
        behind = λ i l. a.behind i (omega arith) ∙ sym (other i (omega arith));
      }

-- none reaches its limit
abbrev pub Below : List Float → Float → ℕ → ℕ → List Float → Type 0
Below limits dt k q ts = (i : ℕ) → q ≤ i → i < q + k → lt (add binary64 (time_at ts i) dt) (time_at limits i) ≡ true

pub waits_many : (limits : List Float) (dt : Float) (k q : ℕ) (ws ws' : List ℕ) (ts ts' : List Float) → q + k ≤ 256
    → Ready k q ws → Spent k q ws ws' → Aged dt k q ts ts' → Below limits dt k q ts → Waiting limits dt q (q + k) ws ts ws' ts'
waits_many limits dt zero q ws ws' ts ts' h r s a b = rw (spent_none q ws ws' s, aged_none dt q ts ts' a) (simp unary_clauses none)
waits_many limits dt (suc k) q ws ws' ts ts' h r s a b =
    let z = r.words q (omega arith) (omega arith) in
    let other = λ (i : ℕ) (n : i ≡ q → ⊥). get_or-set_other ts q i (add binary64 (time_at ts q) dt) zero_time n in
    let on : q + suc k ≡ q + 1 + k = omega arith in
    rw on (more (zero_end ws q z (omega arith)) (zero_mark ws q z)
    (λ x y. waits_once ws q z (lent limits x y) dt ts (omega arith) (λ e. absurd (omega (arith, r.fuel))) r.on (not_ended _ _ (b q (omega arith) (omega arith))))
    (waits_many limits dt k (q + 1) (first k q ws h r) ws' (set ts q (add binary64 (time_at ts q) dt)) ts' (omega arith) (first_ready k q ws h r) (first_spent k q ws h r ws' s)
    (first_aged dt k q ts ts' a) (λ i l m. rw (other i (omega arith)) (b i (omega arith) (omega arith)))))

-- ---- a part of a list
part_length : {A : Type 0} (a k : ℕ) (xs : List A) → a + k ≤ length xs → length (mid_of a k xs) ≡ k
part_length a k xs h = length-take-le k (drop a xs) (rw length-drop (omega arith))

part_at : {A : Type 0} (a k : ℕ) (xs : List A) (d : A) (i : ℕ) → a ≤ i → i < a + k → get_or (mid_of a k xs) (i - a) d ≡ get_or xs i d
part_at a k xs d i g h =
    let same : a + (i - a) ≡ i = omega arith in
    get_or-take k (drop a xs) (i - a) d (omega arith) ∙ get_or-drop a xs (i - a) d ∙ ap (λ (j : ℕ). get_or xs j d) same

-- the part is put back
module _ {A : Type 0} (a k : ℕ) (xs ys : List A) (d : A) (m : length ys ≡ k) (n : a + k ≤ length xs) where
  front : length (take a xs) ≡ a
  front = length-take-le a xs (omega arith)

  put_within : (i : ℕ) → a ≤ i → i < a + k → get_or (put_mid a k xs ys) i d ≡ get_or ys (i - a) d
  put_within i g h = get_or-append_right (take a xs) (ys ++ drop k (drop a xs)) a i d front g ∙ get_or_append_left ys (drop k (drop a xs)) d (i - a) (omega arith)

  put_before : (i : ℕ) → i < a → get_or (put_mid a k xs ys) i d ≡ get_or xs i d
  put_before i h = get_or_append_left (take a xs) (ys ++ drop k (drop a xs)) d i (omega (arith, front)) ∙ get_or-take a xs i d h

  put_behind : (i : ℕ) → a + k ≤ i → get_or (put_mid a k xs ys) i d ≡ get_or xs i d
  put_behind i h =
      let same : a + (k + (i - a - k)) ≡ i = omega arith in
      get_or-append_right (take a xs) (ys ++ drop k (drop a xs)) a i d front (omega arith)
      ∙ get_or-append_right ys (drop k (drop a xs)) k (i - a) d m (omega arith)
      ∙ get_or-drop k (drop a xs) (i - a - k) d ∙ get_or-drop a xs (k + (i - a - k)) d
      ∙ ap (λ (j : ℕ). get_or xs j d) same

pub put_spent : (k q w : ℕ) (ws ys : List ℕ) → q + k ≤ 256 → 256 < length ws → ys ≡ replicate k w → w ≡ 67108864
    → Spent k q ws (put_mid q k (set ws 256 (fuel_of ws - k)) ys)
put_spent k q w ws ys h l e f =
    let xs = set ws 256 (fuel_of ws - k) in
    let m : length ys ≡ k = rw e (length-replicate k w) in
    let long = length-set ws 256 (fuel_of ws - k) in
    let n : q + k ≤ length xs = omega arith in
    record {
      long = same_len_mid q k xs ys (m ∙ sym (part_length q k xs n)) ∙ long;
      fuel = put_behind q k xs ys 0 m n 256 (omega arith) ∙ get_or-set_same ws 256 (fuel_of ws - k) 0 l;
      within = λ i a b. put_within q k xs ys 0 m n i a b ∙ rw (e, get_or-replicate k (i - q) w 0 (omega arith)) f;
      before = λ i a. put_before q k xs ys 0 m n i a ∙ get_or-set_other ws 256 i (fuel_of ws - k) 0 (omega arith);
      behind = λ i a n'. put_behind q k xs ys 0 m n i a ∙ get_or-set_other ws 256 i (fuel_of ws - k) 0 n';
    }

pub put_aged : (dt : Float) (k q : ℕ) (ts ys : List Float) → q + k ≤ length ts → length ys ≡ k
    → ((j : ℕ) → j < k → get_or ys j zero_time ≡ add binary64 (get_or (mid_of q k ts) j zero_time) dt) → Aged dt k q ts (put_mid q k ts ys)
put_aged dt k q ts ys n m e = record {
  long = same_len_mid q k ts ys (m ∙ sym (part_length q k ts n));
  room = n;
  within = λ i a b. put_within q k ts ys zero_time m n i a b ∙ e (i - q) (omega arith) ∙ ap (λ (t : Float). add binary64 t dt) (part_at q k ts zero_time i a b);
  before = put_before q k ts ys zero_time m n;
  behind = put_behind q k ts ys zero_time m n;
}

-- none of the times reaches its limit
abbrev pub NoneEnds : Float → List Float → List Float → Type 0
NoneEnds dt ts ls = (j : ℕ) → j < length ls → j < length ts → lt (add binary64 (time_at ts j) dt) (time_at ls j) ≡ true

below_part : (limits : List Float) (dt : Float) (k q : ℕ) (ts : List Float) → q + k ≤ length ts → q + k ≤ length limits
    → NoneEnds dt (mid_of q k ts) (mid_of q k limits) → Below limits dt k q ts
below_part limits dt k q ts m n b i g h =
    let times = part_length q k ts m in
    let below = part_length q k limits n in
    rw (← part_at q k ts zero_time i g h, ← part_at q k limits zero_time i g h) (b (i - q) (omega arith) (omega arith))

-- the part from q on is put back, in the words with one status and in the times each with dt more
pub waits_part : (limits : List Float) (dt : Float) (k n q w : ℕ) (ws ys : List ℕ) (ts items : List Float) → n ≡ k → q + k ≤ 256 → Ready k q ws
    → w ≡ 67108864 → ys ≡ replicate (length (mid_of q n (set ws 256 (fuel_of ws - k)))) w
    → q + k ≤ length ts → q + k ≤ length limits → length items ≡ length (mid_of q n ts)
    → ((j : ℕ) → j < k → get_or items j zero_time ≡ add binary64 (get_or (mid_of q n ts) j zero_time) dt)
    → NoneEnds dt (mid_of q n ts) (mid_of q n limits)
    → Waiting limits dt q (q + k) ws ts (put_mid q n (set ws 256 (fuel_of ws - k)) ys) (put_mid q n ts items)
waits_part limits dt k n q w ws ys ts items e h r one y in_times in_limits m items_on below =
    let words = part_length q k (set ws 256 (fuel_of ws - k)) (omega (arith, length-set ws 256 (fuel_of ws - k), r.long)) in
    let times = part_length q k ts in_times in
    let long = part_length q k limits in_limits in
    rw e (waits_many limits dt k q ws _ ts _ h r
    (put_spent k q w ws ys h r.long (rw (e, words) at y) one)
    (put_aged dt k q ts items in_times (rw (e, times) at m) (rw e at items_on))
    (λ i a b. below_part limits dt k q ts in_times in_limits (rw e at below) i a b))

-- ---- a fold over times and limits
one_more : (dt t l : Float) (ts ls : List Float) → lt (add binary64 t dt) l ≡ true → NoneEnds dt ts ls → NoneEnds dt (t ∷ ts) (l ∷ ls)
one_more dt t l ts ls e r zero h k = e
one_more dt t l ts ls e r (suc j) h k = r j (omega arith) (omega arith)

abbrev pub still : Float → Bool → Float × Float → Bool
still dt b p = b && lt (add binary64 p.0 dt) p.1

pub none_ends : (dt : Float) (b : Bool) (ts ls : List Float) → fold (still dt) b (zip ts ls) ≡ true → (b ≡ true) × NoneEnds dt ts ls
none_ends dt b [] ls e = (e, λ j h l. absurd (omega arith))
none_ends dt b (t ∷ ts) [] e = (e, λ j h l. absurd (omega arith))
none_ends dt b (t ∷ ts) (l ∷ ls) e =
    let on = none_ends dt (b && lt (add binary64 t dt) l) ts ls e in
    let parts = and_parts b (lt (add binary64 t dt) l) on.0 in
    (parts.0, one_more dt t l ts ls parts.1 on.1)
