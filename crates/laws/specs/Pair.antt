-- Two walks side by side: the same rule on the same tree, from two worlds. A `Pairing` says what is asked of trees and times, which worlds belong
-- together, how they may move, and in which ways the two may stop; then whatever the rules do with the tickers of the children keeps to it. One walk
-- alone is a walk beside itself.
use Rattle.std.specs.Prelude.{◌≡◌, refl, Bool, true, false, ℕ, ◌+◌, ◌≤◌, T, Float}
use Rattle.std.proofs.Common.{sym, arith}
use Rattle.std.specs.Float.{Format}
use Rattle.std.specs.Float.Ieee.{add, sub, le}
use Rattle.rules.specs.declared.status.Status.{Status}
use Rattle.rules.specs.Tree.{zero_time}
use Rattle.rules.specs.Outcome.{World, Out, done, short, ◌▸◌, largest, smaller}
use Rattle.rules.specs.Table.{number}

-- what is asked: `Known X` is X, or nothing where trees are not looked at; and which times may be met
pub record Terms (F : Format) : Type 1 where
  pub Known : Type 0 → Type 0
  pub known : {X : Type 0} → X → Known X
  pub map : {X Y : Type 0} → (X → Y) → Known X → Known Y
  pub both : {X Y : Type 0} → Known X → Known Y → Known (X × Y)
  -- a time that may be met; they are closed under what the rules do with them
  pub time : Float → Bool
  pub none_passed : T (time zero_time)
  pub most : T (time (largest F))
  pub least : (x y : Float) → T (time x) → T (time y) → T (time (smaller x y))
  pub limit : (l : Float) → Known (T (number l)) → T (time l)
  pub sum : (x y : Float) → Known (T (time x)) → T (time y) → T (time (add F x y))
  pub past : (l x : Float) → Known (T (number l)) → T (time x) → le l x ≡ true → T (time (sub F x l))

-- nothing is asked
abbrev pub nothing : (F : Format) → Terms F
nothing F = record {
  Known = λ X. Unit {0};
  known = λ x. tt;
  map = λ f x. tt;
  both = λ x y. tt;
  time = λ x. true;
  none_passed = tt;
  most = tt;
  least = λ x y h g. tt;
  limit = λ l h. tt;
  sum = λ x y h g. tt;
  past = λ l x h g e. tt;
}

pub record Pairing (F : Format) : Type 1 where
  pub terms : Terms F
  -- two worlds that belong together, and what each walk does there
  pub Worlds : Type 0
  pub first : {A : Type 0} → Worlds → (World → Out A) → Out A
  pub second : {A : Type 0} → Worlds → (World → Out A) → Out A
  pub fuel : Worlds → ℕ
  -- how they move on through trees of n nodes
  pub Reach : ℕ → Worlds → Worlds → Type 0
  pub stays : (n : ℕ) (p : Worlds) → Reach n p p
  pub onward : (m n : ℕ) (p q r : Worlds) → Reach m p q → Reach n q r → Reach (m + n) p r
  pub spends : (n : ℕ) (p q : Worlds) → Reach n p q → terms.Known (fuel q ≤ fuel p)
  -- how they stop
  pub Stop : {A : Type 0} → ℕ → Worlds → Out A → Out A → Type 0
  pub stop_then : {A B : Type 0} (n : ℕ) (p : Worlds) (o o' : Out A) (k k' : Status → Float → A → World → Out B) → Stop n p o o' → Stop n p (o ▸ k) (o' ▸ k')
  pub stop_back : {A : Type 0} (m n : ℕ) (p q : Worlds) (o o' : Out A) → Reach m p q → Stop n q o o' → Stop (m + n) p o o'
  -- a clause that is short: no tree of which it is known what is asked leads there
  pub stop_short : {A : Type 0} (n : ℕ) (p : Worlds) → terms.Known ⊥ → Stop {A = A} n p (first p (λ w. short)) (second p (λ w. short))
  -- where nodes are not counted, each number stands for each other
  pub Upto : ℕ → ℕ → Type 0
  pub upto : (m n : ℕ) → m ≤ n → Upto m n
  pub reach_upto : (m n : ℕ) (p q : Worlds) → Upto m n → Reach m p q → Reach n p q
  pub stop_upto : {A : Type 0} (m n : ℕ) (p : Worlds) (o o' : Out A) → Upto m n → Stop m p o o' → Stop n p o o'
  -- what follows a child's answer follows it in each walk
  pub first_then : {A B : Type 0} (p : Worlds) (m : World → Out A) (k : Status → Float → A → World → Out B) → first p (λ w. m w ▸ k) ≡ first p m ▸ k
  pub second_then : {A B : Type 0} (p : Worlds) (m : World → Out A) (k : Status → Float → A → World → Out B) → second p (λ w. m w ▸ k) ≡ second p m ▸ k

module _ {F : Format} (R : Pairing F) where
  abbrev pub Known : Type 0 → Type 0
  Known X = R.terms.Known X

  abbrev pub Time : Float → Type 0
  Time x = T (R.terms.time x)

  pub from : {X Y : Type 0} → Known X → (X → Y) → Known Y
  from u f = R.terms.map f u

  pub from_both : {X Y Z : Type 0} → Known X → Known Y → (X → Y → Z) → Known Z
  from_both u v f = R.terms.map (λ z. f z.0 z.1) (R.terms.both u v)

  -- what is said of an outcome that is done: of its status, leftover and result, and of the worlds that are left
  abbrev pub Of : Type 0 → Type 1
  Of A = Status → Float → A → R.Worlds → Type 0

  -- both are done, with the same status, leftover and result; or they stop
  pub data Sim {A : Type 0} (n : ℕ) (p : R.Worlds) (P : Of A) : Out A → Out A → Type 0 where
    goes : (s : Status) (r : Float) (a : A) (q : R.Worlds) → R.Reach n p q → P s r a q → Sim n p P (R.first q (done s r a)) (R.second q (done s r a))
    ends : (o o' : Out A) → R.Stop n p o o' → Sim n p P o o'

  -- the same, of a rule or a driver
  abbrev pub Both : {A : Type 0} → ℕ → R.Worlds → Of A → (World → Out A) → (World → Out A) → Type 0
  Both n p P m m' = Sim n p P (R.first p m) (R.second p m')

  -- from worlds before it; counted for more nodes; told less of; with the fuel that is left
  pub back : {A : Type 0} {m n : ℕ} {p q : R.Worlds} {P : Of A} {o o' : Out A} → R.Reach m p q → Sim n q P o o' → Sim (m + n) p P o o'
  back {m} {n} {p} {q} h (goes s r a q' g x) = goes s r a q' (R.onward m n p q q' h g) x
  back {m} {n} {p} {q} h (ends u u' g) = ends u u' (R.stop_back m n p q u u' h g)

  pub up : {A : Type 0} {n : ℕ} {p : R.Worlds} {P : Of A} {o o' : Out A} (m : ℕ) → R.Upto m n → Sim m p P o o' → Sim n p P o o'
  up {n} {p} m h (goes s r a q g x) = goes s r a q (R.reach_upto m n p q h g) x
  up {n} {p} m h (ends u u' g) = ends u u' (R.stop_upto m n p u u' h g)

  pub weak : {A : Type 0} {n : ℕ} {p : R.Worlds} {P Q : Of A} {o o' : Out A} → Sim n p P o o' → ((s : Status) (r : Float) (a : A) (q : R.Worlds) → P s r a q → Q s r a q) → Sim n p Q o o'
  weak (goes s r a q h x) f = goes s r a q h (f s r a q x)
  weak (ends u u' h) f = ends u u' h

  pub spent : {A : Type 0} {n : ℕ} {p : R.Worlds} {P : Of A} {o o' : Out A} → Sim n p P o o' → Sim n p (λ s r a q. P s r a q × Known (R.fuel q ≤ R.fuel p)) o o'
  spent {n} {p} (goes s r a q h x) = goes s r a q h (x, R.spends n p q h)
  spent (ends u u' h) = ends u u' h

  -- done at once; a clause that is short
  pub stay : {A : Type 0} {n : ℕ} {p : R.Worlds} {P : Of A} {s : Status} {r : Float} {a : A} → P s r a p → Both n p P (done s r a) (done s r a)
  stay {n} {p} {s} {r} {a} x = goes s r a p (R.stays n p) x

  pub cut : {A : Type 0} {n : ℕ} {p : R.Worlds} {P : Of A} → Known ⊥ → Both n p P (λ w. short) (λ w. short)
  cut {n} {p} h = ends (R.first p (λ w. short)) (R.second p (λ w. short)) (R.stop_short n p h)

  then_goes : {A B : Type 0} (m n : ℕ) (p : R.Worlds) (P : Of A) (Q : Of B) (k k' : Status → Float → A → World → Out B) (o o' : Out A) → Sim m p P o o'
      → ((s : Status) (r : Float) (a : A) (q : R.Worlds) → P s r a q → Both n q Q (k s r a) (k' s r a)) → Sim (m + n) p Q (o ▸ k) (o' ▸ k')
  then_goes m n p P Q k k' o o' (goes s r a q h x) c = rw (sym (R.first_then q (done s r a) k), sym (R.second_then q (done s r a) k')) (back h (c s r a q x))
  then_goes m n p P Q k k' o o' (ends u u' h) c =
      ends (u ▸ k) (u' ▸ k') (R.stop_upto m (m + n) p (u ▸ k) (u' ▸ k') (R.upto m (m + n) (omega arith)) (R.stop_then m p u u' k k' h))

  -- the one law of what follows a child's answer
  pub then : {A B : Type 0} {m n : ℕ} {p : R.Worlds} {P : Of A} {Q : Of B} {o o' : World → Out A} {k k' : Status → Float → A → World → Out B}
      → Both m p P o o' → ((s : Status) (r : Float) (a : A) (q : R.Worlds) → P s r a q → Both n q Q (k s r a) (k' s r a)) → Both (m + n) p Q (λ w. o w ▸ k) (λ w. o' w ▸ k')
  then {m} {n} {p} {P} {Q} {o} {o'} {k} {k'} h c = rw (R.first_then p o k, R.second_then p o' k') (then_goes m n p P Q k k' (R.first p o) (R.second p o') h c)

  -- what is done with an outcome, with no more nodes
  pub after : {A B : Type 0} {n : ℕ} {p : R.Worlds} {P : Of A} {Q : Of B} {o o' : World → Out A} {k k' : Status → Float → A → World → Out B}
      → Both n p P o o' → ((s : Status) (r : Float) (a : A) (q : R.Worlds) → P s r a q → Both 0 q Q (k s r a) (k' s r a)) → Both n p Q (λ w. o w ▸ k) (λ w. o' w ▸ k')
  after {n} h c = up (n + 0) (R.upto (n + 0) n (omega arith)) (then h c)

  pub either : {A : Type 0} {n : ℕ} {p : R.Worlds} {P : Of A} {m m' o o' : World → Out A} (b : Bool) → (b ≡ true → Both n p P m m') → (b ≡ false → Both n p P o o')
      → Both n p P (λ w. elim b [ true ↦ m w | false ↦ o w ]) (λ w. elim b [ true ↦ m' w | false ↦ o' w ])
  either true h g = h refl
  either false h g = g refl
