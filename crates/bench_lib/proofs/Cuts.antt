-- The first line among bytes.
use Rattle.std.proofs.Common.{◌≡◌, refl, sym, ap, ◌∙◌, Bool, true, false, cond, Some, None, List, [], ◌∷◌, ◌++◌, append_assoc, append-nil}
use Rattle.std.proofs.Common.{ℕ, zero, suc, ◌+◌, ◌<◌, eqb, length, get_or, take, drop, arith, ne_eqb, eqb-true}
use Rattle.std.proofs.Math.Seq.{split_at, take-suc, take-length}
use Rattle.std.proofs.Math.ListN.{drop_of_length-le}
use Rattle.std.specs.Prelude.{◌==◌}
use Rattle.std.specs.List.{position_from}
use Rattle.bench_line.specs.Bench.{Line, cut}
use Rattle.bench_lib.specs.Served.{Open, Ends}

no_true : false ≡ true → ⊥
no_true e = let z : ◌≡◌ {A = ℕ} 0 1 = ap (λ b. cond b 1 0) e in omega arith

-- ---- cutting
cut_line : (m rest : List ℕ) → Open m → cut (m ++ (10 ∷ rest)) ≡ (m ++ (10 ∷ [])) ∷ cut rest
unfolding cut
cut_line [] rest h = refl
cut_line (b ∷ m) rest h =
    let ih = cut_line m rest (λ i l e. h (suc i) (omega arith) e) in
    rw (ne_eqb b 10 (h 0 (omega arith)), ih)

cut_none : cut [] ≡ []
unfolding cut
cut_none = refl

cut_last : (m : List ℕ) → 0 < length m → Open m → cut m ≡ m ∷ []
unfolding cut
cut_last [] l h = absurd (omega arith)
cut_last (b ∷ []) l h = rw (ne_eqb b 10 (h 0 (omega arith)))
cut_last (b ∷ x ∷ m) l h =
    let ih = cut_last (x ∷ m) (omega arith) (λ i k e. h (suc i) (omega arith) e) in
    rw (ne_eqb b 10 (h 0 (omega arith)), ih)

-- ---- the first LF
abbrev pub ends_line : ℕ → Bool
ends_line b = eqb b 10

-- the k-th byte is the first LF
record First (u : List ℕ) (k : ℕ) : Type 0 where
  pub within : k < length u
  pub here : get_or u k 0 ≡ 10
  pub before : Open (take k u)

open_more : (x : ℕ) (u : List ℕ) → eqb x 10 ≡ false → Open u → Open (x ∷ u)
open_more x u n o zero h e = no_true (sym n ∙ rw e refl)
open_more x u n o (suc i) h e = o i (omega arith) e

first_by : (x : ℕ) (u : List ℕ) (i j : ℕ) (b : Bool) → eqb x 10 ≡ b → cond b (Some i) (position_from ends_line (i + 1) u) ≡ Some j
    → (position_from ends_line (i + 1) u ≡ Some j → (k : ℕ) × (j ≡ i + 1 + k) × First u k) → (k : ℕ) × (j ≡ i + k) × First (x ∷ u) k
first_by x u i j true t p ih =
    let same : i ≡ j = cc in
    (0, omega arith, record { within = omega arith; here = eqb-true x 10 t; before = λ n h. absurd (omega arith) })
first_by x u i j false t p ih =
    let r = ih p in
    (suc r.0, omega (arith, r.1), record { within = omega (arith, r.2.within); here = r.2.here; before = open_more x (take r.0 u) t r.2.before })

first : (u : List ℕ) (i j : ℕ) → position_from ends_line i u ≡ Some j → (k : ℕ) × (j ≡ i + k) × First u k
first [] i j e = absurd cc
first (x ∷ u) i j e = first_by x u i j (eqb x 10) refl e (first u (i + 1) j)

missing_by : (x : ℕ) (u : List ℕ) (i : ℕ) (b : Bool) → eqb x 10 ≡ b → cond b (Some i) (position_from ends_line (i + 1) u) ≡ None
    → (position_from ends_line (i + 1) u ≡ None → Open u) → Open (x ∷ u)
missing_by x u i true t p ih = absurd cc
missing_by x u i false t p ih = open_more x u t (ih p)

missing : (u : List ℕ) (i : ℕ) → position_from ends_line i u ≡ None → Open u
missing [] i e = λ n h. absurd (omega arith)
missing (x ∷ u) i e = missing_by x u i (eqb x 10) refl e (missing u (i + 1))

-- ---- the first line
pub line_ends : (u : List ℕ) (last : Bool) (j : ℕ) → position_from ends_line 0 u ≡ Some j → Ends u last (Some (j + 1))
line_ends u last j e = ends r.0 r.2 (omega (arith, r.1))
  where
    r : (k : ℕ) × (j ≡ 0 + k) × First u k
    r = first u 0 j e

    ends : (k : ℕ) → First u k → j ≡ k → Ends u last (Some (j + 1))
    ends k f same =
        let n : j + 1 ≡ suc k = omega arith in
        let whole : u ≡ take k u ++ (10 ∷ drop (suc k) u) = split_at u k 0 f.within ∙ ap (λ b. take k u ++ (b ∷ drop (suc k) u)) f.here in
        let line : take (suc k) u ≡ take k u ++ (10 ∷ []) = take-suc u k 0 f.within ∙ ap (λ b. take k u ++ (b ∷ [])) f.here in
        rw n (
          omega arith,
          omega (arith, f.within),
          λ more _.
              ap (λ l. cut (l ++ more)) whole
              ∙ ap cut (append_assoc (take k u) (10 ∷ drop (suc k) u) more)
              ∙ cut_line (take k u) (drop (suc k) u ++ more) f.before
              ∙ ap (λ (l : Line). l ∷ cut (drop (suc k) u ++ more)) (sym line),
        )

-- what stands there is the last line
pub last_line : (u : List ℕ) (last : Bool) → last ≡ true → 0 < length u → position_from ends_line 0 u ≡ None → Ends u last (Some (length u))
last_line u last e h p = (
  h,
  omega arith,
  λ more b.
      let rest : drop (length u) u ≡ [] = drop_of_length-le u {i = length u} (omega arith) in
      rw (b e, append-nil u, take-length u, rest, cut_none) (cut_last u h (missing u 0 p)),
)

pub no_line : (u : List ℕ) (last : Bool) → (last ≡ true → u ≡ []) → position_from ends_line 0 u ≡ None → Ends u last None
no_line u last e p = record { unended = missing u 0 p; none = e }

pub some_bytes : (u : List ℕ) → false ≡ (length u == 0) → 0 < length u
some_bytes [] e = absurd (no_true e)
some_bytes (x ∷ u) e = omega arith
