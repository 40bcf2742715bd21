-- The turns of the loop: what was read and written so far, what is in hand, and that it is what the definition says.
use Rattle.std.proofs.Common.{◌≡◌, refl, sym, ap, ◌∙◌, subst, arith, Bool, true, false, cond, Option, Some, None, IfSome, List}
use Rattle.std.proofs.Common.{[], ◌++◌, append_assoc, append-nil, ℕ, ◌<◌, length, take, drop, take-append-drop}
use native.Mathlib.Decide.{dec_lt}
use Rattle.std.specs.Io.KnownBytes.{Keeps, Appends, Consumes, IsAtEnd}
use Rattle.std.proofs.KnownBytes.{Consumes-nil, Consumes-trans, Consumes-kept, Appends-nil, Appends-trans, Keeps-refl}
use Rattle.bench_line.specs.Bench.{State, start, cut, from, bench}
use Rattle.bench_lib.specs.declared.input.Input.{Input}
use Rattle.bench_lib.specs.declared.output.Output.{Output}
use Rattle.bench_lib.specs.Served.{Open, Waits, Serves, Starts, Lined, rest, printed}
use Rattle.bench_lib.specs.Streams.{ReadsOn, Breaks}
use Rattle.bench_lib.specs.Whole.{off, nothing, long_bytes}

-- a reader and a writer at the start and now, whether no more comes, the state, and the bytes in hand
pub record Told (r₀ r w₀ w : Option (List ℕ)) (last : Bool) (s : State) (u : List ℕ) : Type 0 where
  pub read : List ℕ
  pub out : List ℕ
  pub took : Consumes r₀ r read
  pub wrote : Appends w₀ w out
  pub serves : Serves last start read out s u
  pub ended : last ≡ true → IfSome r (λ more. bench (read ++ more) ≡ bench read)

-- all that the definition says was written
pub record Done (r₀ r w₀ w : Option (List ℕ)) : Type 0 where
  pub read : List ℕ
  pub took : Consumes r₀ r read
  pub wrote : Appends w₀ w (bench read)
  pub whole : IfSome r (λ more. bench (read ++ more) ≡ bench read)

true_false : true ≡ false → ⊥
true_false e = let z : ◌≡◌ {A = ℕ} 0 1 = ap (λ b. cond b 0 1) e in omega arith

-- where no bytes are left, no more make a difference
at_end : (r : Option (List ℕ)) (read : List ℕ) → IsAtEnd r → IfSome r (λ more. bench (read ++ more) ≡ bench read)
at_end None read e = tt
at_end (Some more) read e = ap (λ x. bench (read ++ x)) e ∙ ap bench (append-nil read)

for_all : (r : Option (List ℕ)) (P : List ℕ → Type 0) → ((more : List ℕ) → P more) → IfSome r P
for_all None P h = tt
for_all (Some more) P h = h more

bench_from : (x : List ℕ) → bench x ≡ from start x
unfolding bench
bench_from x = refl

off_from : (s : State) (u : List ℕ) → s.on ≡ false → from s u ≡ []
unfolding from
off_from s u e = off s (cut u) e

-- nothing was read or written yet
pub told_first : (r w : Option (List ℕ)) (s : State) (i : Input) → s ≡ start → Starts i → Told r r w w i.last s (rest i)
told_first r w s i e h =
    record {
      read = [];
      out = [];
      took = Consumes-nil r;
      wrote = Appends-nil w;
      serves = record { so = λ more b. ap (λ s. from s more) (sym e) ∙ ap (λ x. from s (x ++ more)) (sym h.none) };
      ended = λ e. absurd (true_false (sym e ∙ h.more));
    }

-- ---- one turn
module _ {r₀ r w₀ w : Option (List ℕ)} {last : Bool} {s : State} {u : List ℕ} (d : Told r₀ r w₀ w last s u) where
  -- what is in hand prints what is left of what the definition says
  begun : bench d.read ≡ d.out ++ from s u
  begun =
      bench_from d.read
      ∙ ap (from start) (sym (append-nil d.read))
      ∙ d.serves.so [] (λ _. refl)
      ∙ ap (λ x. d.out ++ from s x) (append-nil u)

module _ {r₀ r w₀ w : Option (List ℕ)} (w' : Option (List ℕ)) (s s' : State) (i i' : Input) (o : Output)
    (d : Told r₀ r w₀ w i.last s (rest i)) (l : Lined s i s' i' o) where
  -- what was printed was written
  pub told_lined : Appends w w' (printed o) → Told r₀ r w₀ w' i'.last s' (rest i')
  told_lined a =
      let out = d.out ++ printed o in
      record {
        read = d.read;
        out = out;
        took = d.took;
        wrote = Appends-trans _ _ _ _ _ d.wrote a;
        serves =
            subst (λ b. Serves b start d.read out s' (rest i')) (sym l.last)
            (record {
              so =
                  λ more b.
                  d.serves.so more b ∙ ap (λ x. d.out ++ x) (l.serves.so more b) ∙ sym (append_assoc d.out (printed o) (from s' (rest i' ++ more)));
            });
        ended = λ e. d.ended (sym l.last ∙ e);
      }

  -- a part of it was
  pub breaks_written : (n : ℕ) → Appends w w' (take n (printed o)) → Breaks r₀ r w₀ w'
  breaks_written n a =
      let out = printed o in
      let rest' = from s' (rest i') in
      let behind = drop n out in
      let prints : from s (rest i) ≡ out ++ rest' =
      ap (from s) (sym (append-nil (rest i))) ∙ l.serves.so [] (λ _. refl) ∙ ap (λ x. out ++ from s' x) (append-nil (rest i')) in
      record {
        input = d.read;
        out = d.out ++ take n out;
        left = behind ++ rest';
        took = d.took;
        wrote = Appends-trans _ _ _ _ _ d.wrote a;
        begins =
            begun d
            ∙ ap (λ x. d.out ++ x) (prints ∙ ap (λ x. x ++ rest') (sym (take-append-drop n out)) ∙ append_assoc (take n out) behind rest')
            ∙ sym (append_assoc d.out (take n out) (behind ++ rest'));
      }

module _ {r₀ r w₀ w : Option (List ℕ)} (r' : Option (List ℕ)) (s : State) (i i' : Input)
    (d : Told r₀ r w₀ w i.last s (rest i)) (l : i.last ≡ false) (o : ReadsOn r r' i i') where
  more_of : (more : List ℕ) → from start ((d.read ++ o.on.new) ++ more) ≡ d.out ++ from s (rest i' ++ more)
  more_of more =
      let new = o.on.new in
      let u = rest i in
      ap (from start) (append_assoc d.read new more)
      ∙ d.serves.so (new ++ more) (λ e. absurd (true_false (sym e ∙ l)))
      ∙ ap (λ x. d.out ++ from s x) (sym (append_assoc u new more) ∙ ap (λ x. x ++ more) (sym o.on.bytes))

  -- a line that takes all the room is malformed, whatever comes behind
  too_long : Waits (rest i) i.last → i'.last ≡ true → (length (rest i') < 65536 → ⊥) → (more : List ℕ)
      → bench ((d.read ++ o.on.new) ++ more) ≡ bench (d.read ++ o.on.new)
  too_long w e m more =
      let all = d.read ++ o.on.new in
      let u = rest i' in
      let same : u ≡ rest i = o.on.bytes ∙ ap (λ x. rest i ++ x) (o.on.none e) ∙ append-nil (rest i) in
      bench_from (all ++ more)
      ∙ more_of more
      ∙ ap (λ x. d.out ++ x) (long_bytes s u more (subst Open (sym same) w.unended) (omega arith))
      ∙ sym (more_of [])
      ∙ ap (from start) (append-nil all)
      ∙ sym (bench_from all)

  -- more came
  pub told_reads : Waits (rest i) i.last → Told r₀ r' w₀ w i'.last s (rest i')
  told_reads w = record {
    read = d.read ++ o.on.new;
    out = d.out;
    took = Consumes-trans _ _ _ _ _ d.took o.took;
    wrote = d.wrote;
    serves = record { so = λ more _. more_of more };
    ended =
        λ e.
        elim (dec_lt (length (rest i')) 65536) [
          | yes m ↦ at_end r' (d.read ++ o.on.new) (o.ended e m)
          | no m ↦ for_all r' (λ more. bench ((d.read ++ o.on.new) ++ more) ≡ bench (d.read ++ o.on.new)) (too_long w e m)
        ];
  }

-- ---- the end
-- behind a malformed line nothing is printed
whole_off : (r₀ r w₀ w : Option (List ℕ)) (last : Bool) (s : State) (u : List ℕ) (d : Told r₀ r w₀ w last s u) → s.on ≡ false → IfSome r (λ more. bench (d.read ++ more) ≡ bench d.read)
whole_off r₀ r w₀ w true s u d e = d.ended refl
whole_off r₀ r w₀ w false s u d e =
    for_all r (λ more. bench (d.read ++ more) ≡ bench d.read) (
    λ more.
    bench_from (d.read ++ more)
    ∙ d.serves.so more (λ f. absurd (true_false (sym f)))
    ∙ ap (λ x. d.out ++ x) (off_from s (u ++ more) e ∙ sym (off_from s u e))
    ∙ sym (begun d)
    )

pub done_off : (r₀ r w₀ w : Option (List ℕ)) (last : Bool) (s : State) (u : List ℕ) → Told r₀ r w₀ w last s u → s.on ≡ false → Done r₀ r w₀ w
done_off r₀ r w₀ w last s u d e = record {
  read = d.read;
  took = d.took;
  wrote = subst (Appends w₀ w) (sym (begun d ∙ ap (λ x. d.out ++ x) (off_from s u e) ∙ append-nil d.out)) d.wrote;
  whole = whole_off r₀ r w₀ w last s u d e;
}

-- no bytes are left
pub done_end : (r₀ r w₀ w : Option (List ℕ)) (last : Bool) (s : State) (u : List ℕ) → Told r₀ r w₀ w last s u → last ≡ true → Waits u last → Done r₀ r w₀ w
done_end r₀ r w₀ w last s u d e h = record {
  read = d.read;
  took = d.took;
  wrote = subst (Appends w₀ w) (sym (begun d ∙ ap (λ x. d.out ++ from s x) (h.none e) ∙ ap (λ x. d.out ++ x) (nothing s) ∙ append-nil d.out)) d.wrote;
  whole = d.ended e;
}

pub done_all : (r₀ r w₀ w : Option (List ℕ)) → Done r₀ r w₀ w → IfSome r₀ (λ input. Appends w₀ w (bench input))
done_all None r w₀ w d = tt
done_all (Some xs) None w₀ w d = absurd d.took
done_all (Some xs) (Some ys) w₀ w d = subst (Appends w₀ w) (sym (ap bench d.took ∙ d.whole)) d.wrote

-- ---- a read failed, or there are no more turns
pub breaks_read : (r₀ r r' w₀ w : Option (List ℕ)) (last : Bool) (s : State) (u : List ℕ) → Told r₀ r w₀ w last s u → Keeps r r' → Breaks r₀ r' w₀ w
breaks_read r₀ r r' w₀ w last s u d k = record {
  input = d.read;
  out = d.out;
  left = from s u;
  took = Consumes-kept _ _ _ _ d.took k;
  wrote = d.wrote;
  begins = begun d;
}

pub breaks : (r₀ r w₀ w : Option (List ℕ)) (last : Bool) (s : State) (u : List ℕ) → Told r₀ r w₀ w last s u → Breaks r₀ r w₀ w
breaks r₀ r w₀ w last s u d = breaks_read r₀ r r w₀ w last s u d (Keeps-refl r)
