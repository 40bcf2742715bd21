-- The loop's turns, each as its functions promise it, print what the definition says of all that was read.
use Rattle.std.specs.Prelude.{◌≡◌, refl, Bool, true, false, cond, Err, List, [], ◌∷◌, ◌++◌, ℕ, suc, ◌<◌, length}
use Rattle.std.proofs.Common.{sym, ap, ap₂, ◌∙◌, append_assoc, append-nil, arith, ne_eqb, length-append}
use Rattle.frames.specs.declared.Frame.TheVariants.{Malformed}
use Rattle.frames.specs.declared.Unread.{Unread}
use Rattle.frames.specs.Find.{found, statuses_in, leftovers_in}
use Rattle.frames.specs.Finds.{none_found}
use Rattle.frames.specs.Lengths.{longest}
use Rattle.frames.specs.Order.{admitted}
use Rattle.bench_line.specs.Bench.{Line, State, start, printed, line_number, stopped, does, step, after, onto, cut, from, bench}
use Rattle.bench_lib.specs.Served.{Open, Waits, Behind, Serves}

-- turns from the state s on, with the bytes u in hand and input still to be read, that print out
pub data Turns : State → List ℕ → List ℕ → List ℕ → Type 0 where
  -- a line was malformed: what is not read yet is never read
  stops : {last : Bool} {s s' : State} {u u' input out : List ℕ}
      → Serves last s u out s' u' → Behind last input → s'.on ≡ false → Turns s u input out
  -- no more bytes come, and no line is left
  ends : {s s' : State} {u u' out : List ℕ} → Serves true s u out s' u' → Waits u' true → Turns s u [] out
  -- the output is full: it is written, and no byte is read
  writes : {last : Bool} {s s' : State} {u u' input out out' : List ℕ}
      → Serves last s u out s' u' → Behind last input → Turns s' u' input out' → Turns s u input (out ++ out')
  -- no whole line is left: more bytes are read
  reads : {s s' : State} {u u' input out out' : List ℕ} (new : List ℕ)
      → Serves false s u out s' u' → Turns s' (u' ++ new) input out' → Turns s u (new ++ input) (out ++ out')
  -- no line is as long as what is there: it is taken for one, and is malformed
  too_long : {s s' : State} {u u' input out out' : List ℕ}
      → Serves false s u out s' u' → Open u' → 20517 < length u' → Turns s' u' [] out' → Turns s u input (out ++ out')

pub off : (s : State) (ls : List Line) → s.on ≡ false → after s ls ≡ []
unfolding after
off s [] e = refl
off s (l ∷ ls) e = ap (λ b. cond b ((step s l).1 ++ after (step s l).0 ls) []) e

pub nothing : (s : State) → from s [] ≡ []
unfolding from
nothing s = refl

-- ---- a line that is too long
no_frame : (l : Line) → 20517 < length l → found l ≡ Err Unread.NoFrame
no_frame l h = none_found l (λ f xs ys g e. omega (arith, longest f xs ys g, ap length e))

malformed : (s : State) (l : Line) → 20517 < length l → step s l ≡ (stopped s, printed (Malformed (line_number s.lines)))
unfolding step
malformed s l h =
    ap (λ r. does s (statuses_in l) (leftovers_in l) (admitted (length s.table.kinds) s.begun r)) (no_frame l h)

-- nothing behind it is looked at
long_line : (s : State) (l : Line) (ls : List Line) → 20517 < length l
    → after s (l ∷ ls) ≡ cond s.on (printed (Malformed (line_number s.lines)) ++ []) []
unfolding after
long_line s l ls h =
    let p = malformed s l h in
    ap (λ x. cond s.on x [])
    (ap₂ (λ (x y : List ℕ). x ++ y) (ap (λ r. r.1) p) (off (step s l).0 ls (ap (λ r. r.0.on) p)))

-- bytes among which no line ends are one line's start
onto_first : (b : ℕ) (ls : List Line) → (x : Line) × (ms : List Line) × (onto b ls ≡ (b ∷ x) ∷ ms)
onto_first b [] = ([], [], refl)
onto_first b (l ∷ ls) = (l, ls, refl)

cut_open : (u input : List ℕ) → 0 < length u → Open u → (x : Line) × (ls : List Line) × (cut (u ++ input) ≡ (u ++ x) ∷ ls)
unfolding cut
cut_open [] input h o = absurd (omega arith)
cut_open (b ∷ []) input h o =
    let r = onto_first b (cut input) in
    (r.0, r.1, rw (ne_eqb b 10 (o 0 (omega arith))) r.2)
cut_open (b ∷ c ∷ u) input h o =
    let r = cut_open (c ∷ u) input (omega arith) (λ i l e. o (suc i) (omega arith) e) in
    (r.0, r.1, rw (ne_eqb b 10 (o 0 (omega arith))) (ap (onto b) r.2))

pub long_bytes : (s : State) (u input : List ℕ) → Open u → 20517 < length u → from s (u ++ input) ≡ from s (u ++ [])
unfolding from
long_bytes s u input o h =
    let a = cut_open u input (omega arith) o in
    let b = cut_open u [] (omega arith) o in
    ap (after s) a.2
    ∙ long_line s (u ++ a.0) a.1 (omega (arith, length-append u a.0))
    ∙ sym (long_line s (u ++ b.0) b.1 (omega (arith, length-append u b.0)))
    ∙ ap (after s) (sym b.2)

never : {input : List ℕ} → Behind false input
never p = absurd (let z : ◌≡◌ {A = ℕ} 0 1 = ap (λ b. cond b 1 0) p in omega arith)

pub printed_so : {s : State} {u input out : List ℕ} → Turns s u input out → from s (u ++ input) ≡ out
unfolding from
printed_so (stops {s' = s'} {u' = u'} {input = input} {out = out} t b e) =
    t.so input b ∙ ap (λ x. out ++ x) (off s' (cut (u' ++ input)) e) ∙ append-nil out
printed_so (ends {s' = s'} {u' = u'} {out = out} t w) =
    t.so [] (λ _. refl) ∙ ap (λ x. out ++ from s' (x ++ [])) (w.none refl) ∙ ap (λ x. out ++ x) (nothing s') ∙ append-nil out
printed_so (writes {input = input} {out = out} t b r) = t.so input b ∙ ap (λ x. out ++ x) (printed_so r)
printed_so (too_long {s' = s'} {u' = u'} {input = input} {out = out} t o h r) =
    t.so input never ∙ ap (λ x. out ++ x) (long_bytes s' u' input o h ∙ printed_so r)
printed_so (reads {s' = s'} {u' = u'} {input = input} {out = out} new t r) =
    t.so (new ++ input) never ∙ ap (λ x. out ++ from s' x) (sym (append_assoc u' new input)) ∙ ap (λ x. out ++ x) (printed_so r)

-- from the start on, with nothing in hand
pub whole : (input out : List ℕ) → Turns start [] input out → bench input ≡ out
unfolding bench
whole input out t = printed_so t
