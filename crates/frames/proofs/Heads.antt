-- A line by its first two digits, and a line with its answers taken.
use mathlib.Core.Path.{◌≡◌, refl, sym, ap, ◌∙◌}
use mathlib.Core.List.{List, [], ◌∷◌, ◌++◌}
use Rattle.std.specs.Prelude.{Option, Some, None, Ok, Err}
use Prim.Native.Nat.{ℕ, suc, ◌≤◌, ◌<◌, min}
use native.Mathlib.Omega.{arith}
use lib.ListN.{length, drop}
use lib.Seq.{drop_at, drop-drop}
use Rattle.frames.specs.Hex.{digits}
use Rattle.frames.specs.Digits.{cut, length_digits, digits_one}
use Rattle.frames.specs.Line.{Field, Good, Reads, asked_no, fields, kind_of, front, body, answers, answers_of, line, event_no, event_time}
use Rattle.frames.specs.Back.{kind_small}
use Rattle.frames.specs.Parts.{Number, Body, Whole, Filled}
use Rattle.frames.specs.declared.Call.{Call}
use Rattle.frames.specs.declared.Call.TheVariants.{Tick, Restart}
use Rattle.frames.specs.declared.Event.{Event}
use Rattle.frames.specs.declared.Frame.{Frame}
use Rattle.frames.specs.declared.Frame.TheVariants.{Node, Asked, Said, Malformed}
use Rattle.frames.specs.declared.Unread.{Unread}
use Rattle.frames.proofs.Fields.{fields_ahead, ahead_same}
use Rattle.frames.proofs.Runs.{answers_widths}

pub by_kind : (l rest : List ℕ) (v : ℕ) (k : ℕ) (r : Option Frame) → Number l 2 (Some v) rest → v ≡ k → Body k rest r → Whole l r
by_kind l rest v k (Some f) n e b =
    let q = b.1.3 in (
      b.1.0,
      b.1.1,
      b.1.2,
      ap (λ (t : List ℕ). digits 2 (kind_of f) ++ t) q ∙ ap (λ (j : ℕ). digits 2 j ++ rest) (b.0 ∙ sym e) ∙ sym n.1,
    )
by_kind l rest v k None n e b = λ f xs ys g q.
    let h =
    cut (digits 2 v) (digits 2 (kind_of f)) rest (fields (body f xs ys)) (length_digits 2 v ∙ sym (length_digits 2 (kind_of f))) (sym n.1 ∙ sym q) in
    b f xs ys (sym (digits_one 2 v (kind_of f) n.0 (kind_small f) h.0) ∙ e) g (sym h.1)

-- no frame has any other kind
other : (v : ℕ) → (v ≡ 0x01 → ⊥) → (v ≡ 0x02 → ⊥) → (v ≡ 0x03 → ⊥) → (v ≡ 0x82 → ⊥) → (v ≡ 0x83 → ⊥) → (v ≡ 0x8f → ⊥)
    → (f : Frame) → v ≡ kind_of f → ⊥
other v a b c d e g (Node kind n limit) q = a q
other v a b c d e g (Asked Tick event fuel count) q = b q
other v a b c d e g (Asked Restart event fuel count) q = c q
other v a b c d e g (Said Tick num status time visits used extra) q = d q
other v a b c d e g (Said Restart num status time visits used extra) q = e q
other v a b c d e g (Malformed number) q = g q

pub no_kind : (l rest : List ℕ) (v : ℕ) → Number l 2 (Some v) rest → (v ≡ 0x01 → ⊥) → (v ≡ 0x02 → ⊥) → (v ≡ 0x03 → ⊥)
    → (v ≡ 0x82 → ⊥) → (v ≡ 0x83 → ⊥) → (v ≡ 0x8f → ⊥) → Whole l None
no_kind l rest v n a b c d e g = λ f xs ys h q.
    let r =
    cut (digits 2 v) (digits 2 (kind_of f)) rest (fields (body f xs ys)) (length_digits 2 v ∙ sym (length_digits 2 (kind_of f))) (sym n.1 ∙ sym q) in
    other v a b c d e g f (digits_one 2 v (kind_of f) n.0 (kind_small f) r.0)

-- no line begins with no number
pub no_number : (l rest : List ℕ) → Number l 2 None rest → Whole l None
no_number l rest h = λ f xs ys g q. h (kind_of f) (fields (body f xs ys)) (kind_small f) (sym q)

drop_field : (w v : ℕ) (t : List ℕ) → drop (suc w) ((32 ∷ digits w v) ++ t) ≡ t
drop_field w v t = drop_at (32 ∷ digits w v) t (suc w) (ap suc (length_digits w v))

-- a call's answers stand from byte 36 on
call_answers : (call : Call) (e : Event) (fuel count : ℕ) (xs ys : List ℕ) → drop 36 (line (Asked call e fuel count) xs ys) ≡ fields (answers count 0 xs ys)
call_answers call e fuel count xs ys =
    let t₄ = fields (answers count 0 xs ys) in
    let t₃ = (32 ∷ digits 4 count) ++ t₄ in
    let t₂ = (32 ∷ digits 8 fuel) ++ t₃ in
    let t₁ = (32 ∷ digits 16 (event_time e)) ++ t₂ in
    let t₀ = (32 ∷ digits 2 (event_no e)) ++ t₁ in
    sym (drop-drop 34 2 (digits 2 (asked_no call) ++ t₀)) ∙ ap (drop 34) (drop_at (digits 2 (asked_no call)) t₀ 2 (length_digits 2 (asked_no call)))
    ∙ sym (drop-drop 31 3 t₀) ∙ ap (drop 31) (drop_field 2 (event_no e) t₁)
    ∙ sym (drop-drop 14 17 t₁) ∙ ap (drop 14) (drop_field 16 (event_time e) t₂)
    ∙ sym (drop-drop 5 9 t₂) ∙ ap (drop 5) (drop_field 8 fuel t₃)
    ∙ drop_field 4 count t₄

-- with its answers taken, a frame's fields are those of its line
same_body : (l : List ℕ) (f : Frame) (xs ys ss ss' ls ls' : List ℕ) → Good f xs ys → line f xs ys ≡ l → Filled l (answers_of f) ss ls (Some tt) ss' ls'
    → body f ss' ls' ≡ body f xs ys
same_body l (Node kind n limit) xs ys ss ss' ls ls' g e h = refl
same_body l (Asked call event fuel count) xs ys ss ss' ls ls' g e h =
    ap (λ (fs : List Field). front (Asked call event fuel count) ++ fs)
    (ahead_same (answers count 0 ss' ls') (answers count 0 xs ys) h.3.0 (10 ∷ []) (answers_widths count 0 ss' ls' xs ys) h.2 g.fit.1.1.1.1
    (sym h.3.1 ∙ ap (drop 36) (sym e) ∙ call_answers call event fuel count xs ys ∙ fields_ahead (answers count 0 xs ys))).0
same_body l (Said call num status time visits used extra) xs ys ss ss' ls ls' g e h = refl
same_body l (Malformed number) xs ys ss ss' ls ls' g e h = refl

pub reads_is : (l : List ℕ) (f : Frame) (k : ℕ) (ss ss' ls ls' : List ℕ) → k ≡ answers_of f → k ≤ length ss → k ≤ length ls
    → length ss' ≡ length ss → length ls' ≡ length ls
    → Whole l (Some f) → Filled l k ss ls (Some tt) ss' ls' → Reads l ss ls (Ok f) ss' ls'
reads_is l f k ss ss' ls ls' ek hs hl es el w h₀ =
    let h : Filled l (answers_of f) ss ls (Some tt) ss' ls' = rw ek at h₀ in
    let xs = w.0 in
    let ys = w.1 in
    let g = w.2 in
    let e : body f ss' ls' ≡ body f xs ys = same_body l f xs ys ss ss' ls ls' g w.3 h in (
      record { few = g.few; statuses = omega arith; leftovers = omega arith; fit = rw e g.fit },
      ap (λ (fs : List Field). digits 2 (kind_of f) ++ fields fs) e ∙ w.3,
      (es, h.0),
      (el, h.1),
    )

pub reads_short : (l : List ℕ) (f : Frame) (k : ℕ) (ss ls : List ℕ) → k ≡ answers_of f → min (length ss) (length ls) < k → Whole l (Some f)
    → Reads l ss ls (Err Unread.TooShort) ss ls
reads_short l f k ss ls e h w = ((f, w.0, w.1, w.2, w.3, omega arith), refl, refl)

pub reads_not : (l ss ls : List ℕ) → Whole l None → Reads l ss ls (Err Unread.NoFrame) ss ls
reads_not l ss ls w = (w, refl, refl)

-- the answers of a frame's line stand there
pub filled_some : (l : List ℕ) (f : Frame) (ss ss' ls ls' : List ℕ) → Whole l (Some f) → Filled l (answers_of f) ss ls None ss' ls' → ⊥
filled_some l (Node kind n limit) ss ss' ls ls' w h = omega (arith, h.0)
filled_some l (Asked call event fuel count) ss ss' ls ls' w h =
    h.1 w.0 w.1 w.2.fit.1.1.1.1 (ap (drop 36) (sym w.3) ∙ call_answers call event fuel count w.0 w.1)
filled_some l (Said call num status time visits used extra) ss ss' ls ls' w h = omega (arith, h.0)
filled_some l (Malformed number) ss ss' ls ls' w h = omega (arith, h.0)
