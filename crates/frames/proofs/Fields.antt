-- Fields in front of a run: what they are is told by the run, and that they are not there.
use mathlib.Core.Path.{◌≡◌, refl, sym, ap, ap₂, subst, ◌∙◌}
use mathlib.Core.List.{List, [], ◌∷◌, ◌++◌, map}
use Prim.Native.Nat.{ℕ, suc, ◌^◌, ◌<◌}
use lib.ListN.{drop}
use Rattle.std.specs.Prelude.{None}
use Rattle.frames.specs.Hex.{digits}
use Rattle.frames.specs.Digits.{cut, length_digits}
use Rattle.frames.specs.Line.{Field, Fit, Good, fields, body}
use Rattle.frames.specs.Undo.{field_one}
use Rattle.frames.specs.Parts.{FieldAt, Body, ahead}
use Rattle.frames.specs.Back.{frame_of, frame_of_lem}

abbrev pub widths_of : List Field → List ℕ
widths_of fs = map (λ f. f.0) fs

pub fields_ahead : (fs : List Field) → fields fs ≡ ahead fs (10 ∷ [])
fields_ahead [] = refl
fields_ahead (f ∷ fs) = ap (λ (t : List ℕ). (32 ∷ digits f.0 f.1) ++ t) (fields_ahead fs)

pub ahead_both : (fs gs : List Field) (t : List ℕ) → ahead (fs ++ gs) t ≡ ahead fs (ahead gs t)
ahead_both [] gs t = refl
ahead_both (f ∷ fs) gs t = ap (λ (t : List ℕ). (32 ∷ digits f.0 f.1) ++ t) (ahead_both fs gs t)

-- a run has one beginning of given widths
pub ahead_same : (fs gs : List Field) (t u : List ℕ) → widths_of fs ≡ widths_of gs → Fit fs → Fit gs → ahead fs t ≡ ahead gs u
    → (fs ≡ gs) × (t ≡ u)
ahead_same [] [] t u e p q h = (refl, h)
ahead_same [] (g ∷ gs) t u e p q h = absurd cc
ahead_same (f ∷ fs) [] t u e p q h = absurd cc
ahead_same (f ∷ fs) (g ∷ gs) t u e p q h =
    let w : f.0 ≡ g.0 = cc in
    let ws : widths_of fs ≡ widths_of gs = cc in
    let d =
    cut (32 ∷ digits f.0 f.1) (32 ∷ digits g.0 g.1) (ahead fs t) (ahead gs u)
    (ap suc (length_digits f.0 f.1 ∙ w ∙ sym (length_digits g.0 g.1))) h in
    let v = field_one f.0 g.0 f.1 g.1 p.0 q.0 (ap (drop 1) d.0) in
    let rest = ahead_same fs gs t u ws p.1 q.1 d.1 in
    (ap₂ (λ (h : Field) (l : List Field). h ∷ l) (ap₂ (λ (w v : ℕ). (w, v)) v.0 v.1) rest.0, rest.1)

-- no fields of these widths are in front of s
abbrev pub Lacks : List ℕ → List ℕ → Type 0
Lacks s ws = (fs : List Field) (t : List ℕ) → widths_of fs ≡ ws → Fit fs → s ≡ ahead fs t → ⊥

-- fields stand there, and behind them no field of the next width
pub lacks : (s r r' : List ℕ) (gs : List Field) (w : ℕ) (ws : List ℕ) → Fit gs → s ≡ ahead gs r → FieldAt r w None r'
    → Lacks s (widths_of gs ++ (w ∷ ws))
lacks s r r' [] w ws g e h [] t we p q = absurd cc
lacks s r r' [] w ws g e h (f ∷ fs) t we p q =
    let same : f.0 ≡ w = cc in
    h f.1 (ahead fs t) (subst (λ (k : ℕ). f.1 < 16 ^ k) same p.0) (sym e ∙ q ∙ ap (λ (k : ℕ). (32 ∷ digits k f.1) ++ ahead fs t) same)
lacks s r r' (x ∷ gs) w ws g e h [] t we p q = absurd cc
lacks s r r' (x ∷ gs) w ws g e h (f ∷ fs) t we p q =
    let same : f.0 ≡ x.0 = cc in
    let rest : widths_of fs ≡ widths_of gs ++ (w ∷ ws) = cc in
    let here = ahead_same (f ∷ []) (x ∷ []) (ahead fs t) (ahead gs r) (ap (λ (k : ℕ). k ∷ []) same) (p.0, tt) (g.0, tt) (sym q ∙ e) in
    lacks (ahead gs r) r r' gs w ws g.1 refl h fs t rest p.1 (sym here.1)

-- the frame of kind k, if it is no frame that such fields say
pub only : (k : ℕ) (rest : List ℕ)
    → ((fs : List Field) (xs ys : List ℕ) → Good (frame_of k fs) xs ys → fields (body (frame_of k fs) xs ys) ≡ rest → ⊥)
    → Body k rest None
only k rest h f xs ys e g q =
    let p : frame_of k (body f xs ys) ≡ f = frame_of_lem k f xs ys e in
    h (body f xs ys) xs ys (rw p g) (rw p q)
