-- Kinds that have no answers: their fields up to the line's end, or that they are not there.
use mathlib.Core.Path.{◌≡◌, refl, sym, ◌∙◌}
use mathlib.Core.List.{List, [], ◌∷◌, ◌++◌}
use Prim.Native.Nat.{ℕ}
use native.Mathlib.Omega.{arith}
use Rattle.std.specs.Prelude.{Some, None}
use Rattle.frames.specs.Line.{Field, Fit, fields, said_no, kind_of, body, answers_of}
use Rattle.frames.specs.Parts.{FieldAt, Ends, Body, ahead}
use Rattle.frames.specs.Back.{frame_of}
use Rattle.frames.specs.declared.Call.{Call}
use Rattle.frames.specs.declared.Call.TheVariants.{Tick, Restart}
use Rattle.frames.specs.declared.Frame.{Frame}
use Rattle.frames.proofs.Fields.{widths_of, fields_ahead, ahead_same, lacks, only}

-- the fields of kind k have these widths
abbrev pub Wide : ℕ → List ℕ → Type 0
Wide k ws = (fs : List Field) (xs ys : List ℕ) → widths_of (body (frame_of k fs) xs ys) ≡ ws

pub said_wide : (c : Call) → Wide (said_no c) (2 ∷ 2 ∷ 16 ∷ 8 ∷ 4 ∷ 4 ∷ [])
said_wide Tick = λ fs xs ys. refl
said_wide Restart = λ fs xs ys. refl

pub body_lacks : (k : ℕ) (s r r' : List ℕ) (gs : List Field) (w : ℕ) (ws : List ℕ) → Wide k (widths_of gs ++ (w ∷ ws)) → Fit gs
    → s ≡ ahead gs r → FieldAt r w None r' → Body k s None
body_lacks k s r r' gs w ws wide fit e h =
    only k s (λ fs xs ys g q.
    let b = body (frame_of k fs) xs ys in
    lacks s r r' gs w ws fit e h b (10 ∷ []) (wide fs xs ys) g.fit (sym q ∙ fields_ahead b))

pub body_end : (k : ℕ) (s r : List ℕ) (gs : List Field) → Wide k (widths_of gs) → Fit gs → s ≡ ahead gs r → Ends r None → Body k s None
body_end k s r gs wide fit e not =
    only k s (λ fs xs ys g q.
    let b = body (frame_of k fs) xs ys in
    not (ahead_same gs b r (10 ∷ []) (sym (wide fs xs ys)) fit g.fit (sym e ∙ sym q ∙ fields_ahead b)).1)

pub body_is : (k : ℕ) (f : Frame) (s : List ℕ) → kind_of f ≡ k → answers_of f ≡ 0 → Fit (body f [] []) → s ≡ fields (body f [] [])
    → Body k s (Some f)
body_is k f s ek en fit e =
    (ek, ([], [], record { few = omega arith; statuses = omega arith; leftovers = omega arith; fit = fit }, sym e))
