-- A malformed line is told by its place among the lines, from 1.
use Rattle.std.specs.Prelude.{◌≡◌, refl, List, [], ◌∷◌, ℕ, ◌+◌, ◌%◌, ◌<◌, length}
use Rattle.std.proofs.Common.{ap, ◌∙◌, arith}
use Rattle.frames.specs.declared.Frame.TheVariants.{Malformed}
use Rattle.frames.specs.declared.order.Input.{Input}
use Rattle.frames.specs.declared.order.Input.TheVariants as inputs
use Rattle.frames.specs.Find.{found, statuses_in, leftovers_in}
use Rattle.frames.specs.Order.{admitted}
use Rattle.bench_line.specs.Bench.{Line, State, start, printed, line_number, does, step}

-- the state after lines
unfoldable pub past : State → List Line → State
past s [] = s
past s (l ∷ ls) = past (step s l).0 ls

one_more : (s : State) (ss ls : List ℕ) (i : Input) → (does s ss ls i).0.lines ≡ line_number s.lines
one_more s ss ls (inputs.Node kind n limit) = refl
one_more s ss ls (inputs.Asked c e fuel count) = refl
one_more s ss ls inputs.Malformed = refl

step_counts : (s : State) (l : Line) → (step s l).0.lines ≡ line_number s.lines
unfolding step
step_counts s l = one_more s (statuses_in l) (leftovers_in l) (admitted (length s.table.kinds) s.begun (found l))

counted : (s : State) (ls : List Line) → s.lines < 65536 → (past s ls).lines ≡ (s.lines + length ls) % 65536
unfolding past
counted s [] h = omega arith
counted s (l ∷ ls) h =
    let e = step_counts s l in
    let q = counted (step s l).0 ls (omega arith) in
    omega (arith, e, q)

none_yet : start.lines ≡ 0
unfolding start
none_yet = refl

pub numbered : (ls : List Line) (l : Line)
    → admitted (length (past start ls).table.kinds) (past start ls).begun (found l) ≡ inputs.Malformed
    → (step (past start ls) l).1 ≡ printed (Malformed ((length ls + 1) % 65536))
unfolding step
numbered ls l e =
    let s = past start ls in
    let n : line_number s.lines ≡ (length ls + 1) % 65536 = omega (arith, none_yet, counted start ls (omega (arith, none_yet))) in
    ap (λ i. (does s (statuses_in l) (leftovers_in l) i).1) e ∙ ap (λ k. printed (Malformed k)) n
