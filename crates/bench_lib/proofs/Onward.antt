-- Reading on.
use Rattle.std.proofs.Common.{◌≡◌, sym, ap, ◌∙◌, true, Option, List, ◌++◌, ℕ, ◌-◌, ◌≤◌, eqb, eqb-true}
use Rattle.std.proofs.Common.{arith, length, take, drop, length-take, length-drop, length-take-le, take-append-drop, take-take, take_at}
use Rattle.std.proofs.Math.Seq.{slice, slice_empty}
use Rattle.std.specs.List.{copy_within}
use Rattle.std.proofs.lemmas.Slice.{between_is}
use Rattle.bench_lib.specs.declared.input.Input.{Input}
use Rattle.bench_lib.specs.Served.{rest}
use Rattle.bench_lib.specs.Streams.{Gives, ReadsOn}

-- what is left is moved to the front
pub moved : (i : Input) (s : List ℕ) → i.start ≤ i.end → i.end ≤ length i.bytes → s ≡ copy_within i.bytes i.start i.end 0 → take (i.end - i.start) s ≡ rest i
moved i s h w e =
    let k = i.end - i.start in
    ap (take k) e
    ∙ take_at (take k (drop i.start i.bytes)) _ k (omega (arith, length-take k (drop i.start i.bytes), length-drop i.start i.bytes))
    ∙ between_is i.bytes i.start i.end

-- what comes next is put behind it, and it is what a reader gave
pub reads_on : (r r' : Option (List ℕ)) (i i' : Input) (s : List ℕ) (k : ℕ)
    → take k s ≡ rest i
    → Gives r r' s k i'.end i'.bytes
    → length i'.bytes ≡ 65536
    → i'.start ≡ 0
    → i'.last ≡ eqb i'.end k
    → ReadsOn r r' i i'
reads_on r r' i i' s k m g a z l =
    let e = i'.end in
    let b = i'.bytes in
    let f = g.fetches in
    let whole : rest i' ≡ take e b = ap (λ j. slice j e b) z in
    let last : i'.last ≡ true → e ≡ k = λ h. eqb-true e k (sym l ∙ h) in
    record {
      on = record {
        new = slice k e b;
        bytes = whole ∙ sym (take-append-drop k (take e b)) ∙ ap (λ x. x ++ slice k e b) (take-take k e b f.behind ∙ f.bytes ∙ m);
        none = λ h. ap (λ j. slice k j b) (last h) ∙ slice_empty k b;
      };
      took = g.took;
      ended = λ h n. g.ended (last h) (omega (arith, last h, ap length whole, length-take-le e b f.within));
    }
