-- What the loop around one line promises: every byte is served once, in order.
use Rattle.std.specs.Prelude.{◌≡◌, Bool, true, false, Option, Some, None, List, [], ◌∷◌, ◌++◌, ℕ, ◌-◌, ◌≤◌, ◌<◌, length, get_or, take, drop}
use Rattle.std.proofs.Math.Seq.{slice}
use Rattle.bench_lib.specs.declared.input.Input.{Input}
use Rattle.bench_lib.specs.declared.output.Output.{Output}
use Rattle.bench_line.specs.Bench.{State, cut, from}

-- bytes among which no line ends
abbrev pub Open : List ℕ → Type 0
Open bytes = (i : ℕ) → i < length bytes → get_or bytes i 0 ≡ 10 → ⊥

-- no whole line is there: no line ends, and no bytes are left where no more will come
pub record Waits (bytes : List ℕ) (last : Bool) : Type 0 where
  pub unended : Open bytes
  pub none : last ≡ true → bytes ≡ []

-- what may come behind: nothing where the bytes are the last
abbrev pub Behind : Bool → List ℕ → Type 0
Behind last more = last ≡ true → more ≡ []

-- the first line has n bytes, or no whole line is there
abbrev pub Ends : List ℕ → Bool → Option ℕ → Type 0
Ends bytes last (Some n) =
    (0 < n) × (n ≤ length bytes)
    × ((more : List ℕ) → Behind last more → cut (bytes ++ more) ≡ take n bytes ∷ cut (drop n bytes ++ more))
Ends bytes last None = Waits bytes last

-- from the state s with the bytes u to come, out was printed; this led to the state s' with the bytes u' to come
pub record Serves (last : Bool) (s : State) (u out : List ℕ) (s' : State) (u' : List ℕ) : Type 0 where
  pub so : (more : List ℕ) → Behind last more → from s (u ++ more) ≡ out ++ from s' (u' ++ more)

-- the bytes that are still to come
abbrev pub rest : Input → List ℕ
rest i = slice i.start i.end i.bytes

-- nothing was read yet
pub record Starts (i : Input) : Type 0 where
  pub none : rest i ≡ []
  pub more : i.last ≡ false

-- what was printed
abbrev pub printed : Output → List ℕ
printed o = take o.written o.bytes

-- whole lines were served one after another: all of them, unless a line was malformed or the output has no room for one more line
pub record Lined (s : State) (i : Input) (s' : State) (i' : Input) (o : Output) : Type 0 where
  pub serves : Serves i.last s (rest i) (printed o) s' (rest i')
  pub waits : s'.on ≡ true → o.written ≤ 4096 - 45 → Waits (rest i') i.last
  pub last : i'.last ≡ i.last

-- the first k bytes stay
pub record Fetches (input : List ℕ) (k r : ℕ) (input' : List ℕ) : Type 0 where
  pub behind : k ≤ r
  pub within : r ≤ length input'
  pub bytes : take k input' ≡ take k input

-- more bytes came behind those that were there, or these were the last
pub record ReadOn (i i' : Input) : Type 0 where
  pub new : List ℕ
  pub bytes : rest i' ≡ rest i ++ new
  pub none : i'.last ≡ true → new ≡ []
