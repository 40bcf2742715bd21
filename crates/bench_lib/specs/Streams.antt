-- What a reader gave and what a writer took, where these say which bytes they have: `remaining` of a reader is r before and r' after,
-- `contents` of a writer w before and w' after. Of one that does not say, nothing is claimed.
use Rattle.std.specs.Prelude.{◌≡◌, true, Option, List, ◌++◌, ℕ, ◌<◌, length}
use Rattle.std.proofs.Math.Seq.{slice}
use Rattle.std.specs.Io.KnownBytes.{Appends, Consumes, IsAtEnd}
use Rattle.bench_lib.specs.declared.input.Input.{Input}
use Rattle.bench_line.specs.Bench.{bench}
use Rattle.bench_lib.specs.Served.{Fetches, ReadOn, rest}

-- what came behind the first k bytes is what the reader gave: nothing only where it has nothing left, or where there was no room
pub record Gives (r r' : Option (List ℕ)) (input : List ℕ) (k e : ℕ) (input' : List ℕ) : Type 0 where
  pub fetches : Fetches input k e input'
  pub took : Consumes r r' (slice k e input')
  pub ended : e ≡ k → k < length input' → IsAtEnd r'

-- the bytes that came are what the reader gave; those that were there are the last only where it has nothing left, or where they took all the room
pub record ReadsOn (r r' : Option (List ℕ)) (i i' : Input) : Type 0 where
  pub on : ReadOn i i'
  pub took : Consumes r r' on.new
  pub ended : i'.last ≡ true → length (rest i') < 65536 → IsAtEnd r'

-- a read or a write failed: out was written, the beginning of what the definition says of what was read
pub record Breaks (r r' w w' : Option (List ℕ)) : Type 0 where
  pub input : List ℕ
  pub out : List ℕ
  pub left : List ℕ
  pub took : Consumes r r' input
  pub wrote : Appends w w' out
  pub begins : bench input ≡ out ++ left
