-- The walk over the working array gives what the rules give.
use Rattle.std.specs.Prelude.{◌≡◌, refl, Bool, List, ℕ, suc, ◌-◌, ◌^◌, ◌≤◌, ◌<◌, Float, get_or, drop, replicate}
use Rattle.std.proofs.Common.{◌∙◌, arith}
use Rattle.std.specs.Float.{Format}
use Rattle.rules.specs.declared.status.Status.{Status}
use Rattle.rules.specs.Tree.{zero_time, Tree, [], size, depth}
use Rattle.rules.specs.Outcome.{event_of, world, Out, done, asks, short}
use Rattle.rules.specs.State.{tick}
use Rattle.rules.specs.Table.{most_deep}
use Rattle.rules.specs.Cells.{column, time_of}
use Rattle.rules.specs.Call.{answers}
use Rattle.work.specs.declared.result.Seen.TheVariants.{Stopped}
use Rattle.work.specs.Array.{asked_of, end_of}
use Rattle.work.specs.Flat.{seen_as, lent}
use Rattle.work.specs.Flat as flat
use Rattle.refine.specs.Words.{working, Fits, Holds}
use Rattle.refine.specs.Runs.{run, word_of, array}
use Rattle.refine.specs.Stand.{Given, At, at_fits, at_size}
use Rattle.refine.specs.Sim.{Sim, tree}
use Rattle.refine.specs.Ticks.{tick_link}
use Rattle.refine.specs.Start.{start, words_start, times_start, given, at_start}

-- a result: the tree's words and times, with the fuel and the answers that are left
pub record Ended (ss : List ℕ) (ls : List Float) (fuel : ℕ) (b : Bool) (rest : List Float) (n : ℕ)
    (s : Status) (r : Float) (t : Tree) (f : ℕ) (ans : List (Status × Float)) (o : flat.Out) : Type 0 where
  pub used : ℕ
  pub left : ans ≡ drop used (answers ss ls)
  pub few : used ≤ fuel
  pub burnt : f ≤ fuel
  pub sized : size t ≡ n
  pub fits : Fits t
  pub is : o ≡ flat.out (seen_as s) r (working t f used b) (column time_of t rest)

-- a question: the place of the action that asks stands in the array
pub record Asking (ns : List ℕ) (n m : ℕ) (x : Float) (o : flat.Out) : Type 0 where
  pub place : ℕ
  pub words : List ℕ
  pub times : List Float
  pub within : place < n
  pub asked : asked_of words ≡ suc place
  pub number : get_or ns place 0 ≡ m
  pub is : o ≡ flat.out Stopped x words times

-- too little fuel
pub record Short (o : flat.Out) : Type 0 where
  pub words : List ℕ
  pub times : List Float
  pub asked : asked_of words ≡ 0
  pub is : o ≡ flat.out Stopped zero_time words times

abbrev pub Gives : List ℕ → List ℕ → List Float → ℕ → Bool → List Float → ℕ → Out Tree → flat.Out → Type 0
Gives ns ss ls fuel b rest n (done s r t (world f ans)) o = Ended ss ls fuel b rest n s r t f ans o
Gives ns ss ls fuel b rest n (asks m x) o = Asking ns n m x o
Gives ns ss ls fuel b rest n short o = Short o

gives : (G : Given) (d : ℕ) (rest : List Float) (o : Out Tree) (o' : flat.Out)
    → G.ends 0 ≡ G.nodes
    → Sim G.fuel (tree (start G d rest) []) o o'
    → Gives G.ns G.statuses G.leftovers G.fuel G.update rest G.nodes o o'
gives G d rest (done s r t (world f ans)) o' ends e =
    let sized : size t ≡ G.nodes = omega (arith, at_size G 0 t d e.good) in
    record {
      used = e.used;
      left = e.left;
      few = omega (arith, e.spent.few);
      burnt = omega (arith, e.spent.burnt);
      sized = sized;
      fits = at_fits G 0 t d e.good;
      is = e.is ∙ λ i. flat.out (seen_as s) r (words_start G d rest t f e.used sized i) (times_start G d rest t i);
    }
gives G d rest (asks m x) o' ends e = record { place = e.place; words = e.stop.words; times = e.stop.times; within = e.within; asked = e.stop.asked; number = e.number; is = e.stop.is }
gives G d rest short o' ends e = record { words = e.words; times = e.times; asked = e.asked; is = e.is }

-- the tick of a tree that stands in the table
pub whole : (F : Format) (ns : List ℕ) (limits : List Float) (ss : List ℕ) (ls : List Float) (t : Tree) (b : Bool) (dt : Float) (fuel : ℕ) (rest : List Float)
    → Holds ns limits 0 t
    → Fits t
    → depth t ≤ most_deep
    → size t ≤ 256
    → fuel < 2 ^ 32
    → Gives ns ss ls fuel b rest (size t) (tick F most_deep t (event_of b dt) (world fuel (answers ss ls)))
    (flat.tick F (lent limits ss ls) most_deep 0 dt (working t fuel 0 b) (column time_of t rest))
whole F ns limits ss ls t b dt fuel rest holds fits deep room small =
    let ws : List ℕ = array (run word_of t (replicate (256 - size t) 0)) b fuel 0 in
    let G : Given = given ns limits ss ls b fuel ws (size t) room small in
    let v : At G 0 t most_deep = at_start ns limits ss ls b fuel ws (size t) room small fuel 0 t List.[] (replicate (256 - size t) 0) 0 most_deep refl refl holds fits deep (omega arith) in
    let ends : end_of ws 0 ≡ size t = omega (arith, at_size G 0 t most_deep v) in
    rw (← words_start G most_deep rest t fuel 0 refl, ← times_start G most_deep rest t)
    (gives G most_deep rest (tick F most_deep t (event_of b dt) (world fuel (answers ss ls))) _ ends (tick_link F G most_deep (start G most_deep rest) t [] dt fuel 0 (v, ends) (omega arith)))
