-- The stack of open nodes as two lists: where each node ends, and whether its children may be marked.
use mathlib.Core.Path.{◌≡◌}
use mathlib.Core.Bool.{false}
use mathlib.Core.List.{List}
use Prim.Native.Nat.{ℕ, ◌<◌}
use lib.ListN.{length, get_or, set}
use Rattle.std.proofs.lemmas.List.{get_or-map, map-set}
use Rattle.cells.specs.declared.check.Open.{Open}
use Rattle.cells.specs.Check.{stops_of, may_of}

abbrev none : Open
none = record { stop = 0; may_end = false }

pub stop_at : (os : List Open) (i : ℕ) → i < length os → get_or (stops_of os) i 0 ≡ (get_or os i none).stop
stop_at os i h = get_or-map (λ (o : Open). o.stop) os i none 0 h

pub may_at : (os : List Open) (i : ℕ) → i < length os → get_or (may_of os) i false ≡ (get_or os i none).may_end
may_at os i h = get_or-map (λ (o : Open). o.may_end) os i none false h

pub stops_set : (os : List Open) (i : ℕ) (o : Open) → stops_of (set os i o) ≡ set (stops_of os) i o.stop
stops_set os i o = map-set (λ (o : Open). o.stop) os i o

pub may_set : (os : List Open) (i : ℕ) (o : Open) → may_of (set os i o) ≡ set (may_of os) i o.may_end
may_set os i o = map-set (λ (o : Open). o.may_end) os i o
