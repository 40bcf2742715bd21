-- The stack of open nodes as four lists, one for each field.
use mathlib.Core.Path.{◌≡◌, sym, ◌∙◌}
use mathlib.Core.Bool.{Bool, false}
use mathlib.Core.List.{List, map}
use Prim.Native.Nat.{ℕ, ◌-◌, ◌<◌}
use native.Mathlib.Omega.{arith}
use lib.ListN.{length, get_or, set}
use Rattle.std.proofs.Common.{Option}
use Rattle.std.proofs.lemmas.List.{length-map, get_or-map, map-set}
use Rattle.lent.specs.declared.table.Table.{Table}
use Rattle.lent.specs.declared.cells.Cells.{Cells}
use Rattle.load.specs.declared.pass.Open.{Open}
use Rattle.load.specs.Scans.{with_below}
use Rattle.load.proofs.Look.{Nodes, Ended, closes_one}

abbrev pub begins_of : List Open → List ℕ
begins_of os = map (λ (o : Open). o.begin) os

abbrev pub owed_of : List Open → List ℕ
owed_of os = map (λ (o : Open). o.owed) os

abbrev pub under_of : List Open → List Bool
under_of os = map (λ (o : Open). o.ended) os

abbrev pub may_of : List Open → List Bool
may_of os = map (λ (o : Open). o.may_end) os

module _ (t : Table) (c : Cells) where
  abbrev pub NodesIn : List ℕ → List Open → List ℕ → ℕ → ℕ → Bool → Bool → Option ℕ → ℕ → Type 0
  NodesIn ws₀ os ws open' left ended mayEnd s at = Nodes t.kinds.now t.ns.now t.limits.now c.times.now c.places.now c.marks.now ws₀ (begins_of os) (owed_of os)
      (under_of os) (may_of os) ws open' left ended mayEnd s at

  abbrev pub EndedIn : List ℕ → List Open → List ℕ → ℕ → ℕ → Bool → Bool → Option ℕ → ℕ → Type 0
  EndedIn ws₀ os ws open' left ended mayEnd s at = Ended t.kinds.now t.ns.now t.limits.now c.times.now c.places.now c.marks.now ws₀ (begins_of os) (owed_of os)
      (under_of os) (may_of os) ws open' left ended mayEnd s at

-- ---- the node that is pushed
module _ (os : List Open) (i : ℕ) (o : Open) where
  pub begins_set : begins_of (set os i o) ≡ set (begins_of os) i o.begin
  begins_set = map-set (λ (x : Open). x.begin) os i o

  pub owed_set : owed_of (set os i o) ≡ set (owed_of os) i o.owed
  owed_set = map-set (λ (x : Open). x.owed) os i o

  pub under_set : under_of (set os i o) ≡ set (under_of os) i o.ended
  under_set = map-set (λ (x : Open). x.ended) os i o

  pub may_set : may_of (set os i o) ≡ set (may_of os) i o.may_end
  may_set = map-set (λ (x : Open). x.may_end) os i o

-- ---- the node that is popped
abbrev pub none : Open
none = record { begin = 0; owed = 0; ended = false; may_end = false }

module _ (os : List Open) (i : ℕ) (h : i < length os) where
  pub begin_at : get_or (begins_of os) i 0 ≡ (get_or os i none).begin
  begin_at = get_or-map (λ (x : Open). x.begin) os i none 0 h

  pub owed_at : get_or (owed_of os) i 0 ≡ (get_or os i none).owed
  owed_at = get_or-map (λ (x : Open). x.owed) os i none 0 h

  pub under_at : get_or (under_of os) i false ≡ (get_or os i none).ended
  under_at = get_or-map (λ (x : Open). x.ended) os i none false h

  pub may_at : get_or (may_of os) i false ≡ (get_or os i none).may_end
  may_at = get_or-map (λ (x : Open). x.may_end) os i none false h

module _ (t : Table) (c : Cells) {ws₀ : List ℕ} (os : List Open) {ws : List ℕ} {open' left at : ℕ} {ended mayEnd : Bool} {s : Option ℕ}
    (v : EndedIn t c ws₀ os ws open' left ended mayEnd s at) (pos : 0 < open') where
  inside : open' - 1 < length os
  inside = let long = length-map os (λ (x : Open). x.begin) in omega (arith, v.fits.begins_long, v.fits.room)

  -- where the innermost node begins
  module _ {done : ℕ} (is : done ≡ (get_or os (open' - 1) none).begin) where
    pub done_is : done ≡ get_or (begins_of os) (open' - 1) 0
    done_is = is ∙ sym (begin_at os (open' - 1) inside)

    pub closes_in : (w : ℕ) → w ≡ with_below (get_or ws done 0) (at - done - 1) → left ≡ 0
        → let top = get_or os (open' - 1) none in
        EndedIn t c ws₀ os (set ws done w) (open' - 1) top.owed top.ended top.may_end s at
    closes_in w e z =
        rw (done_is, ← owed_at os (open' - 1) inside, ← under_at os (open' - 1) inside, ← may_at os (open' - 1) inside)
        (closes_one v pos w (rw done_is at e) z)
