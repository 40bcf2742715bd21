-- What is written: each node of the result as it stands in the tree or in the branch.
use Rattle.std.specs.Prelude.{cond, ◌≡◌, List, [], ◌∷◌, ◌++◌, ℕ, zero, suc, ◌+◌, ◌-◌, ◌≤◌, ltb, Float, length, get_or, drop}
use Rattle.rules.specs.Tree.{zero_time}
use Rattle.rules.specs.Table.{cleaned}
use Rattle.rules.specs.declared.answer.Record.{Record}
use Rattle.rules.specs.Exchange.{Room, room, GivenExchange, given_exchange}
use Rattle.lent.specs.declared.table.Table.{Table}
use Rattle.lent.specs.declared.cells.Cells.{Cells}
use Rattle.lent.specs.Lent.{run_of}
use Rattle.branch.specs.declared.write.Cut.{Cut}
use Rattle.branch.specs.declared.write.Source.{Source}
use Rattle.branch.specs.declared.write.Source.TheVariants.{Old, New}

-- what a function gives of q, q + 1, .., of n numbers
abbrev pub values : {A : Type 0} → (ℕ → A) → ℕ → ℕ → List A
values f q zero = []
values f q (suc n) = f q ∷ values f (suc q) n

-- where a node of the result comes from
abbrev pub source_of : Cut → ℕ → Source
source_of cut i =
    cond (ltb i cut.at) (Old i) (cond (ltb (i - cut.at) cut.added) (New (i - cut.at)) (Old (cut.stop + (i - cut.at - cut.added))))

-- what the tree has there, or the branch
abbrev pub from : {A : Type 0} → (ℕ → A) → (ℕ → A) → Source → A
from old new (Old j) = old j
from old new (New j) = new j

abbrev pub at : {A : Type 0} → A → List A → ℕ → A
at d l j = get_or l j d

abbrev pub limit_at : List Float → ℕ → Float
limit_at l j = cleaned (get_or l j zero_time)

abbrev pub always : {A : Type 0} → A → ℕ → A
always x j = x

-- the slices have the place
abbrev pub InBoth : {A : Type 0} → List A → List A → Source → Type 0
InBoth old new (Old j) = suc j ≤ length old
InBoth old new (New j) = suc j ≤ length new

abbrev pub InOld : {A : Type 0} → List A → Source → Type 0
InOld old (Old j) = suc j ≤ length old
InOld old (New j) = Unit {0}

-- a column of the result over a slice of the room
abbrev pub filled : {A : Type 0} → Cut → (ℕ → A) → (ℕ → A) → List A → List A
filled cut old new to = values (λ i. from old new (source_of cut i)) 0 cut.nodes ++ drop cut.nodes to

unfoldable pub filled_room : Cut → GivenExchange → Room
filled_room cut g =
    let to = g.room' in
    room (filled cut (at 0 g.kinds) (at 0 g.new_kinds) to.kinds) (filled cut (at 0 g.ns) (at 0 g.new_ns) to.ns)
    (filled cut (limit_at g.limits) (limit_at g.new_limits) to.limits) (filled cut (at zero_time g.cells'.times) (always zero_time) to.times)
    (filled cut (at 0 g.cells'.places) (always 0) to.places) (filled cut (at 0 g.cells'.marks) (always 0) to.marks)
    (filled cut (at 0 g.cells'.sinces) (always g.record'.ticks) to.sinces)

-- what an exchange is given
abbrev pub exchange_of : Record → Table → Cells → ℕ → Table → Room → GivenExchange
exchange_of r t c at b to = given_exchange r t.kinds.now t.ns.now t.limits.now (run_of c) at b.kinds.now b.ns.now b.limits.now to

-- the slices hold a tree of n nodes, the branch and the result
pub record Fits (cut : Cut) (g : GivenExchange) : Type 0 where
  pub n : ℕ
  pub few : n ≤ 256
  pub small : cut.nodes ≤ 256
  pub begins : cut.at ≤ cut.stop
  pub ends : cut.stop ≤ n
  pub all : cut.nodes + cut.stop ≡ n + cut.at + cut.added
  pub in_kinds : n ≤ length g.kinds
  pub in_ns : n ≤ length g.ns
  pub in_limits : n ≤ length g.limits
  pub in_times : n ≤ length g.cells'.times
  pub in_places : n ≤ length g.cells'.places
  pub in_marks : n ≤ length g.cells'.marks
  pub in_sinces : n ≤ length g.cells'.sinces
  pub new_kinds : cut.added ≤ length g.new_kinds
  pub new_ns : cut.added ≤ length g.new_ns
  pub new_limits : cut.added ≤ length g.new_limits
  pub to_kinds : cut.nodes ≤ length g.room'.kinds
  pub to_ns : cut.nodes ≤ length g.room'.ns
  pub to_limits : cut.nodes ≤ length g.room'.limits
  pub to_times : cut.nodes ≤ length g.room'.times
  pub to_places : cut.nodes ≤ length g.room'.places
  pub to_marks : cut.nodes ≤ length g.room'.marks
  pub to_sinces : cut.nodes ≤ length g.room'.sinces
