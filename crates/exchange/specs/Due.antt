-- What the checks leave of an exchange: a refusal, or what is to be written.
use Rattle.std.specs.Prelude.{◌≡◌, List, ℕ, ◌≤◌, ◌<◌, length, Result, Ok, Err}
use Rattle.rules.specs.Table.{most_deep}
use Rattle.rules.specs.Exchange.{GivenExchange, left_exchange, not_exchanged, replacing, exchange_call}
use Rattle.rules.specs.declared.exchanged.Exchanged.{Exchanged}
use Rattle.rules.specs.declared.exchanged.Exchanged.TheVariants.{Done}
use Rattle.laws.specs.Memory.{held}
use Rattle.tables.proofs.Good.{Good}
use Rattle.branch.specs.declared.write.Cut.{Cut}
use Rattle.branch.specs.Write.{Fits, filled_room}

-- 17 is passed: the tree of n nodes with its cells and the branch of m are all that is left of the call
pub record Due (g : GivenExchange) (ends new_ends : List ℕ) (n m : ℕ) : Type 0 where
  pub old : Good most_deep g.kinds g.ns g.limits ends n
  pub new : Good most_deep g.new_kinds g.new_ns g.new_limits new_ends m
  pub in_times : n ≤ length g.cells'.times
  pub in_places : n ≤ length g.cells'.places
  pub in_marks : n ≤ length g.cells'.marks
  pub in_sinces : n ≤ length g.cells'.sinces
  pub inside : g.place < n
  pub is : exchange_call g ≡ replacing g (held old.tree g.cells') new.tree

-- a refusal, or how many nodes the tree and the branch have
abbrev pub Passed : GivenExchange → List ℕ → List ℕ → Result (ℕ × ℕ) Exchanged → Type 0
Passed g ends new_ends (Err a) = exchange_call g ≡ not_exchanged g a
Passed g ends new_ends (Ok (n, m)) = Due g ends new_ends n m

abbrev pub Planned : GivenExchange → Result Cut Exchanged → Type 0
Planned g (Err a) = exchange_call g ≡ not_exchanged g a
Planned g (Ok cut) = Fits cut g × (cut.at ≡ g.place) × (exchange_call g ≡ left_exchange (Done cut.nodes) (filled_room cut g))
