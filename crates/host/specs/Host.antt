-- The calls as a host makes them: an answer in document 01's numbers, an event as a flag and a time.
use Rattle.std.specs.Prelude.{Bool, cond, List, ℕ, leb}
use Rattle.std.specs.Float.{binary64}
use Rattle.rules.specs.declared.answer.Record.{Record}
use Rattle.rules.specs.declared.answer.Said.{Said}
use Rattle.rules.specs.declared.exchanged.ExchangeSaid.{ExchangeSaid}
use Rattle.rules.specs.declared.answer.BoundAnswer.{BoundAnswer}
use Rattle.rules.specs.declared.answer.BoundAnswer.TheVariants.{Within, Never, Above, BadTable, NoBound}
use Rattle.rules.specs.Kinds.{code, kind_of, memory}
use Rattle.rules.specs.Call.{Run, Given, Left, tick_call, restart_call, said_of}
use Rattle.rules.specs.Levels.{Levels, FlatLeft, tick_flat, restart_flat}
use Rattle.rules.specs.Exchange.{Room, GivenExchange, LeftExchange, exchange_call, exchange_said_of}
use Rattle.host.specs.declared.Bound.{Bound}

-- what a call leaves
pub record HostLeft : Type 0 where
  pub said : Said
  pub record' : Record
  pub cells' : Run
  pub spare : Run
  pub board : List ℕ

abbrev pub host_left : Said → Record → Run → Run → List ℕ → HostLeft
host_left a r c s b = record { said = a; record' = r; cells' = c; spare = s; board = b }

abbrev pub told : Left → HostLeft
told l = host_left (said_of l.answer) l.record' l.cells' l.spare l.board

unfoldable pub host_tick : Given → HostLeft
host_tick g = told (tick_call binary64 g)

unfoldable pub host_restart : Given → HostLeft
host_restart g = told (restart_call binary64 g)

-- what a call without recursion leaves
pub record HostFlatLeft : Type 0 where
  pub host : HostLeft
  pub levels' : Levels

abbrev pub host_flat_left : Said → Record → Run → Run → List ℕ → Levels → HostFlatLeft
host_flat_left a r c s b l = record { host = host_left a r c s b; levels' = l }

abbrev pub told_flat : FlatLeft → HostFlatLeft
told_flat l = record { host = told l.left'; levels' = l.levels' }

unfoldable pub host_tick_flat : Given → Levels → HostFlatLeft
host_tick_flat g r = told_flat (tick_flat binary64 g r)

unfoldable pub host_restart_flat : Given → Levels → HostFlatLeft
host_restart_flat g r = told_flat (restart_flat binary64 g r)

-- what an exchange leaves
pub record HostExchanged : Type 0 where
  pub said : ExchangeSaid
  pub room' : Room

abbrev pub host_exchanged : ExchangeSaid → Room → HostExchanged
host_exchanged a to = record { said = a; room' = to }

abbrev pub told_exchanged : LeftExchange → HostExchanged
told_exchanged l = host_exchanged (exchange_said_of l.answer) l.room'

unfoldable pub host_exchange : GivenExchange → HostExchanged
host_exchange g = told_exchanged (exchange_call g)

-- the number of a kind with its memory on or off; a number that is no kind stays
abbrev pub memory_of : ℕ → Bool → ℕ
memory_of k on = cond (leb k 16) (code (memory on (kind_of k))) k

-- the finish bound in numbers: kind 0 a number of ticks, 1 none, 2 above the largest that is told
abbrev pub bound_of : BoundAnswer → Bound
bound_of (Within n) = record { no = 0; kind = 0; place = 0; ticks = n }
bound_of Never = record { no = 0; kind = 1; place = 0; ticks = 0 }
bound_of Above = record { no = 0; kind = 2; place = 0; ticks = 0 }
bound_of (BadTable p) = record { no = 3; kind = 0; place = p; ticks = 0 }
bound_of NoBound = record { no = 8; kind = 0; place = 0; ticks = 0 }
