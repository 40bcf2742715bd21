-- What a walk gave, as an answer and a record.
use Rattle.std.specs.Prelude.{ℕ, ◌-◌, min, cond, List, ◌==◌, slice_index}
use Rattle.rules.specs.declared.status.Status.{Status}
use Rattle.rules.specs.declared.status.Status.TheVariants as status
use Rattle.rules.specs.declared.answer.Answer.{Answer}
use Rattle.rules.specs.declared.answer.Answer.TheVariants.{Ticked, Asked, OutOfFuel}
use Rattle.work.specs.declared.result.Visit.{Visit}
use Rattle.work.specs.declared.result.Seen.{Seen}
use Rattle.work.specs.declared.result.Seen.TheVariants.{Stopped, Running, Success, Failure}
use Rattle.work.specs.Array.{fuel_of, used_of, asked_of}

-- the status of a walk that has not stopped
abbrev pub status_in : Seen → Status
status_in Stopped = status.Running
status_in Running = status.Running
status_in Success = status.Success
status_in Failure = status.Failure

-- an action's place stands in the array, with 1 added
abbrev pub told_stopped : List ℕ → List ℕ → Visit → Answer
told_stopped ws ns r = cond (asked_of ws == 0) OutOfFuel (Asked (slice_index ns (asked_of ws - 1)) r.left)

-- of so much fuel and so many answers
abbrev pub told_done : List ℕ → Visit → ℕ → ℕ → Answer
told_done ws r fuel lent = Ticked (status_in r.seen) r.left (fuel - fuel_of ws) (min (used_of ws) lent)
