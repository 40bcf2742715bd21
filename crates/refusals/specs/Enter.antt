-- What a walk is entered with.
use Rattle.std.specs.Prelude.{Bool, true, false}
use Rattle.rules.specs.declared.event.Event.{Event}
use Rattle.rules.specs.declared.event.Event.TheVariants.{Update, Other}

abbrev pub updates : Event → Bool
updates (Update x) = true
updates Other = false
