-- The whole call, told in numbers, is the call that a host makes.
use Rattle.std.specs.Prelude.{◌≡◌, true, false, refl}
use Rattle.rules.specs.Call.{Given}
use Rattle.rules.specs.Levels.{Levels, tick_flat, restart_flat}
use Rattle.refusals.specs.Due.{call_of, whole_call}
use Rattle.host.specs.Host.{told_flat, host_tick_flat, host_restart_flat}

pub tick_told : (g : Given) (r : Levels) → host_tick_flat g r ≡ told_flat (whole_call true false g r)
unfolding host_tick_flat tick_flat call_of
tick_told g r = refl

pub restart_told : (g : Given) (r : Levels) → host_restart_flat g r ≡ told_flat (whole_call true true g r)
unfolding host_restart_flat restart_flat call_of
restart_told g r = refl
