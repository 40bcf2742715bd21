-- Document 01's input and its whole output; and where it stops.
use Rattle.std.specs.Prelude.{◌≡◌, refl, [], ◌∷◌, ◌++◌}
use Rattle.std.specs.Float.Ieee.{of_bits, to_bits}
use Rattle.frames.specs.Hex.{digits}
use Rattle.frames.specs.Text.{bytes, page}
use Rattle.rules.specs.Kinds.{kind_of}
use Rattle.rules.specs.Tree.{size}
use Rattle.rules.specs.Cells.{column}
use Rattle.rules.specs.Call.{tick_call, restart_call}
use Rattle.bench_line.specs.Bench.{bench}

worked : bench (page (
    "01 08 0002 0000000000000000"
    ∷ "01 00 0000 4000000000000000"
    ∷ "01 00 0000 3ff0000000000000"
    ∷ "02 01 3ff0000000000000 00000010 0000"
    ∷ "02 01 4008000000000000 00000010 0000"
    ∷ "02 01 3ff0000000000000 00000010 0000"
    ∷ []))
    ≡ page (
    "82 00 01 0000000000000000 00000002 0000 0000"
    ∷ "82 00 02 3ff0000000000000 00000003 0000 0000"
    ∷ "82 02 00 0000000000000000 00000000 0000 0000"
    ∷ [])
unfolding bench page digits tick_call kind_of size column of_bits to_bits
worked = refl

-- a finished tree is restarted: without fuel it stays finished, and with it one call resets and ticks;
-- a node line behind it is malformed, and nothing behind that is read
then_stops : bench (page (
    "01 00 0000 3ff0000000000000"
    ∷ "02 01 3ff0000000000000 00000010 0000"
    ∷ "03 00 0000000000000000 00000000 0000"
    ∷ "02 00 0000000000000000 00000010 0000"
    ∷ "03 00 0000000000000000 00000010 0000"
    ∷ "02 01 3ff0000000000000 00000010 0000"
    ∷ "01 00 0000 3ff0000000000000"
    ∷ "03 00 0000000000000000 00000010 0000"
    ∷ []))
    ≡ page (
    "82 00 02 0000000000000000 00000001 0000 0000"
    ∷ "83 07 00 0000000000000000 00000000 0000 0000"
    ∷ "82 02 00 0000000000000000 00000000 0000 0000"
    ∷ "83 00 01 0000000000000000 00000001 0000 0000"
    ∷ "82 00 02 0000000000000000 00000001 0000 0000"
    ∷ "8f 0007"
    ∷ [])
unfolding bench page digits tick_call restart_call kind_of size column of_bits to_bits
then_stops = refl

-- a dt on event 00; another event; a restart without fields; a line without LF
time_of_other : bench (page ("02 00 3ff0000000000000 00000010 0000" ∷ "03" ∷ [])) ≡ page ("8f 0001" ∷ [])
unfolding bench page digits
time_of_other = refl

another_event : bench (page ("03 02 0000000000000000 00000010 0000" ∷ "03" ∷ [])) ≡ page ("8f 0001" ∷ [])
unfolding bench page digits
another_event = refl

bare_restart : bench (page ("01 00 0000 3ff0000000000000" ∷ "03" ∷ [])) ≡ page ("8f 0002" ∷ [])
unfolding bench page digits
bare_restart = refl

no_end : bench (page ("03 00 0000000000000000 00000010 0000" ∷ []) ++ bytes "03 00 0000000000000000 00000010 0000")
    ≡ page ("83 03 00 0000000000000000 00000000 0000 0000" ∷ "8f 0002" ∷ [])
unfolding bench page bytes digits restart_call to_bits
no_end = refl
