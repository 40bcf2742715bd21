-- Lines of the paper and one of each other kind, byte by byte.
use Rattle.std.specs.Prelude.{◌≡◌, refl, true, false, [], ◌∷◌}
use Rattle.frames.specs.Hex.{digits}
use Rattle.frames.specs.Line.{line}
use Rattle.frames.specs.Text.{bytes}
use Rattle.frames.specs.declared.Call.TheVariants.{Tick, Restart}
use Rattle.frames.specs.declared.Event.TheVariants.{Other, Update}
use Rattle.frames.specs.declared.Frame.TheVariants.{Node, Asked, Said, Malformed}

a_node : line (Node 0x08 0x0002 0) [] [] ≡ bytes "01 08 0002 0000000000000000\n"
unfolding digits bytes
a_node = refl

an_update : line (Asked Tick (Update 0x3ff0000000000000) 0x10 0) [] [] ≡ bytes "02 01 3ff0000000000000 00000010 0000\n"
unfolding digits bytes
an_update = refl

answers_given : line (Asked Tick (Other false) 5 2) (2 ∷ 1 ∷ []) (0 ∷ 0x401c000000000000 ∷ [])
    ≡ bytes "02 00 0000000000000000 00000005 0002 02 0000000000000000 01 401c000000000000\n"
unfolding digits bytes
answers_given = refl

minus_zero_lem : line (Asked Tick (Other true) 5 0) [] [] ≡ bytes "02 00 8000000000000000 00000005 0000\n"
unfolding digits bytes
minus_zero_lem = refl

a_restart : line (Asked Restart (Update 0x3ff0000000000000) 0x10 1) (3 ∷ []) (0 ∷ [])
    ≡ bytes "03 01 3ff0000000000000 00000010 0001 03 0000000000000000\n"
unfolding digits bytes
a_restart = refl

an_answer : line (Said Tick 0 2 0x3ff0000000000000 3 0 0) [] [] ≡ bytes "82 00 02 3ff0000000000000 00000003 0000 0000\n"
unfolding digits bytes
an_answer = refl

of_a_restart : line (Said Restart 1 0 0x3ff0000000000000 0 0 7) [] [] ≡ bytes "83 01 00 3ff0000000000000 00000000 0000 0007\n"
unfolding digits bytes
of_a_restart = refl

a_malformed_line : line (Malformed 258) [] [] ≡ bytes "8f 0102\n"
unfolding digits bytes
a_malformed_line = refl
