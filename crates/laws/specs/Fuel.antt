-- Without While and WhileAll, fuel equal to the node count is never too little: for every event, all cells that are accepted and all answers.
use Rattle.std.specs.Prelude.{Bool, not, ◌||◌, T}
use Prim.Native.Nat.{ℕ, ◌≤◌}
use Rattle.rules.specs.declared.behavior.Kind.{Kind}
use Rattle.rules.specs.declared.behavior.Kind.TheVariants.{While, WhileAll}
use Rattle.rules.specs.Kinds.{is}
use Rattle.laws.specs.Shape.{Shape, shp, Shapes, shape, shapes, size_of, size_of_lem, depth_of, depths_of}
use Rattle.laws.specs.Shape
use Rattle.laws.specs.Live.{Right}

-- neither While nor WhileAll
abbrev pub no_loop : Kind → Bool
no_loop k = not (is k While || is k WhileAll)

abbrev mutual
  pub NoLoops : Shape → Type 0
  NoLoops (shp k n l ss) = T (no_loop k) × NoLoopsIn ss

  pub NoLoopsIn : Shapes → Type 0
  NoLoopsIn Shape.[] = Unit {0}
  NoLoopsIn (Shape.◌◂◌ s ss) = NoLoops s × NoLoopsIn ss

-- a tree that a table holds, at most h deep and with no loop
abbrev pub Plain : ℕ → Shape → Type 0
Plain h s = Right s × (depth_of s ≤ h) × NoLoops s
