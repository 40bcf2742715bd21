-- Without loops a call with fuel for each node is never answered 7.
use Rattle.std.specs.Prelude.{Bool, true, ◌&&◌}
use Rattle.rules.specs.Tree.{Tree, node, Forest, [], ◌◂◌}
use Rattle.laws.specs.Fuel.{no_loop}

-- no node is a While or a WhileAll
unfoldable mutual
  pub loopless : Tree → Bool
  loopless (node k n l c b ts) = no_loop k && loopless_all ts

  pub loopless_all : Forest → Bool
  loopless_all [] = true
  loopless_all (t ◂ ts) = loopless t && loopless_all ts
