-- What the board shows after an accepted tick of the nodes that were not visited in it: document 02, request 2.
use Rattle.std.specs.Prelude.{ℕ, suc, cond, ◌==◌, nat_lt}
use Rattle.rules.specs.declared.behavior.Kind.{Kind}
use Rattle.rules.specs.declared.behavior.Kind.TheVariants.{Wait, WaitForever, Action, Invert, AlwaysSucceed, Timeout, Select, If, Sequence}
use Rattle.rules.specs.declared.behavior.Kind.TheVariants.{MemorylessSequence, MemorylessSelector, While, WhileAll, WhenAll, WhenAny, After, Race}
use Rattle.rules.specs.Tree.{Tree, node, Forest, [], ◌◂◌, marked}

-- shows KIND PLACE I CHILD: what child I of a node of that kind, at that place, shows if it was not visited
abbrev pub shows : Kind → ℕ → ℕ → Tree → ℕ
shows WhenAll p i t = cond (marked t) 2 0
shows WhenAny p i t = cond (marked t) 3 0
shows Sequence p i t = cond (nat_lt i p) 2 0
shows After p i t = cond (nat_lt i p) 2 0
shows Select p i t = cond (nat_lt i p) 3 0
shows Wait p i t = 0
shows WaitForever p i t = 0
shows Action p i t = 0
shows Invert p i t = 0
shows AlwaysSucceed p i t = 0
shows Timeout p i t = 0
shows If p i t = 0
shows MemorylessSequence p i t = 0
shows MemorylessSelector p i t = 0
shows While p i t = 0
shows WhileAll p i t = 0
shows Race p i t = 0

-- the tree with its board "by the cells after the tick"; its root shows s if it was not visited
unfoldable mutual
  pub shown_as : ℕ → Tree → Tree
  shown_as s (node k n l c b ts) = node k n l c (cond (b == 0) s b) (shown_from k c.place 0 ts)

  -- the children from child i on of a node of kind k at place p
  pub shown_from : Kind → ℕ → ℕ → Forest → Forest
  shown_from k p i [] = []
  shown_from k p i (t ◂ ts) = shown_as (shows k p i t) t ◂ shown_from k p (suc i) ts

-- the root is nobody's child
abbrev pub shown : Tree → Tree
shown t = shown_as 0 t
