-- A table that was found good at some depth, and the tree that stands in it.
use mathlib.Core.Path.{◌≡◌, refl, ◌∙◌}
use mathlib.Core.List.{List}
use Prim.Native.Nat.{ℕ, ◌≤◌}
use native.Mathlib.Omega.{arith}
use lib.Ieee.{Float}
use lib.ListN.{length}
use Rattle.rules.specs.Tree.{Tree, size, depth}
use Rattle.rules.specs.Table.{Table, good, bad, rows, table_within}
use Rattle.std.specs.Prelude.{Result, Ok, Err}
use Rattle.tables.specs.declared.table.BadTable.{BadTable}
use Rattle.tables.specs.At.{At}
use Rattle.tables.specs.Checks.{checked_of, Laid, Tabled}
use Rattle.lent.specs.Lengths.{rows_length}

pub record Good (deep : ℕ) (kinds ns : List ℕ) (limits : List Float) (ends : List ℕ) (n : ℕ) : Type 0 where
  pub tree : Tree
  pub is : table_within deep kinds ns limits ≡ good tree
  pub sized : size tree ≡ n
  pub nodes : length (rows kinds ns limits) ≡ n
  pub few : n ≤ 256
  pub levels : depth tree ≤ deep
  pub stands : At kinds ns limits ends 0 tree
  pub ends_long : length ends ≡ 256
  pub in_kinds : n ≤ length kinds
  pub in_ns : n ≤ length ns
  pub in_limits : n ≤ length limits

-- what the table check found
module _ {deep : ℕ} (kinds ns : List ℕ) (limits : List Float) (ends₀ ends : List ℕ) (r : Result ℕ BadTable) (k : Tabled deep kinds ns limits ends₀ ends r) where
  pub found_good : (n : ℕ) → r ≡ Ok n → Good deep kinds ns limits ends n
  found_good n e = go (table_within deep kinds ns limits) refl k.said k.tree
    where
      go : (x : Table) → table_within deep kinds ns limits ≡ x → r ≡ checked_of x → Laid deep kinds ns limits ends x → Good deep kinds ns limits ends n
      go (good t) i s l =
          let z : size t ≡ n = cc in
          let m = rows_length kinds ns limits in
          record {
            tree = t;
            is = i;
            sized = z;
            nodes = l.nodes ∙ z;
            few = omega (arith, l.few);
            levels = l.levels;
            stands = l.placed;
            ends_long = k.long;
            in_kinds = omega (arith, l.nodes);
            in_ns = omega (arith, l.nodes);
            in_limits = omega (arith, l.nodes);
          }
      go (bad p) i s l = let z : ◌≡◌ {A = ℕ} 0 1 = cc in absurd (omega arith)

  pub found_bad : (e : BadTable) → r ≡ Err e → table_within deep kinds ns limits ≡ bad e.0
  found_bad e is = go (table_within deep kinds ns limits) k.said
    where
      go : (x : Table) → r ≡ checked_of x → x ≡ bad e.0
      go (good t) s = cc
      go (bad q) s = cc
