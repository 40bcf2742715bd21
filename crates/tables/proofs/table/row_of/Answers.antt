-- The tests of a row, in their order.
use mathlib.Core.Path.{◌∙◌}
use Rattle.rules.specs.Table.{cleaned}
use Rattle.tables.proofs.Rows.{no_limit, by_count}
use Rattle.tables.proofs.table.row_of.Goals as goal

pub returns-then-not-limit_allowed : goal.returns-then-not-limit_allowed
returns-then-not-limit_allowed c =
    let a = c.args in
    no_limit a.number a.n (cleaned a.limit) c.in-Ok.ensures.1 c.in-Ok.ensures.0 c.limit_allowed.ensures c.if-not-limit_allowed.true

pub returns : goal.returns
returns c =
    let a = c.args in
    c.then_some.ensures ∙ by_count a.number a.n (cleaned a.limit) c.in-Ok.ensures.1 c.in-Ok.ensures.0 c.limit_allowed.ensures c.if-not-limit_allowed.false
    c.children-children.ensures c.count_allowed.ensures
