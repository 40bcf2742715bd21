-- A limit is a number where the kind has one, and zero otherwise.
use mathlib.Core.Path.{sym, ◌∙◌}
use Rattle.tables.proofs.Bits.{no_limit}
use Rattle.tables.proofs.table.limit_allowed.Goals as goal

pub returns-else-timed : goal.returns-else-timed
returns-else-timed c = rw (sym c.timed.ensures ∙ c.if-timed.false) (no_limit c.args.limit)
