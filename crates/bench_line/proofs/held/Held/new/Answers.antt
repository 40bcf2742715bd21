-- Before any line the table is empty, whatever its runs hold.
use Rattle.std.proofs.Common.{refl}
use Rattle.bench_line.specs.Bench.{start}
use Rattle.bench_line.proofs.held.Held.new.Goals as goal

pub returns : goal.returns
unfolding start
returns c = record { none = refl; state = λ kinds ns limits. refl }
