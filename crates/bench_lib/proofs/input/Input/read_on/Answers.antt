-- What was there stands in front.
use Rattle.std.proofs.Common.{arith, refl}
use Rattle.bench_lib.proofs.Onward.{moved, reads_on}
use Rattle.bench_lib.proofs.input.Input.read_on.Goals as goal

pub returns-clause-ok : goal.returns-clause-ok
returns-clause-ok g c =
    let i = c.args.self.now in
    reads_on _ _ i _ c.copy_within.new.self _ (moved i _ (omega arith) (omega arith) c.copy_within.ensures.after) c.in_ok-self.ensures.ok (omega arith) refl refl
