-- What sixteen visits leave, one after the other.
use Rattle.std.proofs.Common.{sym, ◌∙◌, ◌≡◌, ◌+◌, ◌-◌, arith}
use borrow.Rule.Slice.PartMut.{mid_len}
use Rattle.rules.specs.Tree.{zero_time}
use Rattle.work.specs.Word.{with_seen}
use Rattle.leaves.proofs.WaitLaws.{waits_part}
use Rattle.leaves.proofs.waits.sixteen_keep_waiting.Goals as goal

pub returns-clause-waiting : goal.returns-clause-waiting
unfolding with_seen
returns-clause-waiting c e =
    let a = c.args in
    let sixteen : a.p + 16 - a.p ≡ 16 = omega arith in
    let long = mid_len a.p (a.p + 16) a.times.now (omega arith) in
    waits_part _ a.dt 16 _ a.p c.with_seen.result a.work.now _ a.times.now _ sixteen c.requires
    (record {
      long = omega arith;
      words = λ i g h.
          let same : a.p + (i - a.p) ≡ i = omega arith in
          let none = rw same at (c.words_of.ensures (i - a.p) (omega arith)).whole in
          omega (arith, none, c.if-words_of-gt0.false);
      fuel = c.if-fuel-lt16.false;
      on = sym c.updates.ensures ∙ c.if-not-updates.false;
    })
    (rw (c.with_seen.ensures, c.from.ensures)) (c.fill.ensures.after (λ y e. e)) (omega arith) (omega arith) (omega arith) (λ j h. c.loop-time.invariant.0 j zero_time (omega arith))
    (c.none_ends.ensures c.if-not-none_ends.false)
