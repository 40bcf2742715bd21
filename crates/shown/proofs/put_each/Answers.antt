-- The children that are left lead to the same words, in both loops.
use Rattle.std.proofs.Common.{sym, ◌≡◌, ◌∙◌, arith}
use borrow.Author.Tests.{leb-true}
use lib.Seq.{set-get_or}
use Rattle.work.specs.Array.{word_at}
use Rattle.shown.specs.Show.{put_at}
use Rattle.shown.proofs.ShowLaws.{each_over, each_none, each_less, each_leaves}
use Rattle.shown.proofs.put_each.Goals as goal
use Rattle.shown.proofs.put_each.Goals.{then-loop-left-2-test+else-q-stop-2, else-loop-left-2-test, then-v-w, else-v-w}

pub loop-left-preserved : goal.loop-left-preserved
loop-left-preserved g c = (
  omega (arith, leb-true),
  c.loop-left.invariant.1,
  λ f e. each_leaves f _ _ _ 16 _ _ (c.put_sixteen.ensures f e) (omega arith) (omega (arith, leb-true)) (c.sixteen_leaves.ensures c.if-sixteen_leaves.true) ∙ c.loop-left.invariant.2 f e,
)

pub loop-left-2-preserved : goal.loop-left-2-preserved
loop-left-2-preserved g c =
    let behind = c.behind-q.ensures in (
      behind.1,
      c.loop-left-2.invariant.1,
      λ f e.
          let v = e _ _ c.put-v.ensures in
          let l = c.loop-left-2 in
          let put : c.if-v-w.work ≡ put_at f l.q (word_at l.work l.q) l.work = elim c.if-v-w.branch [
            | then-v-w w ↦ rw (← v) w.work-is
            | else-v-w w ↦ rw (w.work-is, ← v, w.if-v-w.false) (sym (set-get_or l.work l.q 0))
          ] in
          each_less _ _ _ _ _ _ c.if-q-stop-2.true put behind.0 _ c.loop-left-2-test.true ∙ c.loop-left-2.invariant.2 f e,
    )

pub returns : goal.returns
returns g c = λ f e. rw (← c.end_of-stop.ensures.0) (elim c.loop-left-2-test.branch [
  | then-loop-left-2-test+else-q-stop-2 w ↦ sym (each_over _ _ _ _ _ w.if-q-stop-2.false)
  | else-loop-left-2-test w ↦ sym (each_none _ _ _ _ _ (omega arith))
] ∙ c.loop-left-2.invariant.2 f e ∙ c.loop-left.invariant.2 f e)
