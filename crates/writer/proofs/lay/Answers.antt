-- `lay` meets its contract: what stands in front, the answers and LF are put one after another.
use Rattle.std.proofs.Common.{arith}
use Rattle.frames.specs.Answers.{fit_both}
use Rattle.frames.specs.Lengths.{answers_span}
use Rattle.frames.specs.Line.{front, kind_of}
use Rattle.writer.proofs.Puts.{puts_on, kind_room, line_put, line_room, answers_fit}
use Rattle.writer.proofs.lay.Goals as goal

pub bounds-room-end : goal.bounds-room-end
bounds-room-end c =
    let a = c.args in
    omega (
      arith,
      c.answers-end.ensures.place,
      answers_span c.count.result 0 a.statuses.now a.leftovers.now,
      c.front-from.ensures.put.place,
      line_room a.frame,
      c.requires.frame_in_bounds,
    )

pub returns : goal.returns
returns c =
    let a = c.args in
    let n = c.count in
    let put =
    puts_on (kind_room a.room.now (kind_of a.frame) (omega (arith, line_room a.frame, c.requires.frame_in_bounds))) c.front-from.ensures.put c.answers-end.ensures in
    rw (← n.ensures) record {
      room_after = line_put _ _ put (bounds-room-end c);
      fit = fit_both (front a.frame) _ c.front-from.ensures.fit
          (answers_fit n.result 0 a.statuses.now a.leftovers.now
          (λ j. omega (arith, c.type_inv.statuses j)) (λ j. omega (arith, c.type_inv.leftovers j)));
    }
