-- Each node that is opened is one more around the visit.
use mathlib.Core.Path.{refl, sym, ap, ◌∙◌}
use native.Mathlib.Omega.{arith}
use Rattle.lent.specs.declared.room.Room.{Room}
use Rattle.lent.specs.Lent.{levels_in, SameRoom}
use Rattle.work.specs.Flat.{is_decorator}
use Rattle.engine.proofs.Ways.{Deeper, deeper_none, deeper_one, way_kept, way_leaf, way_spent, way_deep, way_done, way_deeper}
use Rattle.engine.proofs.DecoratorLaws.{way_last, way_decorator, way_opened}
use Rattle.engine.proofs.climb.down.Goals as goal
use Rattle.engine.proofs.climb.down.Goals.{After-decorates, then-at-gt0, else-at-gt0}

-- a leaf
pub returns-then-is_leaf-clause-downs : goal.returns-then-is_leaf-clause-downs
returns-then-is_leaf-clause-downs c =
    way_leaf c.loop-work.invariant.way c.kind_of-kind.ensures (sym c.is_leaf.ensures ∙ c.if-is_leaf.true) c.visit_leaf.ensures

-- no leaf
pub returns-then-fuel-eq0-clause-downs : goal.returns-then-fuel-eq0-clause-downs
returns-then-fuel-eq0-clause-downs c =
    rw c.stopped.ensures (way_spent c.loop-work.invariant.way c.kind_of-kind.ensures (sym c.is_leaf.ensures ∙ c.if-is_leaf.false) c.if-fuel-eq0.true)

pub returns-then-at-ge16-clause-downs : goal.returns-then-at-ge16-clause-downs
returns-then-at-ge16-clause-downs c =
    rw c.stopped-then-at-ge16.ensures (way_deep c.loop-work.invariant.way c.kind_of-kind.ensures (sym c.is_leaf.ensures ∙ c.if-is_leaf.false) c.if-at-ge16.true)

-- the room with the innermost node in it
deeper : (c : After-decorates) → Deeper c.loop-work.at.deep c.loop-work.at.level (levels_in c.loop-work.room) (levels_in c.if-at-gt0.room)
deeper c = elim c.if-at-gt0.branch [
  | then-at-gt0 w ↦ deeper_one w.if-at-gt0.true (rw w.room-is w.keep.ensures.put)
  | else-at-gt0 w ↦ deeper_none w.if-at-gt0.false (rw w.room-is)
]

-- the slices of the room stay the same ones
joined : (r s t : Room) → SameRoom r s → SameRoom s t → SameRoom r t
joined r s t a b = (b.0 ∙ a.0, b.1 ∙ a.1, b.2 ∙ a.2, b.3 ∙ a.3)

same : (c : After-decorates) → SameRoom c.args.room.now c.if-at-gt0.room
same c = elim c.if-at-gt0.branch [
  | then-at-gt0 w ↦ rw w.room-is (joined c.args.room.now c.loop-work.room w.keep.new.room c.loop-work.invariant.same_room w.keep.ensures.same_room)
  | else-at-gt0 w ↦ rw w.room-is c.loop-work.invariant.same_room
]

-- ---- decorators
pub returns-then-q-ge255-clause-downs : goal.returns-then-q-ge255-clause-downs
returns-then-q-ge255-clause-downs c =
    rw c.stopped-then-q-ge255.ensures (way_last (way_kept c.loop-work.invariant.way (deeper (goal.at.returns-then-q-ge255-clause-downs c).After-decorates))
    (ap is_decorator (sym c.kind_of-kind.ensures) ∙ sym c.if-decorates.ensures) c.if-at-ge16.false c.if-fuel-eq0.false c.if-q-ge255.true)

pub open_decorators-p-requires-clause-held : goal.open_decorators-p-requires-clause-held
open_decorators-p-requires-clause-held c =
    (way_decorator c.loop-work.invariant.way (ap is_decorator (sym c.kind_of-kind.ensures) ∙ sym c.if-decorates.ensures) c.if-at-ge16.false c.if-fuel-eq0.false (omega (arith, c.if-q-ge255.false))
    (deeper (goal.at.open_decorators-p-requires-clause-held c).After-decorates)).held

pub loop-work-preserved-then-decorates : goal.loop-work-preserved-then-decorates
loop-work-preserved-then-decorates c = record {
  way = way_opened
      (way_decorator c.loop-work.invariant.way (ap is_decorator (sym c.kind_of-kind.ensures) ∙ sym c.if-decorates.ensures) c.if-at-ge16.false c.if-fuel-eq0.false (omega (arith, c.if-q-ge255.false))
      (deeper (goal.at.loop-work-preserved-then-decorates c).After-decorates))
      c.open_decorators-p.ensures.opens (omega (arith, c.open_decorators-p.ensures.opens.from)) c.kind_of.ensures c.decorating.ensures;
  same_room = joined c.args.room.now c.if-at-gt0.room c.open_decorators-p.new.room (same (goal.at.loop-work-preserved-then-decorates c).After-decorates) c.open_decorators-p.ensures.same_room;
}

-- ---- any other node
pub returns-in-Done-clause-downs : goal.returns-in-Done-clause-downs
returns-in-Done-clause-downs c =
    way_done (way_kept c.loop-work.invariant.way (deeper (goal.at.returns-in-Done-clause-downs c).After-decorates)) c.kind_of-kind.ensures (sym c.is_leaf.ensures ∙ c.if-is_leaf.false)
    c.if-at-ge16.false c.if-fuel-eq0.false _ refl _ _ c.opened.ensures.work_unchanged _ _ c.in-Done.ensures.times_value
    _ c.show.ensures.ts_value c.show.ensures.work_unchanged

pub loop-work-preserved : goal.loop-work-preserved
loop-work-preserved c = record {
  way = way_deeper c.loop-work.invariant.way c.kind_of-kind.ensures (sym c.is_leaf.ensures ∙ c.if-is_leaf.false) c.if-at-ge16.false c.if-fuel-eq0.false _ refl _ _
      c.opened.ensures.work_unchanged _ _ c.in-Due.ensures.times_value c.in-Due.ensures.keeps_sound
      (deeper (goal.at.loop-work-preserved c).After-decorates);
  same_room = same (goal.at.loop-work-preserved c).After-decorates;
}
