-- A leaf, or each kind of the arms.
use mathlib.Core.Path.{refl}
use mathlib.Core.List.{[], ◌∷◌}
use borrow.Author.Tests.{ne_eqb}
use borrow.Enum.Refused.{opened}
use Rattle.rules.specs.Kinds.{kind_of}
use Rattle.shown.specs.Show.{ended_under}
use Rattle.shown.proofs.ShowLaws.{under_arm}
use Rattle.shown.proofs.show_below.Goals as goal

pub returns-in-WhenAll : goal.returns-in-WhenAll
unfolding kind_of ended_under
returns-in-WhenAll c =
    rw (← c.below_of.ensures.0, ne_eqb _ 0 c.if-below_of-eq0.false) (under_arm (13 ∷ []) _ _ _ c.in-WhenAll.in-WhenAll-own.keys1 c.kind_of.ensures (c.show_marked.ensures, tt))

pub returns-in-WhenAny : goal.returns-in-WhenAny
unfolding kind_of ended_under
returns-in-WhenAny c =
    rw (← c.below_of.ensures.0, ne_eqb _ 0 c.if-below_of-eq0.false) (under_arm (14 ∷ []) _ _ _ c.in-WhenAny.in-WhenAny-own.keys2 c.kind_of.ensures (c.show_marked-in-WhenAny.ensures, tt))

pub returns-in-Sequence : goal.returns-in-Sequence
unfolding kind_of ended_under
returns-in-Sequence c =
    let place = c.place_of.ensures.0 in
    rw (← c.below_of.ensures.0, ne_eqb _ 0 c.if-below_of-eq0.false) (under_arm (8 ∷ 15 ∷ []) _ _ _ c.in-Sequence.in-Sequence-own.keys3 c.kind_of.ensures
    (rw (← place) c.show_before.ensures, (rw (← place) c.show_before.ensures, tt)))

pub returns-in-Select : goal.returns-in-Select
unfolding kind_of ended_under
returns-in-Select c =
    rw (← c.below_of.ensures.0, ne_eqb _ 0 c.if-below_of-eq0.false) (under_arm (6 ∷ []) _ _ _ c.in-Select.in-Select-own.keys4 c.kind_of.ensures
    (rw (← c.place_of-in-Select.ensures.0) c.show_before-in-Select.ensures, tt))

pub returns-in_default : goal.returns-in_default
unfolding kind_of ended_under
returns-in_default c =
    rw (← c.below_of.ensures.0, ne_eqb _ 0 c.if-below_of-eq0.false) (under_arm (0 ∷ 1 ∷ 2 ∷ 3 ∷ 4 ∷ 5 ∷ 7 ∷ 9 ∷ 10 ∷ 11 ∷ 12 ∷ 16 ∷ []) _ _ _ (opened c.in_default.in_default-own.keys5)
    c.kind_of.ensures
    (refl, (refl, (refl, (refl, (refl, (refl, (refl, (refl, (refl, (refl, (refl, (refl, tt)))))))))))))
