-- The measures: the depth that is left, and within it the node tick, a visit, a driver, the choice of it. What the turns of each loop keep.
use Rattle.std.proofs.Common.{◌≡◌, ℕ, ◌+◌, ◌-◌, ◌*◌, ◌≤◌, ◌<◌}
use lib.Ieee.{binary64}
use Rattle.work.specs.Flat.{Out, out, lent_in, decorator, visiting, turning, while_loop, while_go, while_all, while_all_go, sequence, sequence_go}
use Rattle.work.specs.Flat.{memoryless, memoryless_go, when_all, when_all_go, race, race_go, after, after_go}
use Rattle.work.proofs.VisitLaws.{Gave}
use Rattle.walk.proofs.NodeLaws.{up}
use Rattle.walk.proofs.TurnLaws.{visitor}
use Rattle.walk.proofs.+walk.Given as goal

abbrev pub decreases-tick_node : goal.decreases-tick_node
decreases-tick_node l = l.depth * 4

abbrev pub decreases-visit : goal.decreases-visit
decreases-visit l = l.depth * 4 + 1

abbrev pub decreases-by_kind : goal.decreases-by_kind
decreases-by_kind l = l.depth * 4 + 3

abbrev pub decreases-decorators : goal.decreases-decorators
decreases-decorators l = l.depth * 4 + 2

abbrev pub decreases-if_node : goal.decreases-if_node
decreases-if_node l = l.depth * 4 + 2

abbrev pub decreases-loops::while_loop : goal.decreases-loops::while_loop
decreases-loops::while_loop l = l.depth * 4 + 2

abbrev pub decreases-loops::while_all : goal.decreases-loops::while_all
decreases-loops::while_all l = l.depth * 4 + 2

abbrev pub decreases-sequence::sequence : goal.decreases-sequence::sequence
decreases-sequence::sequence l = l.depth * 4 + 2

abbrev pub decreases-sequence::memoryless : goal.decreases-sequence::memoryless
decreases-sequence::memoryless l = l.depth * 4 + 2

abbrev pub decreases-when_all::when_all : goal.decreases-when_all::when_all
decreases-when_all::when_all l = l.depth * 4 + 2

abbrev pub decreases-when_all::race : goal.decreases-when_all::race
decreases-when_all::race l = l.depth * 4 + 2

abbrev pub decreases-when_all::after : goal.decreases-when_all::after
decreases-when_all::after l = l.depth * 4 + 2

-- ---- down a chain of decorators, and up again: the loops go along `up`
abbrev pub invariant-decorators-loop-p : goal.invariant-decorators-loop-p
invariant-decorators-loop-p l =
    let T = lent_in l.reads in
    ((n : ℕ) × ((l.q ≡ l.p + 1 + n) × (decorator binary64 T (visiting binary64 T l.depth) l.p l.dt l.fn.work l.fn.times
    ≡ up binary64 T l.p l.dt n (visiting binary64 T l.below l.q l.dt l.work l.times))))
    × (l.q < 256)
    × (l.below ≤ l.depth)

abbrev pub decreases-decorators-loop-p : goal.decreases-decorators-loop-p
decreases-decorators-loop-p l = l.below

abbrev pub invariant-decorators-loop-at : goal.invariant-decorators-loop-at
invariant-decorators-loop-at l =
    let T = lent_in l.reads in
    ((n : ℕ) × ((l.at ≡ l.p + 1 + n) × (decorator binary64 T (visiting binary64 T l.depth) l.p l.dt l.fn.work l.fn.times
    ≡ up binary64 T l.p l.dt n (out l.result.seen l.result.left l.work l.times))))
    × Gave l.result.seen

-- ---- a turn for each of the fuel
abbrev pub invariant-loops::while_loop-loop : goal.invariant-loops::while_loop-loop
invariant-loops::while_loop-loop l =
    let v = visitor l.reads l.depth in
    (while_loop v l.p l.dt l.fn.work l.fn.times ≡ while_go v l.p l.stop l.body (l.turns - l.counter) l.q l.i l.rest l.work l.times)
    × (l.i ≤ 255 + l.q)

abbrev pub invariant-loops::while_all-loop : goal.invariant-loops::while_all-loop
invariant-loops::while_all-loop l =
    let v = visitor l.reads l.depth in
    (while_all v l.p l.dt l.fn.work l.fn.times ≡ while_all_go v l.p l.stop l.body l.dt (l.turns - l.counter) l.q l.i l.rest l.work l.times)
    × (l.i ≤ 255 + l.q)

-- ---- the turns that are left lead to what the driver is to give
abbrev pub invariant-sequence::sequence-loop-result : goal.invariant-sequence::sequence-loop-result
invariant-sequence::sequence-loop-result l =
    let v = turning l.exchange (visitor l.reads l.depth) in
    ((r : Out) → ((j : ℕ) → l.stop - l.q ≤ j → sequence_go v l.p l.stop j l.q l.i l.rest l.work l.times ≡ r)
    → sequence v l.p l.dt l.fn.work l.fn.times ≡ r)
    × (l.i ≤ 255 + l.q)
    × (l.q < l.stop)

abbrev pub decreases-sequence::sequence-loop-result : goal.decreases-sequence::sequence-loop-result
decreases-sequence::sequence-loop-result l = l.stop - l.q

abbrev pub invariant-sequence::memoryless-loop-rest : goal.invariant-sequence::memoryless-loop-rest
invariant-sequence::memoryless-loop-rest l =
    let v = turning l.exchange (visitor l.reads l.depth) in
    ((r : Out) → ((j : ℕ) → l.stop - l.q ≤ j → memoryless_go v l.stop j l.q l.rest l.work l.times ≡ r)
    → memoryless v l.p l.dt l.fn.work l.fn.times ≡ r)
    × (l.q < l.stop)

abbrev pub decreases-sequence::memoryless-loop-rest : goal.decreases-sequence::memoryless-loop-rest
decreases-sequence::memoryless-loop-rest l = l.stop - l.q

abbrev pub invariant-when_all::when_all-loop-q : goal.invariant-when_all::when_all-loop-q
invariant-when_all::when_all-loop-q l =
    let v = turning l.any (visitor l.reads l.depth) in
    (r : Out) → ((j : ℕ) → l.stop - l.q ≤ j → when_all_go v l.stop l.dt j l.q l.all_marked l.least l.work l.times ≡ r)
    → when_all v l.initial.least l.p l.dt l.fn.work l.fn.times ≡ r

abbrev pub decreases-when_all::when_all-loop-q : goal.decreases-when_all::when_all-loop-q
decreases-when_all::when_all-loop-q l = l.stop - l.q

abbrev pub invariant-when_all::race-loop-q : goal.invariant-when_all::race-loop-q
invariant-when_all::race-loop-q l =
    let v = visitor l.reads l.depth in
    (r : Out) → ((j : ℕ) → l.stop - l.q ≤ j → race_go v l.stop l.dt j l.q l.work l.times ≡ r) → race v l.p l.dt l.fn.work l.fn.times ≡ r

abbrev pub decreases-when_all::race-loop-q : goal.decreases-when_all::race-loop-q
decreases-when_all::race-loop-q l = l.stop - l.q

abbrev pub invariant-when_all::after-loop-q : goal.invariant-when_all::after-loop-q
invariant-when_all::after-loop-q l =
    let v = visitor l.reads l.depth in
    ((r : Out) → ((j : ℕ) → l.stop - l.q ≤ j → after_go v l.p l.stop l.dt j l.q l.place l.none_running l.least l.work l.times ≡ r)
    → after v l.initial.least l.p l.dt l.fn.work l.fn.times ≡ r)
    × (l.place ≤ 255 + l.q)

abbrev pub decreases-when_all::after-loop-q : goal.decreases-when_all::after-loop-q
decreases-when_all::after-loop-q l = l.stop - l.q
