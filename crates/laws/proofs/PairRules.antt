-- Two walks side by side through the rule of each kind. The loops' budget is any number here: `rule_with` is the rule with that number for it.
use Rattle.std.specs.Prelude.{◌≡◌, false, ℕ, suc, ◌+◌, ◌-◌, ◌≤◌, ◌<◌, T, eqb, Float}
use Rattle.std.proofs.Math.Path.{refl, sym}
use Rattle.std.proofs.Common.{ap, ◌∙◌, arith}
use Rattle.std.specs.Float.{Format}
use Rattle.std.specs.Float.Ieee.{add, le}
use Rattle.rules.specs.declared.behavior.Kind.{Kind}
use Rattle.rules.specs.declared.behavior.Kind.TheVariants.{Wait, WaitForever, Action, Invert, AlwaysSucceed, Timeout, Select, If, Sequence}
use Rattle.rules.specs.declared.behavior.Kind.TheVariants.{MemorylessSequence, MemorylessSelector, While, WhileAll, WhenAll, WhenAny, After, Race}
use Rattle.rules.specs.declared.status.Status.{Status}
use Rattle.rules.specs.declared.status.Status.TheVariants.{Running, Success, Failure}
use Rattle.rules.specs.declared.event.Event.{Event}
use Rattle.rules.specs.declared.event.Event.TheVariants.{Update, Other}
use Rattle.rules.specs.Kinds.{fewest, marks_children}
use Rattle.rules.specs.Tree.{Cell, Forest, [], ◌◂◌, node, count}
use Rattle.rules.specs.Outcome.{dt, World, Out, Ticker, ◌▸◌, exchanged, exchanging, always_succeed}
use Rattle.rules.specs.State.{at_place, in_cell, only, rule}
use Rattle.rules.specs.Table.{limit_allowed}
use Rattle.rules.specs.Cells.{last_place}
use Rattle.laws.specs.Shape.{Shape, shape, shapes, shp, size_of, sizes_of, count_of_lem}
use Rattle.laws.specs.Tables.{at_least}
use Rattle.laws.specs.Live.{choose, LiveCellBy}
use Rattle.laws.specs.Pair.{Pairing, Known, Time, from, from_both, Sim, Both, back, up, spent, weak, stay, cut, then, after, either}
use Rattle.laws.specs.PairDrivers.{join, Each, Livelies, Marked, Visited, KeptAt, Alike, exchanging_alike, visit, race_pair, seq_pair, mem_pair, all_pair, after_pair}
use Rattle.laws.specs.PairLoops.{body_pair, loop_pair, if_pair}
use Rattle.laws.specs.PairRules.{while_with, while_all_with, rule_with, leave, NodeRight, NextOf, KeptNext, Acts, LoopsOf, Begins, exchange_pair}

fewest_of : (k : Kind) (n : ℕ) (l : Float) (ts : Forest) → NodeRight k n l ts → fewest k ≤ count ts
fewest_of k n l ts s = at_least k n (count ts) s.0 (s.1 ∙ sym (count_of_lem ts))

-- ---- what is left of a node by its rule, and what is asked of it
module _ {F : Format} (R : Pairing F) where
  -- ---- from a driver to its node
  place_next : {m : ℕ} {p : R.Worlds} {o o' : World → Out (ℕ × Forest)} (k : Kind) (n b : ℕ) (c : Cell) (ts : Forest) → Known R (LiveCellBy R.terms.time k n c × (b ≤ last_place k n))
      → Both R m p (λ s r y q. (shapes y.1 ≡ shapes ts) × Known R ((y.0 ≤ b) × choose (marks_children k) (Marked R y.1) (Livelies R y.1)) × Time R r) o o'
      → Both R m p (KeptNext R k n c ts) (λ w. at_place c (o w)) (λ w. at_place c (o' w))
  place_next k n b c ts v h = after R h λ s r y q z. stay R (refl, z.0, from_both R z.1 v (λ a b. ((b.0.0, b.0.1, omega arith), a.1)), z.2)

  cell_next : {m : ℕ} {p : R.Worlds} {o o' : World → Out Forest} (k : Kind) (n : ℕ) (c : Cell) (ts : Forest) → Known R (LiveCellBy R.terms.time k n c)
      → Both R m p (λ s r us q. (shapes us ≡ shapes ts) × Known R (choose (marks_children k) (Marked R us) (Livelies R us)) × Time R r) o o'
      → Both R m p (KeptNext R k n c ts) (λ w. in_cell c (o w)) (λ w. in_cell c (o' w))
  cell_next k n c ts v h = after R h λ s r us q z. stay R (refl, z.0, R.terms.both v z.1, z.2)

  module _ (acts : Acts R) (D : Shape → Type 0) (child child' : Ticker) (g : Alike R D child child') where
    only_pair : (k : Kind) (ch : Status → Status) (n : ℕ) (c : Cell) (e : Event) (ts : Forest) (p : R.Worlds) → Each D (shapes ts)
        → Known R ((1 ≤ count ts) × LiveCellBy R.terms.time k n c × Livelies R ts) → Time R (dt e) → marks_children k ≡ false
        → Both R (sizes_of (shapes ts)) p (KeptNext R k n c ts) (λ w. only child ch c e ts w) (λ w. only child' ch c e ts w)
    only_pair k ch n c e [] p d v ev plain = cut R (from R v (λ h. omega arith))
    only_pair k ch n c e (t ◂ ts) p d v ev plain = then R (visit R D child child' g t e p d.0 (from R v (λ h. h.2.0)) ev) λ s r t' q x.
        stay R (refl, join x.0 refl, from_both R x.1 v (λ a b. (b.1, rw plain (a.0, b.2.1))), x.2)

    wait_pair : (n : ℕ) (l : Float) (c : Cell) (e : Event) (ts : Forest) (p : R.Worlds) → Known R (T (limit_allowed Wait l) × NextOf R Wait n (c, ts)) → Time R (dt e)
        → Both R (sizes_of (shapes ts)) p (KeptNext R Wait n c ts) (λ w. rule F child Wait n l c e ts w) (λ w. rule F child' Wait n l c e ts w)
    unfolding rule
    wait_pair n l c (Update y) ts p v ev =
        let now : Time R (add F c.time y) = R.terms.sum c.time y (from R v (λ h. h.1.0.1)) ev in
        let nl = from R v (λ h. h.0) in
        either R (le l (add F c.time y))
        (λ m. stay R (refl, refl, from R v (λ h. ((h.1.0.0, R.terms.limit l nl, h.1.0.2), h.1.1)), R.terms.past l (add F c.time y) nl now m))
        (λ m. stay R (refl, refl, from R v (λ h. ((h.1.0.0, now, h.1.0.2), h.1.1)), R.terms.none_passed))
    wait_pair n l c Other ts p v ev = stay R (refl, refl, from R v (λ h. h.1), R.terms.none_passed)

    timeout_pair : (n : ℕ) (l : Float) (c : Cell) (e : Event) (ts : Forest) (p : R.Worlds) → Each D (shapes ts)
        → Known R ((1 ≤ count ts) × T (limit_allowed Timeout l) × NextOf R Timeout n (c, ts)) → Time R (dt e)
        → Both R (sizes_of (shapes ts)) p (KeptNext R Timeout n c ts) (λ w. rule F child Timeout n l c e ts w) (λ w. rule F child' Timeout n l c e ts w)
    unfolding rule
    timeout_pair n l c e [] p d v ev = cut R (from R v (λ h. omega arith))
    timeout_pair n l c e (t ◂ ts) p d v ev = then R (visit R D child child' g t e p d.0 (from R v (λ h. h.2.1.0)) ev) elim [
      | Running ↦ λ r t' q x.
          let now : Time R (add F c.time (dt e)) = R.terms.sum c.time (dt e) (from R v (λ h. h.2.0.1)) ev in
          let next = from_both R x.1 v (λ a b. ((b.2.0.0, now, b.2.0.2), (a.0, b.2.1.1))) in
          either R (le l (add F c.time (dt e)))
          (λ m. stay R (refl, join x.0 refl, next, R.terms.past l (add F c.time (dt e)) (from R v (λ h. h.1)) now m))
          (λ m. stay R (refl, join x.0 refl, next, R.terms.none_passed))
      | Success ↦ λ r t' q x. stay R (refl, join x.0 refl, from_both R x.1 v (λ a b. (b.2.0, (a.0, b.2.1.1))), x.2)
      | Failure ↦ λ r t' q x. stay R (refl, join x.0 refl, from_both R x.1 v (λ a b. (b.2.0, (a.0, b.2.1.1))), x.2)
    ]

    -- While's place is below the count of its body, WhileAll's up to it
    body_of : (n l : ℕ) → n ≡ suc l → 2 ≤ suc l → l ≡ suc (n - 2)
    body_of n l e h = omega arith

    while_pair : (b n : ℕ) (l : Float) (c : Cell) (e : Event) (ts : Forest) (p : R.Worlds) → ((m n : ℕ) → R.Upto m n) → Each D (shapes ts)
        → Begins R While n l c ts p b → Time R (dt e)
        → Both R (sizes_of (shapes ts)) p (KeptNext R While n c ts) (λ w. while_with b child c e ts w) (λ w. while_with b child' c e ts w)
    while_pair b n l c e [] p free d v ev = cut R (from R v (λ h. omega (arith, fewest_of While n l [] h.0)))
    while_pair b n l c e (t ◂ ts) p free d v ev = then R (visit R D child child' g t e p d.0 (from R v (λ h. h.1.1.0)) ev) elim [
      | Running ↦ λ r t' q x. up R 0 (free 0 (sizes_of (shapes ts))) (after R (body_pair R D child child' g free b (n - 2) c.place e ts q d.1
          (from_both R x.1 v (λ a b. (omega arith, body_of n (count ts) (b.0.1 ∙ sym (count_of_lem (t ◂ ts))) (fewest_of While n l (t ◂ ts) b.0), b.1.0.2, b.1.1.1))) ev)
          λ s' r' z q' y.
          stay R (refl, join x.0 y.0, from_both R x.1 (R.terms.both y.1 v) (λ a b. ((b.1.1.0.0, b.1.1.0.1, b.0.0), (a.0, b.0.1))), y.2))
      | Success ↦ λ r t' q x. stay R (refl, join x.0 refl, from_both R x.1 v (λ a b. (b.1.0, (a.0, b.1.1.1))), x.2)
      | Failure ↦ λ r t' q x. stay R (refl, join x.0 refl, from_both R x.1 v (λ a b. (b.1.0, (a.0, b.1.1.1))), x.2)
    ]

    while_all_pair : (b n : ℕ) (l : Float) (c : Cell) (e : Event) (ts : Forest) (p : R.Worlds) → ((m n : ℕ) → R.Upto m n) → Each D (shapes ts)
        → Begins R WhileAll n l c ts p b → Time R (dt e)
        → Both R (sizes_of (shapes ts)) p (KeptNext R WhileAll n c ts) (λ w. while_all_with b child c e ts w) (λ w. while_all_with b child' c e ts w)
    while_all_pair b n l c e [] p free d v ev = cut R (from R v (λ h. omega (arith, fewest_of WhileAll n l [] h.0)))
    while_all_pair b n l c e (t ◂ ts) p free d v ev =
        let m : Known R (count ts ≡ suc (n - 2)) = from R v (λ h. body_of n (count ts) (h.0.1 ∙ sym (count_of_lem (t ◂ ts))) (fewest_of WhileAll n l (t ◂ ts) h.0)) in
        up R 0 (free 0 (sizes_of (shapes (t ◂ ts)))) (place_next WhileAll n (suc (n - 2)) c (t ◂ ts)
        (from_both R m v (λ a b. (b.1.0, omega (arith, a, b.0.1, count_of_lem ts))))
        (loop_pair R D child child' g free b (n - 2) e c.place e t ts p d.0 d.1 (from_both R m v (λ a b. (b.2, a, omega arith, b.1.1))) ev ev))

    -- a driver whose place goes up to the count of its children
    along : {m : ℕ} {o o' : World → Out (ℕ × Forest)} (k : Kind) (n : ℕ) (l : Float) (c : Cell) (ts : Forest) (p : R.Worlds) (b : ℕ) → marks_children k ≡ false
        → (NodeRight k n l ts → last_place k n ≡ count ts) → Begins R k n l c ts p b
        → (Known R ((c.place ≤ count ts) × Livelies R ts) → Both R m p (KeptAt R (count ts) ts) o o') → Both R m p (KeptNext R k n c ts) (λ w. at_place c (o w)) (λ w. at_place c (o' w))
    along k n l c ts p b plain last v h = place_next k n (count ts) c ts (from R v (λ h. (h.1.0, omega (arith, last h.0))))
        (weak R (h (from R v (λ h. (rw (← last h.0) h.1.0.2, rw plain at h.1.1)))) (λ s r y q z. (z.0, from R z.1 (λ h. (h.0, rw plain h.1)), z.2)))

    pub rule_pair : (b : ℕ) (k : Kind) (n : ℕ) (l : Float) (c : Cell) (e : Event) (ts : Forest) (p : R.Worlds) → LoopsOf R k → Each D (shapes ts) → Begins R k n l c ts p b → Time R (dt e)
        → Both R (sizes_of (shapes ts)) p (KeptNext R k n c ts) (λ w. rule_with b F child k n l c e ts w) (λ w. rule_with b F child' k n l c e ts w)
    unfolding rule_with
    rule_pair b Action n l c e ts p lo d v ev =
        weak R (acts child child' n l c e ts (sizes_of (shapes ts)) p (λ x. (x.0.mark ≡ c.mark) × (shapes x.1 ≡ shapes ts) × Known R (NextOf R Action n x)) (refl, refl, from R v (λ h. h.1)))
        (λ s r x q y. (y.0.0, y.0.1, y.0.2, y.1))
    rule_pair b Invert n l c e ts p lo d v ev = only_pair Invert exchanged n c e ts p d (from R v (λ h. (fewest_of Invert n l ts h.0, h.1.0, h.1.1))) ev refl
    rule_pair b AlwaysSucceed n l c e ts p lo d v ev = only_pair AlwaysSucceed always_succeed n c e ts p d (from R v (λ h. (fewest_of AlwaysSucceed n l ts h.0, h.1.0, h.1.1))) ev refl
    rule_pair b Wait n l c e ts p lo d v ev = wait_pair n l c e ts p (from R v (λ h. (h.0.2, h.1))) ev
    rule_pair b WaitForever n l c e ts p lo d v ev = stay R (refl, refl, from R v (λ h. h.1), R.terms.none_passed)
    rule_pair b Timeout n l c e ts p lo d v ev = timeout_pair n l c e ts p d (from R v (λ h. (fewest_of Timeout n l ts h.0, h.0.2, h.1))) ev
    rule_pair b If n l c e ts p lo d v ev = place_next If n 2 c ts (from R v (λ h. (h.1.0, omega arith)))
        (if_pair R D child child' g e ts c.place p d (from R v (λ h. (h.1.0.2, fewest_of If n l ts h.0, h.1.1))) ev)
    rule_pair b Sequence n l c e ts p lo d v ev = along Sequence n l c ts p b refl (λ s. s.1 ∙ sym (count_of_lem ts)) v (λ z. seq_pair R D child child' g e ts c.place p d z ev)
    rule_pair b Select n l c e ts p lo d v ev = along Select n l c ts p b refl (λ s. s.1 ∙ sym (count_of_lem ts)) v
        (λ z. exchange_pair R (seq_pair R D (exchanging child) (exchanging child') (exchanging_alike R D child child' g) e ts c.place p d z ev) λ s r a q x. x)
    rule_pair b MemorylessSequence n l c e ts p lo d v ev = cell_next MemorylessSequence n c ts (from R v (λ h. h.1.0)) (mem_pair R D child child' g e ts p d ev)
    rule_pair b MemorylessSelector n l c e ts p lo d v ev = cell_next MemorylessSelector n c ts (from R v (λ h. h.1.0))
        (exchange_pair R (mem_pair R D (exchanging child) (exchanging child') (exchanging_alike R D child child' g) e ts p d ev) λ s r a q x. x)
    rule_pair b While n l c e ts p lo d v ev = while_pair b n l c e ts p (lo tt) d v ev
    rule_pair b WhileAll n l c e ts p lo d v ev = while_all_pair b n l c e ts p (lo tt) d v ev
    rule_pair b WhenAll n l c e ts p lo d v ev = cell_next WhenAll n c ts (from R v (λ h. h.1.0)) (all_pair R D child child' g e ts p d (from R v (λ h. h.1.1)) ev)
    rule_pair b WhenAny n l c e ts p lo d v ev = cell_next WhenAny n c ts (from R v (λ h. h.1.0))
        (exchange_pair R (all_pair R D (exchanging child) (exchanging child') (exchanging_alike R D child child' g) e ts p d (from R v (λ h. h.1.1)) ev) λ s r a q x. x)
    rule_pair b After n l c e ts p lo d v ev = along After n l c ts p b refl (λ s. s.1 ∙ sym (count_of_lem ts)) v (λ z. after_pair R D child child' g e ts c.place p d z ev)
    rule_pair b Race n l c e ts p lo d v ev = cell_next Race n c ts (from R v (λ h. h.1.0)) (race_pair R D child child' g e ts p d (from R v (λ h. h.1.1)) ev)

    -- ---- the visit of a node: p before it, q once it has taken its fuel; m is a budget with which each walk's rule is what it is
    pub visit_pair : (m : ℕ) (k : Kind) (n : ℕ) (l : Float) (c : Cell) (b : ℕ) (ts : Forest) (e : Event) (p q : R.Worlds)
        → R.first q (λ w. rule F child k n l c e ts w) ≡ R.first q (λ w. rule_with m F child k n l c e ts w)
        → R.second q (λ w. rule F child' k n l c e ts w) ≡ R.second q (λ w. rule_with m F child' k n l c e ts w)
        → R.Reach 1 p q → Known R (R.fuel q < R.fuel p) → LoopsOf R k → Each D (shapes ts) → Begins R k n l c ts q m → Time R (dt e)
        → Sim R (size_of (shape (node k n l c b ts))) p (Visited R p (node k n l c b ts))
        (R.first q (λ w. rule F child k n l c e ts w ▸ leave k n l)) (R.second q (λ w. rule F child' k n l c e ts w ▸ leave k n l))
    visit_pair m k n l c b ts e p q one two h f lo d v ev =
        up R (1 + sizes_of (shapes ts)) (R.upto (1 + sizes_of (shapes ts)) (size_of (shape (node k n l c b ts))) (omega arith)) (back R h (after R (spent R by_rule) λ s r x q' z.
        stay R (((λ i. shp k n l (z.0.1 i)), ap (λ (y : ℕ). eqb y 1) z.0.0), from_both R f (R.terms.both z.0.2 z.1) (λ a y. (y.0, omega arith)), z.0.3)))
      where
        by_rule : Both R (sizes_of (shapes ts)) q (KeptNext R k n c ts) (λ w. rule F child k n l c e ts w) (λ w. rule F child' k n l c e ts w)
        by_rule = rw (one, two) (rule_pair m k n l c e ts q lo d v ev)
