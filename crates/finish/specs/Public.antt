-- Demand 3 of the public calls: if the finish bound of a table is N for a step of d, then from fresh cells, whatever calls are made, the tree has
-- finished at or before the N-th tick that was carried out since the start, or since the last restart, which is the first.
use Rattle.std.specs.Prelude.{Bool, true, false, ℕ, ◌≤◌, ◌<◌}
use Rattle.laws.specs.History.{Standing}

-- k ticks were carried out: at most N, and fewer than N if it has not finished
abbrev pub AtMost : Bool → ℕ → ℕ → Type 0
AtMost true k N = k ≤ N
AtMost false k N = k < N

abbrev pub FinishesBy : ℕ → Standing → Type 0
FinishesBy N st = AtMost st.record'.finished st.carried N
