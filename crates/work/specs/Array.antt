-- The working array of a tick: a word for each of 256 nodes, and behind them the fuel that is left, the answers used, the place of the
-- action that asks and 1, and 1 for an update. Beside it stand the times.
use Rattle.std.specs.Prelude.{Bool, cond, not, List, ℕ, zero, suc, ◌+◌, ◌-◌, ◌≤◌, leb, ltb, eqb, Float, get_or, set}
use Rattle.rules.specs.Tree.{zero_time}
use Rattle.rules.specs.Table.{cleaned}
use Rattle.work.specs.Word.{below_of, with_place, with_mark, with_seen, fresh_word}

abbrev pub word_at : List ℕ → ℕ → ℕ
word_at ws p = get_or ws p 0

abbrev pub time_at : List Float → ℕ → Float
time_at ts p = get_or ts p zero_time

-- a number as it is lent, and used
abbrev pub number_at : List Float → ℕ → Float
number_at xs p = cleaned (time_at xs p)

abbrev pub fuel_of : List ℕ → ℕ
fuel_of ws = word_at ws 256

abbrev pub used_of : List ℕ → ℕ
used_of ws = word_at ws 257

abbrev pub asked_of : List ℕ → ℕ
asked_of ws = word_at ws 258

abbrev pub updates : List ℕ → Bool
updates ws = not (eqb (word_at ws 259) 0)

-- what is told of a word by a number that has all its bits
pub record Covered (w all : ℕ) : Type 0 where
  pub whole : w ≤ all
  pub below : below_of w ≤ below_of all

-- the dt that is seen: 0 for an other event
unfoldable pub passed : List ℕ → Float → Float
passed ws x = cond (updates ws) x zero_time

-- where the subtree at p ends, at most 256
unfoldable pub end_of : List ℕ → ℕ → ℕ
end_of ws p = let e = p + 1 + below_of (word_at ws p) in cond (ltb e 256) e 256

abbrev pub set_place : List ℕ → ℕ → ℕ → List ℕ
set_place ws p i = set ws p (with_place (word_at ws p) i)

abbrev pub set_seen : List ℕ → ℕ → ℕ → List ℕ
set_seen ws p s = set ws p (with_seen (word_at ws p) s)

abbrev pub set_mark : List ℕ → ℕ → List ℕ
set_mark ws p = set ws p (with_mark (word_at ws p))

-- n nodes from q on are made fresh
unfoldable pub fresh_words : ℕ → ℕ → List ℕ → List ℕ
fresh_words q zero ws = ws
fresh_words q (suc n) ws = fresh_words (q + 1) n (set ws q (fresh_word (word_at ws q)))

unfoldable pub fresh_times : ℕ → ℕ → List Float → List Float
fresh_times q zero ts = ts
fresh_times q (suc n) ts = fresh_times (q + 1) n (set ts q zero_time)

-- child i of those that begin at q, or the first place from `stop` on
unfoldable pub child_from : List ℕ → ℕ → ℕ → ℕ → ℕ
child_from ws stop zero q = q
child_from ws stop (suc i) q = cond (leb stop q) q (child_from ws stop i (end_of ws q))

-- the index behind i, after the last child 0
abbrev pub index_after : ℕ → ℕ → ℕ → ℕ
index_after i next stop = cond (ltb next stop) (i + 1) 0

-- the child behind, after the last the first
abbrev pub child_after : ℕ → ℕ → ℕ → ℕ
child_after next stop body = cond (ltb next stop) next body

-- the place goes up on an update
abbrev pub up_on : Bool → ℕ → ℕ
up_on update i = cond update (i + 1) i

-- the child from q to next and the one that a loop's body then goes on with are made fresh
unfoldable pub moved_words : ℕ → ℕ → ℕ → ℕ → List ℕ → List ℕ
moved_words q next stop body ws =
    let ws' = fresh_words q (next - q) ws in
    let due = child_after next stop body in
    fresh_words due (end_of ws' due - due) ws'

unfoldable pub moved_times : ℕ → ℕ → ℕ → ℕ → List ℕ → List Float → List Float
moved_times q next stop body ws ts =
    let ws' = fresh_words q (next - q) ws in
    let due = child_after next stop body in
    fresh_times due (end_of ws' due - due) (fresh_times q (next - q) ts)

-- the condition of an If at p and its branch i are made fresh, and the choice is kept
unfoldable pub decided_words : ℕ → ℕ → List ℕ → List ℕ
decided_words p i ws = set_place (fresh_words (p + 1) (end_of ws (p + 1) - (p + 1)) ws) p i

unfoldable pub chosen_words : ℕ → ℕ → ℕ → List ℕ → List ℕ
chosen_words p stop i ws =
    let ws' = decided_words p i ws in
    let b = child_from ws' stop i (p + 1) in
    fresh_words b (end_of ws' b - b) ws'

unfoldable pub chosen_times : ℕ → ℕ → ℕ → List ℕ → List Float → List Float
chosen_times p stop i ws ts =
    let ws' = decided_words p i ws in
    let b = child_from ws' stop i (p + 1) in
    fresh_times b (end_of ws' b - b) (fresh_times (p + 1) (end_of ws (p + 1) - (p + 1)) ts)
