-- What a walk of n nodes leaves: the answer, the record, cells, board and words.
use Rattle.std.specs.Prelude.{Bool, true, false, cond, List, ℕ, Float}
use Rattle.rules.specs.declared.answer.Answer.{Answer}
use Rattle.rules.specs.declared.answer.Record.{Record}
use Rattle.rules.specs.Call.{Run, run, counted}
use Rattle.cells.specs.Onto.{onto}
use Rattle.work.specs.declared.result.Visit.{Visit}
use Rattle.work.specs.declared.result.Seen.{Seen}
use Rattle.work.specs.declared.result.Seen.TheVariants.{Stopped, Running, Success, Failure}
use Rattle.work.specs.Word.{place_of, mark_of, seen_of}
use Rattle.shown.specs.Show.{ended_words}
use Rattle.settle.specs.Back.{over, stamped_over}
use Rattle.told.specs.Told.{status_in, told_stopped, told_done}

pub record Settled : Type 0 where
  pub answer : Answer
  pub record' : Record
  pub cells' : Run
  pub board : List ℕ
  pub words : List ℕ

abbrev pub settled : Answer → Record → Run → List ℕ → List ℕ → Settled
settled a r c b ws = record { answer = a; record' = r; cells' = c; board = b; words = ws }

abbrev pub has_stopped : Seen → Bool
has_stopped Stopped = true
has_stopped Running = false
has_stopped Success = false
has_stopped Failure = false

module _ (r : Visit) (ns : List ℕ) (n fuel lent : ℕ) (rec : Record) (c : Run) (spare : List Float) (board : List ℕ) where
  -- a question, or too little fuel: the times come back from the spare
  abbrev pub stopped_so : List ℕ → Settled
  stopped_so ws = settled (told_stopped ws ns r) rec (run (onto n spare c.times) c.places c.marks c.sinces) board ws

  -- a walk to its end: what the words say is put back, once what has ended is shown
  abbrev pub ended_so : List ℕ → Settled
  ended_so ws =
      let after = counted (status_in r.seen) rec in
      settled (told_done ws r fuel lent) after
      (run c.times (over place_of n ws c.places) (over mark_of n ws c.marks) (stamped_over after.ticks n ws c.sinces))
      (over seen_of n ws board) ws

  abbrev pub settled_as : List ℕ → Settled
  settled_as ws = cond (has_stopped r.seen) (stopped_so ws) (ended_so (ended_words 0 n ws))
