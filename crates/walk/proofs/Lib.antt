mod SequenceLaws
mod WhenAllLaws
mod LoopLaws
mod NodeLaws
mod TurnLaws
