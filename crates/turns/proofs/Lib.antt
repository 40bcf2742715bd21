pub mod FuelLaws
mod TurnLaws
mod BranchLaws
mod SequenceLaws
mod WhenAllLaws
mod LoopLaws
mod NodeLaws
