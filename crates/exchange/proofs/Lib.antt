mod Levels
mod Columns
mod Standing
mod Gates
mod Cuts
