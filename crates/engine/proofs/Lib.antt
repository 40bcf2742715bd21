mod StandLaws
mod ClimbLaws
mod Ways
mod DecoratorLaws
