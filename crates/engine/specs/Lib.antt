pub mod Stands
pub mod Climbs
