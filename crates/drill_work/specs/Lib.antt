pub mod Chance
pub mod Changes
pub mod Rounds
pub mod Messages
pub mod Notes
pub mod Work
