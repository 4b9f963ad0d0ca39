pub mod Standings
pub mod Changes
pub mod Lateness
pub mod Lemmas
