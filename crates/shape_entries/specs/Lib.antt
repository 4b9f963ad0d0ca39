pub mod Commit
pub mod Joining
pub mod Start
