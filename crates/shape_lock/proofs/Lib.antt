pub mod Lengths
pub mod Holding
pub mod Commits
