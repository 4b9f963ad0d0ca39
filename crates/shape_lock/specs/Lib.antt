pub mod Steps
pub mod Stages
pub mod Starts
pub mod Locked
pub mod Passes
pub mod Fated
