pub mod State
pub mod Entries
pub mod Names
pub mod ByHistory
pub mod Registry
pub mod Lends
