pub mod Standing
pub mod Indexing
pub mod Giving
