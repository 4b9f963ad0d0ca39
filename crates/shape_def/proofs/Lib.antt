pub mod Sets
pub mod Telling
pub mod Writing
pub mod Chosen
pub mod Reading
pub mod Lawful
pub mod Refusals
