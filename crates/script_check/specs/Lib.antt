pub mod Honest
pub mod Causes
pub mod Definitions
pub mod Premise
pub mod Laws
