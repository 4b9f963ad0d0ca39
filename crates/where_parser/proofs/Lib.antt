pub mod Chains
pub mod Ranks
pub mod Parsed
pub mod Prints
pub mod Lemmas
