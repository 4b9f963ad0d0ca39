pub mod Refusals
pub mod OneRow
pub mod Taken
pub mod Laws
