pub mod Folding
pub mod Following
pub mod Hashed
pub mod Steps
pub mod Taking
pub mod TargetForms
pub mod TargetLaw
