pub mod Permuting
pub mod Visible
pub mod Steady
pub mod Claiming
