pub mod Maps
pub mod Checks
pub mod Breaks
pub mod Order
pub mod Rows
