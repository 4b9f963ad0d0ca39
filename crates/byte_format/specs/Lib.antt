pub mod Format
pub mod Whole
