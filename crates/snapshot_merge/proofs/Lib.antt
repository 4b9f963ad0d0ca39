pub mod Loops
pub mod Digits
pub mod Bounds
pub mod Rising
pub mod Sums
pub mod Listed
