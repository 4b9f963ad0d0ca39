pub mod Appending
pub mod Bounds
pub mod Parts
pub mod Rising
