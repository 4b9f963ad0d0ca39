mod Utf8
pub mod Filling
pub mod Heads
