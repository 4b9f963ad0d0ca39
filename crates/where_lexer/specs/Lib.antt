pub mod Lexing
pub mod Seen
pub mod Classes
pub mod Texts
pub mod Writing
