pub mod Entries
pub mod Inside
pub mod Lends
pub mod Uses
