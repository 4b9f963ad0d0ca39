pub mod Logged
pub mod Log
pub mod Roped
pub mod Texts
pub mod Inside
