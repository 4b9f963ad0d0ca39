pub mod Reading
pub mod Additions
pub mod Later
pub mod Buffered
pub mod Inside
pub mod Standing
pub mod Answers
pub mod Growing
