pub mod Saying
pub mod Headlines
