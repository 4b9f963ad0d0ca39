pub mod VisText
pub mod Buffer
pub mod Answers
