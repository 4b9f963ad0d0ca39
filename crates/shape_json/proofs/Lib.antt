pub mod Answers
pub mod Digits
pub mod Endings
pub mod Histories
pub mod LawProofs
pub mod Offsets
pub mod Once
pub mod Lemmas
pub mod Pages
pub mod PlainLogs
pub mod ReadBack
pub mod Reading
pub mod Sizes
pub mod Texts
pub mod Writing
mod Runs
