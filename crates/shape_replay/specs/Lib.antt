pub mod Running
pub mod Headline
