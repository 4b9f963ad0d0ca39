mod Causes
mod Fullness
mod Ends
mod Life
mod Buffering
mod Waiting
mod Taking
mod Fates
mod Growth
pub mod Lemmas
