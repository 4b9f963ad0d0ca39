mod Appending
mod Paging
mod Utf8
mod Settling
pub mod Lemmas
