pub mod Indexing
pub mod Lemmas
