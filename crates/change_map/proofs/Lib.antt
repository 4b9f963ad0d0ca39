pub mod CellLaws
pub mod KeyLaws
pub mod Places
pub mod Ordered
pub mod Entries
pub mod Utf8Wants
pub mod ReadLaws
