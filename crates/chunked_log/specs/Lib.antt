pub mod Lines
pub mod Chunked
pub mod Settled
pub mod Inside
pub mod Paging
