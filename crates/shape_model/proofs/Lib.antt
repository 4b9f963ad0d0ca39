pub mod Places
pub mod Maps
pub mod Texts
pub mod Checking
pub mod Deciding
pub mod Breaking
pub mod KeyOrder
pub mod Widths
