pub mod ErrorFields
pub mod Reached
pub mod FrameList
pub mod Contents
pub mod Cutting
pub mod Status
pub mod Laws
