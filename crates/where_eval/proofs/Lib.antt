pub mod Likes
pub mod Chains
pub mod Seeing
pub mod Compiling
pub mod Truths
pub mod LikeLaws
pub mod Checks
pub mod Members
