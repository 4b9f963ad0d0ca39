pub mod QueryForm
pub mod Reading
pub mod Standing
pub mod Outs
pub mod Taking
pub mod Following
pub mod Laws
pub mod Placing
