pub mod ErrorScan
pub mod FrameLaws
pub mod Refusals
pub mod CuttingLaws
pub mod Looking
pub mod Reading
pub mod Converse
