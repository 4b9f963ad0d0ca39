pub mod Ends
pub mod Cut
pub mod Cutter
