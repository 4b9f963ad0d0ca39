pub mod Parts
pub mod Tables
pub mod Records
pub mod Outcomes
pub mod Laws
