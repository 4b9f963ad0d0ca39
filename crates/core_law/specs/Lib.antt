pub mod Situation
pub mod Steps
pub mod Clients
pub mod Run
pub mod Laws
pub mod Waiting
pub mod Reached
