pub mod Identity
pub mod Clauses
pub mod Definition
pub mod Held
pub mod Chosen
pub mod Laws
