pub mod Tree
pub mod Grammar
pub mod Meaning
pub mod Printing
pub mod Again
pub mod Clause
pub mod Cases
