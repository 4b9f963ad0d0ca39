pub mod QueryLaws
pub mod QueryForms
pub mod Standings
pub mod Takings
