-- Lemmas.
pub mod Fairness
pub mod Lemmas
pub mod Logs
pub mod Pages
mod LineLaws
mod ChainLaws
mod WritingLaws
mod ValueLaws
mod ReadingLaws
pub mod TellLaws
pub mod TextFronts
pub mod FieldLaws
pub mod Spaces
pub mod Heads
pub mod HeadTells
mod ParameterLaws
mod NameLaws
mod RouteLaws
mod RouteTells
