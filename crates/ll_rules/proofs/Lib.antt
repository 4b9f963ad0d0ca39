pub mod RuleLaws
pub mod MoreLaws
pub mod UnderLaws
pub mod Lemmas
