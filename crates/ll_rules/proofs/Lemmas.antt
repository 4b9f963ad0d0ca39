-- What other crates cite of this crate's proofs. Declares nothing.
pub use Rattle.ll_rules.proofs.RuleLaws.{Lawful, GoodRead, GoodRefuse, Good, Alike, leads_front, sequence_lawful, nothing_lawful, choice_lawful, barred_lawful}
pub use Rattle.ll_rules.proofs.MoreLaws.{one_lawful, end_lawful, more_lawful, more_step, more_stop, read_shorter, tail}
pub use Rattle.ll_rules.proofs.UnderLaws.{Under, then_under, choice_under, barred_under, one_under, end_under, more_under}
