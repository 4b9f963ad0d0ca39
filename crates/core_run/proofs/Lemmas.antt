-- What other crates cite of the proofs here. Declares nothing.
pub use Rattle.core_run.proofs.Leading.{leads_more, leads_on, leads_to_events}
pub use Rattle.core_run.proofs.Calls.{stands_first, stands_more, calls_lead}
