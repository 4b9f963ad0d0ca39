-- What other crates cite of the proofs here.
pub use Rattle.core_exchanges.proofs.Lateness.{among_keys}
