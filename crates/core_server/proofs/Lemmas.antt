-- What other crates cite of the proofs here.
pub use Rattle.core_server.proofs.Offsets.{short_logs, short_unless_removed}
