-- What other crates cite of the proofs here.
pub use Rattle.chunked_log.proofs.Paging.{last_is, rises_behind}
