-- What other crates cite of the proofs here.
pub use Rattle.shape_state.proofs.Growth.{log_is_short}
