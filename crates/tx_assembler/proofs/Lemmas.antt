-- What other crates cite of this crate's proofs. Declares nothing.
pub use Rattle.tx_assembler.proofs.Rising.{shown_rise}
pub use Rattle.tx_assembler.proofs.Taken.{tables_taken}
