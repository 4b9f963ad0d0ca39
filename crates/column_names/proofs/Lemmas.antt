-- What other crates cite of this crate's proofs. Declares nothing.
pub use Rattle.column_names.proofs.Indexing.{is_tied, is_it, cut_at}
