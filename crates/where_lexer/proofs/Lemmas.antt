-- What other crates cite of this crate's proofs. Declares nothing.
pub use Rattle.where_lexer.proofs.AllTokens.{scanned_tokens}
pub use Rattle.where_lexer.proofs.TextLaws.{text_again, run_all, past_all, is_true, is_false, pair_at, Other, unquoted_doubled, same_byte}
pub use Rattle.where_lexer.proofs.Lower.{run_passes}
pub use Rattle.where_lexer.proofs.Quotes.{run_past}
pub use Rattle.where_lexer.proofs.Writes.{written_none, written_first, written_append}
