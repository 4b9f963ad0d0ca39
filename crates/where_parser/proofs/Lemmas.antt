-- What other crates cite of this crate's proofs. Declares nothing.
pub use Rattle.where_parser.proofs.Parsed.{tree_answer, syntax_answer, deep_answer, tree_said, syntax_said, deep_said, memory_not_said}
