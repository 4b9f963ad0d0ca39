-- What other crates cite of this crate's proofs. Declares nothing.
pub use Rattle.where_grammar.proofs.Exactly.{exact, whole, clause_rest}
pub use Rattle.where_grammar.proofs.Cuts.{one_answer}
pub use Rattle.where_grammar.proofs.ClauseLaws.{one_tree, is_again}
pub use Rattle.where_grammar.proofs.GrammarLaws.{negation, atom_over, least_atom_lawful, atom_over_lawful, not_lawful, not_ends, members_lawful, and_is}
