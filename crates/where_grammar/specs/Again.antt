-- What is printed is read again.
use Rattle.std.specs.Prelude.{◌≡◌, ℕ, List, []}
use Rattle.where_lexer.specs.declared.token.Token.{Token}
use Rattle.where_grammar.specs.Tree.{Tree}
use Rattle.ll_rules.specs.Rules.{Read}
use Rattle.where_grammar.specs.Printing.{canonical}
use Rattle.where_grammar.specs.Meaning.{IsClause, clause_of}

-- the canonical tokens of each tree that some tokens of a nesting have are read as that tree, at that nesting
abbrev pub RoundTrip : Type 0
RoundTrip = (depth : ℕ) (tokens : List Token) (tree : Tree) → IsClause depth tokens tree → clause_of depth (canonical tree) ≡ Read tree []
