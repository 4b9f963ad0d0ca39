-- Clauses as texts, and their canonical texts.
use Rattle.std.specs.Prelude.{◌≡◌, ◌↔◌, ℕ, List}
use Rattle.where_lexer.specs.declared.token.Token.{Token}
use Rattle.where_lexer.specs.Lexing.{scanned}
use Rattle.where_lexer.specs.Texts.{tokens_of, text_of}
use Rattle.where_grammar.specs.Tree.{Tree}
use Rattle.where_grammar.specs.Printing.{canonical}
use Rattle.where_grammar.specs.Meaning.{IsClause}

abbrev pub tokens_in : List ℕ → List Token
tokens_in text = tokens_of (scanned text)

-- the text is a clause of this tree, nested so deep at most
pub record IsClauseText (depth : ℕ) (text : List ℕ) (tree : Tree) : Type 0 where
  pub clause : IsClause depth (tokens_in text) tree
  pub whole : (scanned text).left ≡ 0

abbrev pub canonical_text : Tree → List ℕ
canonical_text tree = text_of (canonical tree)

-- the canonical text of a tree that has a text is a text of that tree, nested no deeper
abbrev pub PrintedAgain : Type 0
PrintedAgain = (depth : ℕ) (text : List ℕ) (tree : Tree) → IsClauseText depth text tree → IsClauseText depth (canonical_text tree) tree

-- a text has one tree at most
abbrev pub OneTree : Type 0
OneTree = (depth depth' : ℕ) (text : List ℕ) (tree tree' : Tree) → IsClauseText depth text tree → IsClauseText depth' text tree' → tree' ≡ tree

-- two texts have one canonical text exactly where their trees are equal
abbrev pub OneCanonicalText : Type 0
OneCanonicalText = (depth depth' : ℕ) (text text' : List ℕ) (tree tree' : Tree) → IsClauseText depth text tree → IsClauseText depth' text' tree' → ((canonical_text tree ≡ canonical_text tree') ↔ (tree ≡ tree'))

-- a text of a tree, if some text of its nesting is one
abbrev pub IsAgain : Tree → List ℕ → Type 0
IsAgain tree printed = (depth : ℕ) (text : List ℕ) → IsClauseText depth text tree → IsClauseText depth printed tree
