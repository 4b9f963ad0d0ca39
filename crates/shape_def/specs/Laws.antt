-- The answers of clauses are the grammar's.
use Rattle.std.specs.Prelude.{◌≡◌, ◌↔◌, ℕ, List, Ok, Err}
use Rattle.where_grammar.specs.Tree.{Tree}
use Rattle.where_grammar.specs.Clause.{IsClauseText}
use Rattle.where_parser.specs.declared.parsing.ParseError.TheVariants as parsing
use Rattle.where_parser.specs.Whole.{IsSyntaxAt, IsDeepAt}
use Rattle.shape_def.specs.Clauses.{answer_in}

-- A tree is the answer exactly where the text is a clause of that tree, nested 64 deep at most; a refusal is exactly where the grammar has that fault; and memory never runs out.
pub record FollowsTheGrammar (text : List ℕ) : Type 0 where
  pub tree : (tree : Tree) → (answer_in text ≡ Ok tree) ↔ IsClauseText 64 text tree
  pub syntax : (place : ℕ) → (answer_in text ≡ Err (parsing.Syntax place)) ↔ IsSyntaxAt text place
  pub too_deep : (place : ℕ) → (answer_in text ≡ Err (parsing.TooDeep place)) ↔ IsDeepAt text place
  pub answered : ¬ (answer_in text ≡ Err parsing.OutOfMemory)

abbrev pub AnswersFollowTheGrammar : Type 0
AnswersFollowTheGrammar = (text : List ℕ) → FollowsTheGrammar text
