-- What parsing a text must answer.
use Rattle.std.specs.Prelude.{◌≡◌, ◌<◌, ◌-◌, ℕ, List, length, map, nat_eq, cond, slice_index_or, Result, Ok, Err, ◌⊎◌}
use Rattle.where_parser.specs.declared.expr.Expr as exprs
use Rattle.where_parser.specs.declared.parsing.ParseError.{ParseError}
use Rattle.where_parser.specs.declared.parsing.ParseError.TheVariants as errors
use Rattle.where_lexer.specs.declared.token.Token.{Token}
use Rattle.where_lexer.specs.Lexing.{scanned}
use Rattle.ll_rules.specs.Rules.{Answer, Read, Refuse, Syntax, TooDeep}
use Rattle.where_grammar.specs.Tree.{Tree}
use Rattle.where_grammar.specs.Clause.{tokens_in, IsClauseText}
use Rattle.where_grammar.specs.Meaning.{IsClause, IsSyntaxFault, IsDepthFault}
use Rattle.where_parser.specs.View.{tree_of}

-- how many bytes stand from the last tokens on, or from the end of the tokens on where there are none
abbrev pub left_from : List ℕ → List Token → ℕ
left_from text rest = slice_index_or (map (λ p. p.left) (scanned text).tokens) (length (tokens_in text) - length rest) (scanned text).left

-- where the last tokens begin, or where the tokens end
abbrev pub place_of : List ℕ → List Token → ℕ
place_of text rest = length text - left_from text rest

-- at the first token that cannot continue what stands before it, or at the end of the tokens
pub record IsFault (text : List ℕ) (rest : List Token) (place : ℕ) : Type 0 where
  pub fault : IsSyntaxFault 64 (tokens_in text) rest
  pub at : place ≡ place_of text rest

-- a whole clause stands before a byte that begins no token
pub record IsStray (text : List ℕ) (tree : Tree) (place : ℕ) : Type 0 where
  pub clause : IsClause 64 (tokens_in text) tree
  pub left : 0 < (scanned text).left
  pub at : place ≡ length text - (scanned text).left

abbrev pub IsSyntaxAt : List ℕ → ℕ → Type 0
IsSyntaxAt text place = ((rest : List Token) × IsFault text rest place) ⊎ ((tree : Tree) × IsStray text tree place)

-- at the token where the nesting first passes 64
pub record IsDeep (text : List ℕ) (rest : List Token) (place : ℕ) : Type 0 where
  pub fault : IsDepthFault 64 (tokens_in text) rest
  pub at : place ≡ place_of text rest

abbrev pub IsDeepAt : List ℕ → ℕ → Type 0
IsDeepAt text place = (rest : List Token) × IsDeep text rest place

-- the text is a clause of this tree, and at no nesting of another
pub record IsTreeOf (text : List ℕ) (tree : Tree) : Type 0 where
  pub clause : IsClauseText 64 text tree
  pub only : (depth : ℕ) (other : Tree) → IsClauseText depth text other → other ≡ tree

-- the error, or want of memory
abbrev pub Faulty : ParseError → Result exprs.Expr ParseError → Type 0
Faulty wanted (Ok e) = ⊥
Faulty wanted (Err error) = (error ≡ wanted) ⊎ (error ≡ errors.OutOfMemory)

-- what the answer to the tokens says of the text
abbrev pub answer_of : List ℕ → Answer Token Tree → Result Tree ParseError
answer_of text (Read tree rest) = cond (nat_eq (scanned text).left 0) (Ok tree) (Err (errors.Syntax (length text - (scanned text).left)))
answer_of text (Refuse Syntax rest) = Err (errors.Syntax (place_of text rest))
answer_of text (Refuse TooDeep rest) = Err (errors.TooDeep (place_of text rest))

-- the result is this answer, unless memory ran out
abbrev pub Gave : Result exprs.Expr ParseError → Result Tree ParseError → Type 0
Gave (Ok e) answer = answer ≡ Ok (tree_of e)
Gave (Err errors.OutOfMemory) answer = Unit {0}
Gave (Err (errors.Syntax place)) answer = answer ≡ Err (errors.Syntax place)
Gave (Err (errors.TooDeep place)) answer = answer ≡ Err (errors.TooDeep place)
