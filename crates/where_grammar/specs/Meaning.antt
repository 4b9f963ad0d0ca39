-- What an answer to a list of tokens must be.
use Rattle.std.specs.Prelude.{◌≡◌, ℕ, suc, List, [], ◌∷◌, ◌++◌}
use Rattle.where_lexer.specs.declared.token.Token.{Token}
use Rattle.where_grammar.specs.Tree.{Tree}
use Rattle.ll_rules.specs.Rules.{Answer, Read, Refuse, Syntax, TooDeep}
use Rattle.where_grammar.specs.Grammar.{clause}

-- the tokens are a clause of this tree, nested so deep at most
abbrev pub IsClause : ℕ → List Token → Tree → Type 0
IsClause depth tokens tree = (clause depth).spells tokens tree

-- some clause begins with these tokens
abbrev pub CanGoOn : ℕ → List Token → Type 0
CanGoOn depth front = (more : List Token) × (tree : Tree) × IsClause depth (front ++ more) tree

-- at no nesting does a clause begin with front and the first token of rest, or end with front where no token is left
abbrev pub IsStuck : List Token → List Token → Type 0
IsStuck front [] = (depth : ℕ) (tree : Tree) → ¬ (IsClause depth front tree)
IsStuck front (t ∷ rest) = (depth : ℕ) → ¬ (CanGoOn depth (front ++ t ∷ []))

-- rest begins at the first token that cannot continue what stands before it
pub record IsSyntaxFault (depth : ℕ) (tokens rest : List Token) : Type 0 where
  pub front : List Token
  pub cut : tokens ≡ front ++ rest
  pub goes : CanGoOn depth front
  pub stuck : IsStuck front rest

-- rest begins at the token where the nesting first passes the depth
pub record IsDepthFault (depth : ℕ) (tokens rest : List Token) : Type 0 where
  pub front : List Token
  pub opening : Token
  pub others : List Token
  pub cut : tokens ≡ front ++ opening ∷ others
  pub at : rest ≡ opening ∷ others
  pub goes : CanGoOn depth front
  pub passes : ¬ (CanGoOn depth (front ++ opening ∷ []))
  pub deeper : CanGoOn (suc depth) (front ++ opening ∷ [])

-- the tokens are this tree's, and no other's at any nesting
pub record IsOnlyTree (depth : ℕ) (tokens : List Token) (tree : Tree) (rest : List Token) : Type 0 where
  pub whole : rest ≡ []
  pub spelled : IsClause depth tokens tree
  pub only : (other : ℕ) (tree' : Tree) → IsClause other tokens tree' → tree' ≡ tree

abbrev pub IsRight : ℕ → List Token → Answer Token Tree → Type 0
IsRight depth tokens (Read tree rest) = IsOnlyTree depth tokens tree rest
IsRight depth tokens (Refuse Syntax rest) = IsSyntaxFault depth tokens rest
IsRight depth tokens (Refuse TooDeep rest) = IsDepthFault depth tokens rest

-- what reading answers
abbrev pub clause_of : ℕ → List Token → Answer Token Tree
clause_of depth tokens = (clause depth).read tokens

abbrev pub Exact : Type 0
Exact = (depth : ℕ) (tokens : List Token) → IsRight depth tokens (clause_of depth tokens)

-- what is in the grammar is read
abbrev pub Whole : Type 0
Whole = (depth : ℕ) (tokens : List Token) (tree : Tree) → IsClause depth tokens tree → clause_of depth tokens ≡ Read tree []

-- a list of tokens has one right answer
abbrev pub OneAnswer : Type 0
OneAnswer = (depth : ℕ) (tokens : List Token) (answer : Answer Token Tree) → IsRight depth tokens answer → clause_of depth tokens ≡ answer
