-- The canonical tokens of a tree, and which trees have them at a nesting.
use Rattle.std.specs.Prelude.{ℕ, suc, List, [], ◌∷◌, ◌++◌, Bool, true, false, cond, ℤ, pos, negsuc, nat_lt}
use Rattle.where_grammar.specs.declared.words.IsTest.{IsTest}
use Rattle.where_grammar.specs.declared.words.IsTest.TheVariants as tests
use Rattle.where_lexer.specs.declared.token.Token.{Token}
use Rattle.where_lexer.specs.declared.token.Token.TheVariants as tokens
use Rattle.where_grammar.specs.Tree.{Tree, AnyOf, AllOf, NotOf, IsOf, DistinctOf, Compared, WithinOf, BetweenOf, LikeOf, NameOf, IntOf, QuotedOf, BoolOf, NullOf, Trees, NoTree, TreeAnd}

abbrev pub level : Tree → ℕ
level (AnyOf ts) = 0
level (AllOf ts) = 1
level (NotOf e) = 2
level (IsOf left negated test) = 3
level (DistinctOf left negated right) = 3
level (Compared op left right) = 4
level (WithinOf left negated list) = 5
level (BetweenOf left negated low high) = 5
level (LikeOf left negated pattern) = 5
level e = 6

-- parentheses exactly where the level is below the one that the place needs
abbrev pub wrapped : ℕ → ℕ → List Token → List Token
wrapped level need inside = cond (nat_lt level need) (tokens.Open ∷ (inside ++ tokens.Close ∷ [])) inside

abbrev pub maybe : Bool → List Token
maybe true = tokens.Not ∷ []
maybe false = []

abbrev pub asked_for : IsTest → Token
asked_for tests.Null = tokens.Null
asked_for tests.True = tokens.True
asked_for tests.False = tokens.False
asked_for tests.Unknown = tokens.Unknown

abbrev pub integer : ℤ → List Token
integer (pos n) = tokens.Digits n ∷ []
integer (negsuc n) = tokens.Minus ∷ tokens.Digits (suc n) ∷ []

abbrev pub truth : Bool → Token
truth true = tokens.True
truth false = tokens.False

abbrev mutual
  pub canonical : Tree → List Token
  canonical (AnyOf ts) = members tokens.Or 1 ts
  canonical (AllOf ts) = members tokens.And 2 ts
  canonical (NotOf e) = tokens.Not ∷ wrapped (level e) 2 (canonical e)
  canonical (IsOf left negated test) = wrapped (level left) 4 (canonical left) ++ (tokens.Is ∷ (maybe negated ++ asked_for test ∷ []))
  canonical (DistinctOf left negated right) = wrapped (level left) 4 (canonical left) ++ (tokens.Is ∷ (maybe negated ++ (tokens.Distinct ∷ tokens.From ∷ wrapped (level right) 4 (canonical right))))
  canonical (Compared op left right) = wrapped (level left) 5 (canonical left) ++ (tokens.Compare op ∷ wrapped (level right) 5 (canonical right))
  canonical (WithinOf left negated list) = wrapped (level left) 6 (canonical left) ++ (maybe negated ++ (tokens.In ∷ tokens.Open ∷ (members tokens.Comma 6 list ++ tokens.Close ∷ [])))
  canonical (BetweenOf left negated low high) = wrapped (level left) 6 (canonical left) ++ (maybe negated ++ (tokens.Between ∷ (wrapped (level low) 6 (canonical low) ++ (tokens.And ∷ wrapped (level high) 6 (canonical high)))))
  canonical (LikeOf left negated pattern) = wrapped (level left) 6 (canonical left) ++ (maybe negated ++ (tokens.Like ∷ tokens.Quoted pattern ∷ []))
  canonical (NameOf name) = tokens.Name name ∷ []
  canonical (IntOf n) = integer n
  canonical (QuotedOf text) = tokens.Quoted text ∷ []
  canonical (BoolOf b) = truth b ∷ []
  canonical NullOf = tokens.Null ∷ []

  pub members : Token → ℕ → Trees → List Token
  members word need NoTree = []
  members word need (TreeAnd e ts) = wrapped (level e) need (canonical e) ++ others word need ts

  pub others : Token → ℕ → Trees → List Token
  others word need NoTree = []
  others word need (TreeAnd e ts) = word ∷ (wrapped (level e) need (canonical e) ++ others word need ts)

-- a part of a place that needs this level at least
abbrev pub part : ℕ → Tree → List Token
part need e = wrapped (level e) need (canonical e)
