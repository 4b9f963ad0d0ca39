-- The grammar of where-clauses by its alternatives. The number is how many groups and NOT words may stand round a token.
use Rattle.std.specs.Prelude.{◌↔◌, ◌<◌, ◌≤◌, ◌^◌, ℕ, suc, List, [], ◌∷◌, ◌++◌, Bool, true, false, pos, neg_ℤ}
use Rattle.where_lexer.specs.declared.token.CmpOp.{CmpOp}
use Rattle.where_lexer.specs.declared.token.Token.{Token}
use Rattle.where_lexer.specs.declared.token.Token.TheVariants as tokens
use Rattle.where_grammar.specs.declared.words.IsTest.{IsTest}
use Rattle.where_grammar.specs.Tree.{Tree, NotOf, IsOf, DistinctOf, Compared, WithinOf, BetweenOf, LikeOf, NameOf, IntOf, QuotedOf, BoolOf, NullOf, trees}
use Rattle.where_grammar.specs.Grammar.{any_of, all_of}
use Rattle.where_grammar.specs.Printing.{maybe, asked_for}
use Rattle.where_grammar.specs.Meaning.{IsClause}

mutual
  -- or := and { OR and }; two or more members make one node
  pub data IsOr : ℕ → List Token → Tree → Type 0 where
    or_of : (n : ℕ) (ts us : List Token) (e : Tree) (es : List Tree) → IsAnd n ts e → OrAnds n us es → IsOr n (ts ++ us) (any_of e es)

  -- { OR and }
  pub data OrAnds : ℕ → List Token → List Tree → Type 0 where
    no_or : (n : ℕ) → OrAnds n [] []
    more_or : (n : ℕ) (ts us : List Token) (e : Tree) (es : List Tree) → IsAnd n ts e → OrAnds n us es → OrAnds n (tokens.Or ∷ (ts ++ us)) (e ∷ es)

  -- and := not { AND not }
  pub data IsAnd : ℕ → List Token → Tree → Type 0 where
    and_of : (n : ℕ) (ts us : List Token) (e : Tree) (es : List Tree) → IsNot n ts e → AndNots n us es → IsAnd n (ts ++ us) (all_of e es)

  -- { AND not }
  pub data AndNots : ℕ → List Token → List Tree → Type 0 where
    no_and : (n : ℕ) → AndNots n [] []
    more_and : (n : ℕ) (ts us : List Token) (e : Tree) (es : List Tree) → IsNot n ts e → AndNots n us es → AndNots n (tokens.And ∷ (ts ++ us)) (e ∷ es)

  -- not := NOT not | is
  pub data IsNot : ℕ → List Token → Tree → Type 0 where
    not_of : (n : ℕ) (ts : List Token) (e : Tree) → IsNot n ts e → IsNot (suc n) (tokens.Not ∷ ts) (NotOf e)
    an_is : (n : ℕ) (ts : List Token) (e : Tree) → IsIs n ts e → IsNot n ts e

  -- is := cmp [ IS [NOT] ( NULL | TRUE | FALSE | UNKNOWN | DISTINCT FROM cmp ) ]
  pub data IsIs : ℕ → List Token → Tree → Type 0 where
    a_cmp : (n : ℕ) (ts : List Token) (e : Tree) → IsCmp n ts e → IsIs n ts e
    tested : (n : ℕ) (ts : List Token) (e : Tree) (negated : Bool) (test : IsTest) → IsCmp n ts e → IsIs n (ts ++ (tokens.Is ∷ (maybe negated ++ asked_for test ∷ []))) (IsOf e negated test)
    distinct : (n : ℕ) (ts us : List Token) (e u : Tree) (negated : Bool) → IsCmp n ts e → IsCmp n us u → IsIs n (ts ++ (tokens.Is ∷ (maybe negated ++ (tokens.Distinct ∷ tokens.From ∷ us)))) (DistinctOf e negated u)

  -- cmp := range [ ( = | <> | != | < | <= | > | >= ) range ]
  pub data IsCmp : ℕ → List Token → Tree → Type 0 where
    a_range : (n : ℕ) (ts : List Token) (e : Tree) → IsRange n ts e → IsCmp n ts e
    compared : (n : ℕ) (ts us : List Token) (e u : Tree) (op : CmpOp) → IsRange n ts e → IsRange n us u → IsCmp n (ts ++ (tokens.Compare op ∷ us)) (Compared op e u)

  -- range := atom [ [NOT] IN ( atom { , atom } ) | [NOT] BETWEEN atom AND atom | [NOT] LIKE string ]
  pub data IsRange : ℕ → List Token → Tree → Type 0 where
    an_atom : (n : ℕ) (ts : List Token) (e : Tree) → IsAtom n ts e → IsRange n ts e
    within : (n : ℕ) (ts us vs : List Token) (e first : Tree) (others : List Tree) (negated : Bool) → IsAtom n ts e → IsAtom n us first → CommaAtoms n vs others
        → IsRange n (ts ++ (maybe negated ++ (tokens.In ∷ tokens.Open ∷ ((us ++ vs) ++ tokens.Close ∷ [])))) (WithinOf e negated (trees (first ∷ others)))
    between : (n : ℕ) (ts us vs : List Token) (e low high : Tree) (negated : Bool) → IsAtom n ts e → IsAtom n us low → IsAtom n vs high
        → IsRange n (ts ++ (maybe negated ++ (tokens.Between ∷ (us ++ (tokens.And ∷ vs))))) (BetweenOf e negated low high)
    like : (n : ℕ) (ts : List Token) (e : Tree) (negated : Bool) (pattern : List ℕ) → IsAtom n ts e → IsRange n (ts ++ (maybe negated ++ (tokens.Like ∷ tokens.Quoted pattern ∷ []))) (LikeOf e negated pattern)

  -- { , atom }
  pub data CommaAtoms : ℕ → List Token → List Tree → Type 0 where
    no_comma : (n : ℕ) → CommaAtoms n [] []
    more_comma : (n : ℕ) (ts us : List Token) (e : Tree) (es : List Tree) → IsAtom n ts e → CommaAtoms n us es → CommaAtoms n (tokens.Comma ∷ (ts ++ us)) (e ∷ es)

  -- atom := ( or ) | name | [-] integer | string | TRUE | FALSE | NULL; an integer with its sign lies in 64 signed bits
  pub data IsAtom : ℕ → List Token → Tree → Type 0 where
    group : (n : ℕ) (ts : List Token) (e : Tree) → IsOr n ts e → IsAtom (suc n) (tokens.Open ∷ (ts ++ tokens.Close ∷ [])) e
    name : (n : ℕ) (text : List ℕ) → IsAtom n (tokens.Name text ∷ []) (NameOf text)
    integer : (n m : ℕ) → m < 2 ^ 63 → IsAtom n (tokens.Digits m ∷ []) (IntOf (pos m))
    negative : (n m : ℕ) → m ≤ 2 ^ 63 → IsAtom n (tokens.Minus ∷ tokens.Digits m ∷ []) (IntOf (neg_ℤ (pos m)))
    string : (n : ℕ) (text : List ℕ) → IsAtom n (tokens.Quoted text ∷ []) (QuotedOf text)
    is_true : (n : ℕ) → IsAtom n (tokens.True ∷ []) (BoolOf true)
    is_false : (n : ℕ) → IsAtom n (tokens.False ∷ []) (BoolOf false)
    is_null : (n : ℕ) → IsAtom n (tokens.Null ∷ []) NullOf

-- the grammar by its alternatives is the grammar by which clauses are read
abbrev pub ByCases : Type 0
ByCases = (n : ℕ) (ts : List Token) (e : Tree) → (IsClause n ts e ↔ IsOr n ts e)
