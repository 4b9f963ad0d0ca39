-- The canonical text of tokens.
use Rattle.std.specs.Prelude.{◌≡◌, ◌<◌, ◌^◌, ℕ, List, [], ◌∷◌, ◌++◌, map, Bool, true, false, cond, nat_eq}
use Rattle.std.specs.Fmt.{decimal}
use Rattle.where_lexer.specs.declared.token.CmpOp.{CmpOp}
use Rattle.where_lexer.specs.declared.token.CmpOp.TheVariants as ops
use Rattle.where_lexer.specs.declared.token.Token.{Token}
use Rattle.where_lexer.specs.declared.token.Token.TheVariants as tokens
use Rattle.where_lexer.specs.Lexing.{Scanned, scanned}

-- each quote twice
abbrev pub doubled : ℕ → List ℕ → List ℕ
doubled q [] = []
doubled q (b ∷ bs) = cond (nat_eq b q) (q ∷ q ∷ doubled q bs) (b ∷ doubled q bs)

abbrev pub op_text : CmpOp → List ℕ
op_text ops.Eq = 61 ∷ []
op_text ops.Ne = 60 ∷ 62 ∷ []
op_text ops.Lt = 60 ∷ []
op_text ops.Le = 60 ∷ 61 ∷ []
op_text ops.Gt = 62 ∷ []
op_text ops.Ge = 62 ∷ 61 ∷ []

abbrev pub token_text : Token → List ℕ
token_text tokens.Open = 40 ∷ []
token_text tokens.Close = 41 ∷ []
token_text tokens.Comma = 44 ∷ []
token_text tokens.Minus = 45 ∷ []
token_text (tokens.Compare op) = op_text op
token_text tokens.And = 65 ∷ 78 ∷ 68 ∷ []
token_text tokens.Or = 79 ∷ 82 ∷ []
token_text tokens.Not = 78 ∷ 79 ∷ 84 ∷ []
token_text tokens.Is = 73 ∷ 83 ∷ []
token_text tokens.Null = 78 ∷ 85 ∷ 76 ∷ 76 ∷ []
token_text tokens.True = 84 ∷ 82 ∷ 85 ∷ 69 ∷ []
token_text tokens.False = 70 ∷ 65 ∷ 76 ∷ 83 ∷ 69 ∷ []
token_text tokens.Unknown = 85 ∷ 78 ∷ 75 ∷ 78 ∷ 79 ∷ 87 ∷ 78 ∷ []
token_text tokens.Distinct = 68 ∷ 73 ∷ 83 ∷ 84 ∷ 73 ∷ 78 ∷ 67 ∷ 84 ∷ []
token_text tokens.From = 70 ∷ 82 ∷ 79 ∷ 77 ∷ []
token_text tokens.In = 73 ∷ 78 ∷ []
token_text tokens.Between = 66 ∷ 69 ∷ 84 ∷ 87 ∷ 69 ∷ 69 ∷ 78 ∷ []
token_text tokens.Like = 76 ∷ 73 ∷ 75 ∷ 69 ∷ []
token_text (tokens.Name name) = 34 ∷ (doubled 34 name ++ 34 ∷ [])
token_text (tokens.Quoted text) = 39 ∷ (doubled 39 text ++ 39 ∷ [])
token_text (tokens.Digits n) = decimal n

-- one space between tokens, none inside parentheses, before a comma or after a minus sign
abbrev pub binds_right : Token → Bool
binds_right tokens.Open = true
binds_right tokens.Minus = true
binds_right t = false

abbrev pub binds_left : Token → Bool
binds_left tokens.Close = true
binds_left tokens.Comma = true
binds_left t = false

abbrev pub gap : Token → Token → List ℕ
gap t u = cond (binds_right t) [] (cond (binds_left u) [] (32 ∷ []))

abbrev pub text_after : Token → List Token → List ℕ
text_after t [] = []
text_after t (u ∷ ts) = gap t u ++ (token_text u ++ text_after u ts)

abbrev pub text_of : List Token → List ℕ
text_of [] = []
text_of (t ∷ ts) = token_text t ++ text_after t ts

-- the tokens that some text has
abbrev pub IsToken : Token → Type 0
IsToken (tokens.Name []) = ⊥
IsToken (tokens.Digits n) = n < 2 ^ 64
IsToken t = Unit {0}

abbrev pub AreTokens : List Token → Type 0
AreTokens [] = Unit {0}
AreTokens (t ∷ ts) = IsToken t × AreTokens ts

abbrev pub tokens_of : Scanned → List Token
tokens_of s = map (λ p. p.token) s.tokens

-- the canonical text of tokens has these tokens, to its end
abbrev pub TextAgain : Type 0
TextAgain = (ts : List Token) → AreTokens ts → (tokens_of (scanned (text_of ts)) ≡ ts) × ((scanned (text_of ts)).left ≡ 0)
