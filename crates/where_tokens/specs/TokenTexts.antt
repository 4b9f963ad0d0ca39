-- Which bytes a token has, and what may not stand right behind them.
use Rattle.std.specs.Prelude.{◌≡◌, ◌↔◌, ℕ, List, [], ◌∷◌, ◌++◌, Bool, true, false, Option, Some, nat_eq}
use Rattle.std.specs.Char.{is_ascii_digit}
use Rattle.where_lexer.specs.declared.token.CmpOp.TheVariants as ops
use Rattle.where_lexer.specs.declared.token.Token.{Token}
use Rattle.where_lexer.specs.declared.token.Token.TheVariants as tokens
use Rattle.where_lexer.specs.Classes.{PassAll}
use Rattle.where_lexer.specs.Lexing.{begins_word, goes_word, is_space, word, number, past, token_at, scan_with, scanned}
use Rattle.where_lexer.specs.Texts.{doubled}

-- the bytes do not begin with one that passes
abbrev pub NotFirst : (ℕ → Bool) → List ℕ → Type 0
NotFirst test [] = Unit {0}
NotFirst test (b ∷ bs) = test b ≡ false

abbrev pub is_byte : ℕ → ℕ → Bool
is_byte k b = nat_eq b k

-- these bytes, before the rest, are this token
pub data Stands : List ℕ → Token → List ℕ → Type 0 where
  -- a keyword in any case, or a name in lower case: a letter, `_` or a byte from 0x80, then also digits and `$`
  a_word : (b : ℕ) (bs rest : List ℕ) → begins_word b ≡ true → PassAll goes_word bs → NotFirst goes_word rest → Stands (b ∷ bs) (word (b ∷ bs)) rest
  an_integer : (d : ℕ) (ds rest : List ℕ) → PassAll is_ascii_digit (d ∷ ds) → NotFirst is_ascii_digit rest → Stands (d ∷ ds) (number (d ∷ ds)) rest
  -- between double quotes, each inside twice, and not empty
  a_name : (b : ℕ) (bs rest : List ℕ) → NotFirst (is_byte 34) rest → Stands (34 ∷ (doubled 34 (b ∷ bs) ++ 34 ∷ [])) (tokens.Name (b ∷ bs)) rest
  -- between single quotes, each inside twice
  a_string : (bs rest : List ℕ) → NotFirst (is_byte 39) rest → Stands (39 ∷ (doubled 39 bs ++ 39 ∷ [])) (tokens.Quoted bs) rest
  opening : (rest : List ℕ) → Stands (40 ∷ []) tokens.Open rest
  closing : (rest : List ℕ) → Stands (41 ∷ []) tokens.Close rest
  comma : (rest : List ℕ) → Stands (44 ∷ []) tokens.Comma rest
  minus : (rest : List ℕ) → Stands (45 ∷ []) tokens.Minus rest
  equal : (rest : List ℕ) → Stands (61 ∷ []) (tokens.Compare ops.Eq) rest
  differs : (rest : List ℕ) → Stands (60 ∷ 62 ∷ []) (tokens.Compare ops.Ne) rest
  differs_too : (rest : List ℕ) → Stands (33 ∷ 61 ∷ []) (tokens.Compare ops.Ne) rest
  less : (rest : List ℕ) → NotFirst (is_byte 61) rest → NotFirst (is_byte 62) rest → Stands (60 ∷ []) (tokens.Compare ops.Lt) rest
  less_equal : (rest : List ℕ) → Stands (60 ∷ 61 ∷ []) (tokens.Compare ops.Le) rest
  greater : (rest : List ℕ) → NotFirst (is_byte 61) rest → Stands (62 ∷ []) (tokens.Compare ops.Gt) rest
  greater_equal : (rest : List ℕ) → Stands (62 ∷ 61 ∷ []) (tokens.Compare ops.Ge) rest

-- this token stands at the front of the bytes, before the rest
pub record IsAt (bytes : List ℕ) (t : Token) (rest : List ℕ) : Type 0 where
  pub front : List ℕ
  pub cut : bytes ≡ front ++ rest
  pub stands : Stands front t rest

abbrev pub found : Token → List ℕ → Option (Token × List ℕ)
found t rest = Some (t, rest)

-- what the lexer finds at a place is what stands there
abbrev pub TokenStands : Type 0
TokenStands = (bytes : List ℕ) (t : Token) (rest : List ℕ) → ((token_at bytes ≡ found t rest) ↔ IsAt bytes t rest)

-- White space, a token, and so on behind it; no bound on the steps is ever met.
abbrev pub ScanSteps : Type 0
ScanSteps = (bytes : List ℕ) → scanned bytes ≡ scan_with (λ rest. scanned rest) (past is_space bytes) (token_at (past is_space bytes))
