-- The tokens of a text, each with how many bytes stand from it on.
use Rattle.std.specs.Prelude.{ℕ, zero, suc, min, ◌-◌, ◌^◌, List, [], ◌∷◌, length, Bool, true, false, cond, Option, Some, None, nat_eq, nat_lt}
use Rattle.std.specs.Char.{is_ascii_alphabetic, is_ascii_digit}
use Rattle.std.specs.Str.{str_eq_ignore_ascii_case, str_to_ascii_lowercase}
use Rattle.std.specs.Str.Parse.{digits_value}
use Rattle.where_lexer.specs.declared.token.CmpOp.TheVariants as ops
use Rattle.where_lexer.specs.declared.token.Token.{Token}
use Rattle.where_lexer.specs.declared.token.Token.TheVariants as tokens

abbrev pub also : Bool → Bool → Bool
also b c = cond b true c

-- space, tab, line feed, carriage return, form feed
abbrev pub is_space : ℕ → Bool
is_space b = also (nat_eq b 32) (also (nat_eq b 9) (also (nat_eq b 10) (also (nat_eq b 13) (nat_eq b 12))))

-- a letter, `_` or a byte from 0x80
abbrev pub begins_word : ℕ → Bool
begins_word b = also (is_ascii_alphabetic b) (also (nat_eq b 95) (cond (nat_lt b 128) false true))

-- these, digits and `$`
abbrev pub goes_word : ℕ → Bool
goes_word b = also (begins_word b) (also (is_ascii_digit b) (nat_eq b 36))

-- the longest front of bytes that pass, and what comes after it
unfoldable pub run : (ℕ → Bool) → List ℕ → List ℕ
run test [] = []
run test (b ∷ bs) = cond (test b) (b ∷ run test bs) []

unfoldable pub past : (ℕ → Bool) → List ℕ → List ℕ
past test [] = []
past test (b ∷ bs) = cond (test b) (past test bs) (b ∷ bs)

-- a keyword in any case, or a name in lower case
unfoldable pub word : List ℕ → Token
word w =
    cond (str_eq_ignore_ascii_case w (97 ∷ 110 ∷ 100 ∷ [])) tokens.And
    (cond (str_eq_ignore_ascii_case w (111 ∷ 114 ∷ [])) tokens.Or
    (cond (str_eq_ignore_ascii_case w (110 ∷ 111 ∷ 116 ∷ [])) tokens.Not
    (cond (str_eq_ignore_ascii_case w (105 ∷ 115 ∷ [])) tokens.Is
    (cond (str_eq_ignore_ascii_case w (110 ∷ 117 ∷ 108 ∷ 108 ∷ [])) tokens.Null
    (cond (str_eq_ignore_ascii_case w (116 ∷ 114 ∷ 117 ∷ 101 ∷ [])) tokens.True
    (cond (str_eq_ignore_ascii_case w (102 ∷ 97 ∷ 108 ∷ 115 ∷ 101 ∷ [])) tokens.False
    (cond (str_eq_ignore_ascii_case w (117 ∷ 110 ∷ 107 ∷ 110 ∷ 111 ∷ 119 ∷ 110 ∷ [])) tokens.Unknown
    (cond (str_eq_ignore_ascii_case w (100 ∷ 105 ∷ 115 ∷ 116 ∷ 105 ∷ 110 ∷ 99 ∷ 116 ∷ [])) tokens.Distinct
    (cond (str_eq_ignore_ascii_case w (102 ∷ 114 ∷ 111 ∷ 109 ∷ [])) tokens.From
    (cond (str_eq_ignore_ascii_case w (105 ∷ 110 ∷ [])) tokens.In
    (cond (str_eq_ignore_ascii_case w (98 ∷ 101 ∷ 116 ∷ 119 ∷ 101 ∷ 101 ∷ 110 ∷ [])) tokens.Between
    (cond (str_eq_ignore_ascii_case w (108 ∷ 105 ∷ 107 ∷ 101 ∷ [])) tokens.Like
    (tokens.Name (str_to_ascii_lowercase w))))))))))))))

-- digits, where a number of 2 ^ 64 or more counts as the greatest
unfoldable pub number : List ℕ → Token
number ds = tokens.Digits (min (digits_value 10 ds) (2 ^ 64 - 1))

abbrev pub with_byte : ℕ → Option (List ℕ × List ℕ) → Option (List ℕ × List ℕ)
with_byte b None = None
with_byte b (Some x) = Some (b ∷ x.0, x.1)

-- what stands behind an opening quote, up to the closing one, and what comes after it; the flag says that a quote was read just before
unfoldable pub unquoted : ℕ → Bool → List ℕ → Option (List ℕ × List ℕ)
unquoted q false [] = None
unquoted q false (b ∷ bs) = cond (nat_eq b q) (unquoted q true bs) (with_byte b (unquoted q false bs))
unquoted q true [] = Some ([], [])
unquoted q true (b ∷ bs) = cond (nat_eq b q) (with_byte q (unquoted q false bs)) (Some ([], b ∷ bs))

-- a name is not empty
abbrev pub name_before : List ℕ → List ℕ → Option (Token × List ℕ)
name_before [] rest = None
name_before (b ∷ bs) rest = Some (tokens.Name (b ∷ bs), rest)

abbrev pub named : Option (List ℕ × List ℕ) → Option (Token × List ℕ)
named None = None
named (Some x) = name_before x.0 x.1

abbrev pub texted : Option (List ℕ × List ℕ) → Option (Token × List ℕ)
texted None = None
texted (Some x) = Some (tokens.Quoted x.0, x.1)

-- a sign, and the longest
abbrev pub less : List ℕ → Option (Token × List ℕ)
less [] = Some (tokens.Compare ops.Lt, [])
less (b ∷ bs) = cond (nat_eq b 61) (Some (tokens.Compare ops.Le, bs)) (cond (nat_eq b 62) (Some (tokens.Compare ops.Ne, bs)) (Some (tokens.Compare ops.Lt, b ∷ bs)))

abbrev pub greater : List ℕ → Option (Token × List ℕ)
greater [] = Some (tokens.Compare ops.Gt, [])
greater (b ∷ bs) = cond (nat_eq b 61) (Some (tokens.Compare ops.Ge, bs)) (Some (tokens.Compare ops.Gt, b ∷ bs))

abbrev pub differs : List ℕ → Option (Token × List ℕ)
differs [] = None
differs (b ∷ bs) = cond (nat_eq b 61) (Some (tokens.Compare ops.Ne, bs)) None

unfoldable pub sign : ℕ → List ℕ → Option (Token × List ℕ)
sign b bs =
    cond (nat_eq b 40) (Some (tokens.Open, bs))
    (cond (nat_eq b 41) (Some (tokens.Close, bs))
    (cond (nat_eq b 44) (Some (tokens.Comma, bs))
    (cond (nat_eq b 45) (Some (tokens.Minus, bs))
    (cond (nat_eq b 61) (Some (tokens.Compare ops.Eq, bs))
    (cond (nat_eq b 60) (less bs)
    (cond (nat_eq b 62) (greater bs)
    (cond (nat_eq b 33) (differs bs) None)))))))

-- the token that the bytes begin with, and the bytes after it
unfoldable pub token_at : List ℕ → Option (Token × List ℕ)
token_at [] = None
token_at (b ∷ bs) =
    cond (begins_word b) (Some (word (b ∷ run goes_word bs), past goes_word bs))
    (cond (is_ascii_digit b) (Some (number (b ∷ run is_ascii_digit bs), past is_ascii_digit bs))
    (cond (nat_eq b 34) (named (unquoted 34 false bs))
    (cond (nat_eq b 39) (texted (unquoted 39 false bs))
    (sign b bs))))

pub record Placed : Type 0 where
  pub token : Token
  -- how many bytes stand from it on
  pub left : ℕ

-- the tokens up to the text's end or the first byte that begins none, and how many bytes stand from there on
pub record Scanned : Type 0 where
  pub tokens : List Placed
  pub left : ℕ

abbrev pub scan_with : (List ℕ → Scanned) → List ℕ → Option (Token × List ℕ) → Scanned
scan_with next bytes None = record { tokens = []; left = length bytes }
scan_with next bytes (Some x) = let after = next x.1 in record { tokens = record { token = x.0; left = length bytes } ∷ after.tokens; left = after.left }

-- the number bounds how many are read
unfoldable pub scan : ℕ → List ℕ → Scanned
scan zero bytes = record { tokens = []; left = length bytes }
scan (suc n) bytes = scan_with (λ rest. scan n rest) (past is_space bytes) (token_at (past is_space bytes))

abbrev pub scanned : List ℕ → Scanned
scanned bytes = scan (suc (length bytes)) bytes
