-- What scanning finds are tokens that some text has.
use Rattle.std.proofs.Common.{◌<◌, ◌^◌, ◌-◌, ℕ, zero, suc, min, List, [], ◌∷◌, length, Bool, true, false, cond, Option, Some, None, nat_eq, arith}
use Rattle.std.specs.Char.{is_ascii_digit}
use Rattle.std.specs.Str.{str_eq_ignore_ascii_case, str_to_ascii_lowercase}
use Rattle.std.specs.Str.Parse.{digits_value}
use Rattle.where_lexer.specs.declared.token.CmpOp.TheVariants as ops
use Rattle.where_lexer.specs.declared.token.Token.{Token}
use Rattle.where_lexer.specs.declared.token.Token.TheVariants as tokens
use Rattle.where_lexer.specs.Lexing.{is_space, begins_word, goes_word, run, past, word, number, unquoted, name_before, named, texted, less, greater, differs, sign, token_at, scan_with, scan, scanned}
use Rattle.where_lexer.specs.Texts.{IsToken, AreTokens, tokens_of}

abbrev pub Fine : Option (Token × List ℕ) → Type 0
Fine None = Unit {0}
Fine (Some x) = IsToken x.0

pub words_are : (c1 c2 c3 c4 c5 c6 c7 c8 c9 c10 c11 c12 c13 : Bool) (name : List ℕ) → IsToken (tokens.Name name) → IsToken (cond c1 tokens.And (cond c2 tokens.Or (cond c3 tokens.Not (cond c4 tokens.Is (cond c5 tokens.Null (cond c6 tokens.True (cond c7 tokens.False (cond c8 tokens.Unknown (cond c9 tokens.Distinct (cond c10 tokens.From (cond c11 tokens.In (cond c12 tokens.Between (cond c13 tokens.Like (tokens.Name name))))))))))))))
words_are true c2 c3 c4 c5 c6 c7 c8 c9 c10 c11 c12 c13 name h = tt
words_are false true c3 c4 c5 c6 c7 c8 c9 c10 c11 c12 c13 name h = tt
words_are false false true c4 c5 c6 c7 c8 c9 c10 c11 c12 c13 name h = tt
words_are false false false true c5 c6 c7 c8 c9 c10 c11 c12 c13 name h = tt
words_are false false false false true c6 c7 c8 c9 c10 c11 c12 c13 name h = tt
words_are false false false false false true c7 c8 c9 c10 c11 c12 c13 name h = tt
words_are false false false false false false true c8 c9 c10 c11 c12 c13 name h = tt
words_are false false false false false false false true c9 c10 c11 c12 c13 name h = tt
words_are false false false false false false false false true c10 c11 c12 c13 name h = tt
words_are false false false false false false false false false true c11 c12 c13 name h = tt
words_are false false false false false false false false false false true c12 c13 name h = tt
words_are false false false false false false false false false false false true c13 name h = tt
words_are false false false false false false false false false false false false true name h = tt
words_are false false false false false false false false false false false false false name h = h

pub word_is : (b : ℕ) (bs : List ℕ) → IsToken (word (b ∷ bs))
unfolding word
word_is b bs =
    let k = λ (w : List ℕ). str_eq_ignore_ascii_case (b ∷ bs) w in
    words_are (k (97 ∷ 110 ∷ 100 ∷ [])) (k (111 ∷ 114 ∷ [])) (k (110 ∷ 111 ∷ 116 ∷ [])) (k (105 ∷ 115 ∷ [])) (k (110 ∷ 117 ∷ 108 ∷ 108 ∷ [])) (k (116 ∷ 114 ∷ 117 ∷ 101 ∷ [])) (k (102 ∷ 97 ∷ 108 ∷ 115 ∷ 101 ∷ [])) (k (117 ∷ 110 ∷ 107 ∷ 110 ∷ 111 ∷ 119 ∷ 110 ∷ [])) (k (100 ∷ 105 ∷ 115 ∷ 116 ∷ 105 ∷ 110 ∷ 99 ∷ 116 ∷ [])) (k (102 ∷ 114 ∷ 111 ∷ 109 ∷ [])) (k (105 ∷ 110 ∷ [])) (k (98 ∷ 101 ∷ 116 ∷ 119 ∷ 101 ∷ 101 ∷ 110 ∷ [])) (k (108 ∷ 105 ∷ 107 ∷ 101 ∷ [])) (str_to_ascii_lowercase (b ∷ bs)) tt

pub number_is : (ds : List ℕ) → IsToken (number ds)
unfolding number
number_is ds = least (digits_value 10 ds) where
  least : (v : ℕ) → min v (2 ^ 64 - 1) < 2 ^ 64
  least v = omega arith

pub name_fine : (name rest : List ℕ) → Fine (name_before name rest)
name_fine [] rest = tt
name_fine (b ∷ bs) rest = tt

pub named_fine : (o : Option (List ℕ × List ℕ)) → Fine (named o)
named_fine None = tt
named_fine (Some x) = name_fine x.0 x.1

pub texted_fine : (o : Option (List ℕ × List ℕ)) → Fine (texted o)
texted_fine None = tt
texted_fine (Some x) = tt

pub less_fine : (bs : List ℕ) → Fine (less bs)
less_fine [] = tt
less_fine (b ∷ bs) = by (nat_eq b 61) (nat_eq b 62) where
  by : (c d : Bool) → Fine (cond c (Some (tokens.Compare ops.Le, bs)) (cond d (Some (tokens.Compare ops.Ne, bs)) (Some (tokens.Compare ops.Lt, b ∷ bs))))
  by true d = tt
  by false true = tt
  by false false = tt

pub greater_fine : (bs : List ℕ) → Fine (greater bs)
greater_fine [] = tt
greater_fine (b ∷ bs) = by (nat_eq b 61) where
  by : (c : Bool) → Fine (cond c (Some (tokens.Compare ops.Ge, bs)) (Some (tokens.Compare ops.Gt, b ∷ bs)))
  by true = tt
  by false = tt

pub differs_fine : (bs : List ℕ) → Fine (differs bs)
differs_fine [] = tt
differs_fine (b ∷ bs) = by (nat_eq b 61) where
  by : (c : Bool) → Fine (cond c (Some (tokens.Compare ops.Ne, bs)) None)
  by true = tt
  by false = tt

pub sign_fine : (b : ℕ) (bs : List ℕ) → Fine (sign b bs)
unfolding sign
sign_fine b bs = by (nat_eq b 40) (nat_eq b 41) (nat_eq b 44) (nat_eq b 45) (nat_eq b 61) (nat_eq b 60) (nat_eq b 62) (nat_eq b 33) (less bs) (greater bs) (differs bs) (less_fine bs) (greater_fine bs) (differs_fine bs) where
  by : (c1 c2 c3 c4 c5 c6 c7 c8 : Bool) (x y z : Option (Token × List ℕ)) → Fine x → Fine y → Fine z → Fine (cond c1 (Some (tokens.Open, bs)) (cond c2 (Some (tokens.Close, bs)) (cond c3 (Some (tokens.Comma, bs)) (cond c4 (Some (tokens.Minus, bs)) (cond c5 (Some (tokens.Compare ops.Eq, bs)) (cond c6 x (cond c7 y (cond c8 z None))))))))
  by true c2 c3 c4 c5 c6 c7 c8 x y z h k l = tt
  by false true c3 c4 c5 c6 c7 c8 x y z h k l = tt
  by false false true c4 c5 c6 c7 c8 x y z h k l = tt
  by false false false true c5 c6 c7 c8 x y z h k l = tt
  by false false false false true c6 c7 c8 x y z h k l = tt
  by false false false false false true c7 c8 x y z h k l = h
  by false false false false false false true c8 x y z h k l = k
  by false false false false false false false true x y z h k l = l
  by false false false false false false false false x y z h k l = tt

pub token_fine : (bytes : List ℕ) → Fine (token_at bytes)
unfolding token_at
token_fine [] = tt
token_fine (b ∷ bs) = by (begins_word b) (is_ascii_digit b) (nat_eq b 34) (nat_eq b 39) (Some (word (b ∷ run goes_word bs), past goes_word bs)) (Some (number (b ∷ run is_ascii_digit bs), past is_ascii_digit bs)) (named (unquoted 34 false bs)) (texted (unquoted 39 false bs)) (sign b bs)
    (word_is b (run goes_word bs)) (number_is (b ∷ run is_ascii_digit bs)) (named_fine (unquoted 34 false bs)) (texted_fine (unquoted 39 false bs)) (sign_fine b bs)
  where
    by : (c1 c2 c3 c4 : Bool) (v w x y z : Option (Token × List ℕ)) → Fine v → Fine w → Fine x → Fine y → Fine z → Fine (cond c1 v (cond c2 w (cond c3 x (cond c4 y z))))
    by true c2 c3 c4 v w x y z g h i j k = g
    by false true c3 c4 v w x y z g h i j k = h
    by false false true c4 v w x y z g h i j k = i
    by false false false true v w x y z g h i j k = j
    by false false false false v w x y z g h i j k = k

pub scan_fine : (n : ℕ) (bytes : List ℕ) → AreTokens (tokens_of (scan n bytes))
unfolding scan
scan_fine zero bytes = tt
scan_fine (suc n) bytes = by (λ rest. scan_fine n rest) (past is_space bytes) (token_at (past is_space bytes)) (token_fine (past is_space bytes)) where
  by : ((rest : List ℕ) → AreTokens (tokens_of (scan n rest))) → (front : List ℕ) (o : Option (Token × List ℕ)) → Fine o → AreTokens (tokens_of (scan_with (λ rest. scan n rest) front o))
  by ih front None h = tt
  by ih front (Some x) h = (h, ih x.1)

-- each token of a text is one that some text has
pub scanned_tokens : (text : List ℕ) → AreTokens (tokens_of (scanned text))
scanned_tokens text = scan_fine (suc (length text)) text
