-- A canonical text as it is written, token by token.
use Rattle.std.specs.Prelude.{◌≡◌, ◌<◌, ℕ, List, [], ◌∷◌, ◌++◌, length, Bool, true, cond, Option, Some, None}
use Rattle.std.specs.Borrow.{Bor}
use Rattle.std.specs.Str.{IsUtf8}
use Rattle.where_lexer.specs.declared.token.Token.{Token}
use Rattle.where_lexer.specs.Texts.{doubled, token_text, binds_left, binds_right}

-- what is written, and whether the next token stands right behind it
pub record Written : Type 0 where
  pub text : List ℕ
  pub joins : Bool

abbrev pub blank : Written
blank = record { text = []; joins = true }

-- with one more piece, behind a space where neither side goes without
abbrev pub appended : Written → List ℕ → Bool → Bool → Written
appended w piece left right = record { text = w.text ++ (cond w.joins [] (cond left [] (32 ∷ [])) ++ piece); joins = right }

-- with one more token
abbrev pub put : Written → Token → Written
put w t = appended w (token_text t) (binds_left t) (binds_right t)

-- with these tokens
unfoldable pub with_tokens : Written → List Token → Written
with_tokens w [] = w
with_tokens w (t ∷ ts) = with_tokens (put w t) ts

-- up to a quote, with what stands behind it
pub record IsFront (q : ℕ) (rest front tail : List ℕ) : Type 0 where
  pub cut : doubled q rest ≡ front ++ (q ∷ q ∷ doubled q tail)
  pub front_utf8 : IsUtf8 front
  pub tail_utf8 : IsUtf8 tail
  pub shorter : length tail < length rest

abbrev pub IsRun : ℕ → List ℕ → List ℕ → Option (Bor (List ℕ)) → Type 0
IsRun q rest front None = (front ≡ doubled q rest) × IsUtf8 front
IsRun q rest front (Some tail) = IsFront q rest front tail.now
