-- What readers of bytes return, as definitions see it.
use Rattle.std.specs.Prelude.{◌≡◌, ℕ, List, map, Option, Some, None}
use Rattle.std.specs.Borrow.{Bor}
use Rattle.std.specs.Str.{IsUtf8}
use Rattle.where_lexer.specs.Lexing.{Scanned}
use Rattle.where_lexer.specs.declared.token.Token.{Token}

abbrev pub text_seen : Option (List ℕ × Bor (List ℕ)) → Option (List ℕ × List ℕ)
text_seen None = None
text_seen (Some x) = Some (x.0, x.1.now)

abbrev pub RestIsUtf8 : {A : Type 0} → Option (A × Bor (List ℕ)) → Type 0
RestIsUtf8 None = Unit {0}
RestIsUtf8 (Some x) = IsUtf8 x.1.now

abbrev pub token_seen : Option (Token × Bor (List ℕ)) → Option (Token × List ℕ)
token_seen None = None
token_seen (Some x) = Some (x.0, x.1.now)

-- these are the tokens, their places and the place of the end
pub record IsLexed (s : Scanned) (tokens : List Token) (lefts : List ℕ) (left : ℕ) : Type 0 where
  pub tokens_are : tokens ≡ map (λ p. p.token) s.tokens
  pub lefts_are : lefts ≡ map (λ p. p.left) s.tokens
  pub left_is : left ≡ s.left
