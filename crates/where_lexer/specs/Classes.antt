use Rattle.std.specs.Prelude.{◌≡◌, List, [], ◌∷◌, ℕ, Bool, true, false, cond, nat_eq}
use Rattle.std.specs.Char.{is_ascii_digit}
use Rattle.where_lexer.specs.declared.class.Class.{Class}
use Rattle.where_lexer.specs.declared.class.Class.TheVariants as classes
use Rattle.where_lexer.specs.Lexing.{is_space, goes_word}

abbrev pub passes : Class → ℕ → Bool
passes classes.Space b = is_space b
passes classes.Word b = goes_word b
passes classes.Digit b = is_ascii_digit b

-- any byte but the quote
abbrev pub besides : ℕ → ℕ → Bool
besides q b = cond (nat_eq b q) false true

-- each byte passes
abbrev pub PassAll : (ℕ → Bool) → List ℕ → Type 0
PassAll test [] = Unit {0}
PassAll test (b ∷ bs) = (test b ≡ true) × PassAll test bs
