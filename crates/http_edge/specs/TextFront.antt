-- Bytes in front of a text.
use Rattle.std.specs.Prelude.{ℕ, List, ◌++◌, IsUtf8}
use Rattle.httparse.specs.Grammar.{AllPass, is_uri_byte}

-- some bytes of a target can follow that make these a text
pub record BeginsText (bytes : List ℕ) : Type 0 where
  pub more : List ℕ
  pub of_target : AllPass is_uri_byte more
  pub text : IsUtf8 (bytes ++ more)

-- whatever follows, these begin no text
pub record BeginsNoText (bytes : List ℕ) : Type 0 where
  pub none : (more : List ℕ) → ¬ (IsUtf8 (bytes ++ more))
