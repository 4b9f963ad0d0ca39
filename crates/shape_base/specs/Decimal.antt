-- Texts in two parts.
use Rattle.std.specs.Prelude.{◌≡◌, ◌≢◌, ℕ, List, ◌∷◌, ◌++◌}
use Rattle.std.specs.List.{AllByRecursion}

-- no byte has this value
abbrev pub LacksByte : ℕ → List ℕ → Type 0
LacksByte separator bytes = AllByRecursion (λ byte. byte ≢ separator) bytes

-- the parts before and after the first byte of this value
pub record IsSplit (separator : ℕ) (bytes before after : List ℕ) : Type 0 where
  pub whole : bytes ≡ before ++ separator ∷ after
  pub first : LacksByte separator before
