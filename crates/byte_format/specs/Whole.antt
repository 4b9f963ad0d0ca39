-- Bytes that hold one value and nothing after it.
use Rattle.std.specs.Prelude.{◌≡◌, ℕ, List, ◌∷◌, ◌++◌, length, Result, Ok, Err, ◌==◌, if◌then◌else◌}
use Rattle.byte_format.specs.Format.{Format, ◌>>=◌}

-- nothing after it
abbrev pub ended : {A : Type 0} → A × List ℕ → Result A ℕ
ended x = if length x.1 == 0 then Ok x.0 else Err (length x.1)

-- all of the bytes, read as one value
abbrev pub whole : {A : Type 0} → Format A → List ℕ → Result A ℕ
whole f bytes = f.read bytes >>= ended

-- Up to this place the bytes begin a value's spelling. With the byte that stands there none begins so.
pub record IsFirstWrong {A : Type 0} (f : Format A) (bytes : List ℕ) (place : ℕ) : Type 0 where
  pub good : List ℕ
  pub wrong : List ℕ
  pub parts : bytes ≡ good ++ wrong
  pub at : length good ≡ place
  pub value : A
  pub more : List ℕ
  pub fits : f.Fits value
  pub begins : f.spell value ≡ good ++ more
  pub none : (b : ℕ) (bs : List ℕ) → wrong ≡ b ∷ bs → (x : A) (tail : List ℕ) → f.Fits x → f.spell x ≡ good ++ b ∷ tail → ⊥
