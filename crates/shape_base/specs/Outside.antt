-- What calls on objects of the outside do.
use Rattle.std.specs.Prelude.{◌≡◌, ◌⊎◌, ℕ, ◌<◌, ◌≤◌, List, ◌++◌, length}

-- A count of faults rose: it is higher, or it is full.
abbrev pub Rose : ℕ → ℕ → Type 0
Rose before now = (before < now) ⊎ (now ≡ 18446744073709551615)

-- What is written now is what was, and a front of the piece.
pub record AddsFront (old new piece : List ℕ) : Type 0 where
  pub longer : length old ≤ length new
  pub more : List ℕ
  pub whole : new ++ more ≡ old ++ piece
