-- What reading the next record gives.
use Rattle.std.specs.Prelude.{◌≡◌, ℕ, ◌+◌, List, [], ◌++◌, length, drop, Option, Some, None}
use Rattle.script.specs.declared.record.Item as raw
use Rattle.script.specs.Items.{item_at}
use Rattle.script.specs.Seen.{item_seen}

-- what was given in between
abbrev pub since : List ℕ → List ℕ → List ℕ
since given given' = drop (length given) given'

-- bytes went over from what is left to what was given, within a budget
pub record Consumes (given left : List ℕ) (budget : ℕ) (given' left' : List ℕ) (budget' : ℕ) : Type 0 where
  pub came : given' ≡ given ++ since given given'
  pub gone : left ≡ since given given' ++ left'
  pub size : budget ≡ length (since given given') + budget'

-- the piece is the next record; or it is no whole one, and no byte is left
abbrev pub IsNext : Option raw.Item → List ℕ → List ℕ → Type 0
IsNext None piece seen' = (item_at piece ≡ None) × (seen' ≡ [])
IsNext (Some r) piece seen' = (rest : List ℕ) → item_at (piece ++ rest) ≡ Some (item_seen r, rest)
