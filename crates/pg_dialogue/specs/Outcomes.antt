-- What the calls of a dialogue answer, by what the client makes of what the server says.
use Rattle.std.specs.Prelude.{◌≡◌, ℕ, List, Option, None, Some, Result, Ok, Err}
use Rattle.shape_base.specs.declared.value.Value as values
use Rattle.pg_dialogue.specs.declared.login.SnapHead.{SnapHead}
use Rattle.pg_dialogue.specs.declared.wire_error.WireError.{WireError}
use Rattle.pg_dialogue.specs.declared.wanted.Told.{Told}
use Rattle.pg_dialogue.specs.declared.wanted.Wanted.TheVariants.{TableRow, Ready}
use Rattle.pg_dialogue.specs.Messages.{Said}
use Rattle.pg_dialogue.specs.Dialogue.{Heard, Met, met, Ends}
use Rattle.pg_dialogue.specs.Dialogues.{nothing_told, next_row}
use Rattle.pg_dialogue.specs.Links.{to_come, Takes}

-- a dialogue that was given so many bytes, and what the snapshot says before its rows; no byte more was taken
abbrev pub Begins : Result (ℕ × SnapHead) WireError → Heard → List ℕ → Type 0
Begins (Ok x) heard left = (told : Told) × (told.head ≡ x.1) × (heard ≡ Met told x.0 (to_come x.0 left))
Begins (Err error) heard left = Ends error heard

-- the next message is this row
pub record IsRow (said : Said) (row : List values.Value) (place : ℕ) (rest : Said) : Type 0 where
  pub told : Told
  pub heard : met said TableRow nothing_told ≡ Met told place rest
  pub is : told.row ≡ Some row

-- the next message is the end of the rows, and then the server is ready for the next query
pub record IsEnd (said : Said) (place : ℕ) (rest : Said) : Type 0 where
  pub told : Told
  pub behind : ℕ
  pub others : Said
  pub heard : met said TableRow nothing_told ≡ Met told behind others
  pub none : told.row ≡ None
  pub last : Told
  pub ready : met others Ready told ≡ Met last place rest

-- a row, or that the rows ended
abbrev pub Continues : Result (Option (List values.Value)) WireError → Said → ℕ → List ℕ → Type 0
Continues (Ok (Some row)) said place left = IsRow said row place (to_come place left)
Continues (Ok None) said place left = IsEnd said place (to_come place left)
Continues (Err error) said place left = Ends error (next_row said)

-- the rows ended
abbrev pub RunsOut : Result (Unit {0}) WireError → Heard → ℕ → List ℕ → Type 0
RunsOut (Ok x) heard place left = (told : Told) × (heard ≡ Met told place (to_come place left))
RunsOut (Err error) heard place left = Ends error heard

-- all that was waited for came, at a place behind which no byte was taken
pub record IsOver (heard : Heard) (told : Told) (given left : List ℕ) (place : ℕ) (given' left' : List ℕ) : Type 0 where
  pub place' : ℕ
  pub met : heard ≡ Met told place' (to_come place' left')
  pub took : Takes given left place given' left' place'

-- the end of a dialogue that answers nothing
abbrev pub Finishes : Result (Unit {0}) WireError → Heard → List ℕ → List ℕ → ℕ → List ℕ → List ℕ → Type 0
Finishes (Ok x) heard given left place given' left' = (told : Told) × IsOver heard told given left place given' left'
Finishes (Err error) heard given left place given' left' = Ends error heard

-- the description of a table
abbrev pub Describes : Result SnapHead WireError → Heard → List ℕ → List ℕ → List ℕ → List ℕ → Type 0
Describes (Ok head) heard given left given' left' = (told : Told) × (told.head ≡ head) × IsOver heard told given left 0 given' left'
Describes (Err error) heard given left given' left' = Ends error heard
