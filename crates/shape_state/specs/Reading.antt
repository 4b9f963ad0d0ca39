-- What a shape goes by.
use Rattle.std.specs.Prelude.{ℕ, Bool}
use Rattle.shape_base.specs.declared.definition.TableDef.{TableDef}
use Rattle.shape_base.specs.declared.change.ChangeKind.{ChangeKind}
use Rattle.shape_base.specs.Tables.{Values, Own}
use Rattle.shape_base.specs.Shape.{Knows}
use Rattle.shape_json.specs.ShapeHistory.{Reader}

-- what a test of rows knows, and the columns that it cannot read
abbrev pub reader_of : Knows → (Values → ℕ → Bool) → Reader
reader_of s unread = record { knows = s; unread = unread }

-- change number j, which came under this definition
abbrev pub own_at : TableDef → ℕ → ChangeKind → Own
own_at d j kind = record { number = j; definition = d; kind = kind }
