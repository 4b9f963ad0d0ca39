-- The changes of a commit.
use Rattle.std.specs.Prelude.{ℕ}
use Rattle.shape_base.specs.declared.definition.TableDef.{TableDef}
use Rattle.shape_base.specs.declared.change.ChangeKind.{ChangeKind}
use Rattle.shape_base.specs.Tables.{Own}

-- change number j, which came under this definition
abbrev pub own_at : TableDef → ℕ → ChangeKind → Own
own_at d j kind = record { number = j; definition = d; kind = kind }
