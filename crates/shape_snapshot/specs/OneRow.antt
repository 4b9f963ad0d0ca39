-- The entry of one row.
use Rattle.std.specs.Prelude.{◌≡◌, ℕ, true, false, Option, None, Some}
use Rattle.shape_base.specs.declared.entry.Entry.{Entry}
use Rattle.shape_base.specs.Tables.{Values}
use Rattle.shape_base.specs.Shape.{Knows, keyed, picks, insert_at}

-- The insert at that place of a selected row, and none of another.
abbrev pub IsEntryOf : Knows → Values → ℕ → Option Entry → Type 0
IsEntryOf s row pos None = picks s row ≡ false
IsEntryOf s row pos (Some e) = (picks s row ≡ true) × (e ≡ insert_at 0 pos (keyed s row))
