-- The column in a place.
use Rattle.std.specs.Prelude.{ℕ, List, [], slice_index_or}
use Rattle.shape_base.specs.declared.definition.Column.{Column}

abbrev pub column_in : List Column → ℕ → Column
column_in columns place = slice_index_or columns place (record { name = []; oid = 0 })
