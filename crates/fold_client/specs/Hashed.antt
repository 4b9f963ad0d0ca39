-- The rows that a hash map has.
use Rattle.std.specs.Prelude.{List, String, map, string_bytes}
use Rattle.std.specs.HashMap.{HashMap}
use Rattle.std.specs.FinMap as fin
use Rattle.shape_base.specs.declared.entry.Cell.{Cell}
use Rattle.shape_base.specs.Shape.{Keyed, Map}

abbrev pub texts_of : {Y : Type 0} → List (String Y × List Cell) → List Keyed
texts_of = map (λ e. (string_bytes e.0, e.1))

-- the rows by their key texts
abbrev pub rows_in : {Y S : Type 0} → HashMap (String Y) (List Cell) S → Map
rows_in m = fin.from_entries (texts_of m.entries)
