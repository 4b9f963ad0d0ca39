-- What a map of the program contains.
use Rattle.std.specs.Prelude.{ℕ, List}
use Rattle.std.specs.BTreeMap.{BTreeMap}
use Rattle.std.specs.FinMap as fin
use Rattle.shape_base.specs.declared.entry.Cell.{Cell}
use Rattle.shape_base.specs.Shape.{Map}

-- the rows by their key texts
abbrev pub map_in : BTreeMap (List ℕ) (List Cell) → Map
map_in m = fin.from_entries m.entries
