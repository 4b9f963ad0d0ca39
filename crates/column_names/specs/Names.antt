-- Columns that share a name.
use Rattle.std.specs.Prelude.{Bool, false, ◌||◌, List, [], ◌∷◌, is_some}
use Rattle.shape_base.specs.declared.definition.Column.{Column}
use Rattle.shape_base.specs.Tables.{place_of}

-- a name of a column that a later column has too
abbrev pub has_name_twice : List Column → Bool
has_name_twice [] = false
has_name_twice (c ∷ cs) = is_some (place_of cs c.name) || has_name_twice cs
