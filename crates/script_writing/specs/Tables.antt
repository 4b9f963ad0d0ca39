-- Declared tables as bytes.
use Rattle.std.specs.Prelude.{ℕ, Bool, false, ◌&&◌, ◌==◌, not, List, [], length, Option, None, Some, slice_get}
use Rattle.shape_base.specs.declared.definition.Column.{Column}
use Rattle.shape_base.specs.Tables.{place_of}
use Rattle.column_names.specs.Names.{has_name_twice}
use Rattle.script.specs.Tables.{is_key}
use Rattle.script.specs.declared.table.Declaration.{Declaration}
use Rattle.script_writing.specs.Parts.{Spelling, ◌&◌, only_if, int16, int32, text, all, short_list, column}

-- there is a column, and its type is this one
abbrev pub has_type : Option Column → ℕ → Bool
has_type None oid = false
has_type (Some c) oid = c.oid == oid

-- a column of the key by its place, where the table has it there
abbrev pub placed : List Column → Column → Option ℕ → Spelling
placed columns k None = record { bytes = []; fits = false }
placed columns k (Some place) = only_if (has_type (slice_get columns place) k.oid) (int16 place)

-- by the place of the first column of its name
abbrev pub key_column : List Column → Column → Spelling
key_column columns k = placed columns k (place_of columns k.name)

-- Int16 count of the key's columns, and the Int16 place of each
abbrev pub key_places : List Column → List Column → Spelling
key_places columns key = int16 (length key) & all (key_column columns) key

-- no two columns have one name; the key has a column, and none twice
abbrev pub is_declared : Declaration → Bool
is_declared d = not (has_name_twice d.columns) && is_key d.key

-- String namespace, String name, Int32 OID, the columns, and the places of the key's
abbrev pub table : Declaration → Spelling
table d = only_if (is_declared d) (text d.ns & text d.name & int32 d.oid & short_list column d.columns & key_places d.columns d.key)
