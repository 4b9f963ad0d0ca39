-- Declared tables.
use Rattle.std.specs.Prelude.{ℕ, Bool, true, false, ◌==◌, if◌then◌else◌, List, [], ◌∷◌, length, Option, None, Some, Ok, slice_get}
use Rattle.std.specs.Option.{option_map, option_and_then}
use Rattle.std.specs.Int.{w16, w32}
use Rattle.byte_format.specs.Format.{Read, ◌>>=◌, number_at, times}
use Rattle.shape_base.specs.declared.definition.Column.{Column}
use Rattle.column_names.specs.Names.{has_name_twice}
use Rattle.script.specs.Texts.{text_at}
use Rattle.script.specs.Rows.{columns_at}
use Rattle.script.specs.declared.table.Declaration.{Declaration}
use Rattle.script.specs.declared.table.Placed.{Placed}

-- Int16 count, and that many places of Int16
abbrev pub places_at : List ℕ → Read (List ℕ)
places_at bytes = number_at w16 bytes >>= λ n. times (number_at w16) n.0 n.1

-- String namespace, String name, Int32 OID, the columns, and the places of the key's
abbrev pub placed_at : List ℕ → Read Placed
placed_at bytes = text_at bytes >>= λ ns. text_at ns.1 >>= λ name. number_at w32 name.1 >>= λ oid. columns_at oid.1 >>= λ columns. places_at columns.1 >>= λ key.
    Ok (record { ns = ns.0; name = name.0; oid = oid.0; columns = columns.0; key = key.0 }, key.1)

abbrev pub before : Option Column → Option (List Column) → Option (List Column)
before None cs = None
before (Some c) cs = option_map (λ others. c ∷ others) cs

-- the columns in these places, where each place is in range
abbrev pub picked : List Column → List ℕ → Option (List Column)
picked columns [] = Some []
picked columns (p ∷ ps) = before (slice_get columns p) (picked columns ps)

-- a key has a column, and none twice
abbrev pub is_key : List Column → Bool
is_key key = if length key == 0 then false else if has_name_twice key then false else true

abbrev pub with_key : Placed → List Column → Option Declaration
with_key p key = if is_key key then Some (record { ns = p.ns; name = p.name; oid = p.oid; columns = p.columns; key = key }) else None

-- A declaration: no two columns have one name; the key has at least one column, each in range, and none twice.
unfoldable pub declared : Placed → Option Declaration
declared p = if has_name_twice p.columns then None else option_and_then (with_key p) (picked p.columns p.key)
