-- Columns and rows of a script.
use Rattle.std.specs.Prelude.{ℕ, if◌then◌else◌, ◌==◌, List, [], ◌∷◌, Ok, Err}
use Rattle.std.specs.Int.{w16, w32}
use Rattle.byte_format.specs.Format.{Read, ◌>>=◌, mapped, number_at, times}
use Rattle.shape_base.specs.declared.definition.Column.{Column}
use Rattle.shape_base.specs.declared.value.Value.{Value}
use Rattle.shape_base.specs.declared.value.Value.TheVariants.{Null, Words}
use Rattle.script.specs.Texts.{text_at, long_text_at}

-- a column: String name, Int32 OID of its type
abbrev pub column_at : List ℕ → Read Column
column_at bytes = text_at bytes >>= λ name. number_at w32 name.1 >>= λ oid. Ok (record { name = name.0; oid = oid.0 }, oid.1)

-- Int16 count, and that many columns
abbrev pub columns_at : List ℕ → Read (List Column)
columns_at bytes = number_at w16 bytes >>= λ n. times column_at n.0 n.1

-- behind its kind byte: `n` for null, `t` for a text
abbrev pub value_behind : ℕ → List ℕ → Read Value
value_behind b bytes = if b == 110 then Ok (Null, bytes) else if b == 116 then mapped Words (long_text_at bytes) else Err 0

abbrev pub value_at : List ℕ → Read Value
value_at [] = Err 0
value_at (b ∷ bytes) = value_behind b bytes

-- a row: Int16 count, and that many values
abbrev pub row_at : List ℕ → Read (List Value)
row_at bytes = number_at w16 bytes >>= λ n. times value_at n.0 n.1

-- Int32 count, and that many rows
abbrev pub rows_at : List ℕ → Read (List (List Value))
rows_at bytes = number_at w32 bytes >>= λ n. times row_at n.0 n.1
