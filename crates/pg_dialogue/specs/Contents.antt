-- What messages of the server hold (PostgreSQL manual, 55.7 Message Formats).
use Rattle.std.specs.Prelude.{ℕ, ◌*◌, ◌<◌, Bool, false, List, [], ◌∷◌, ◌++◌, length, take, drop, nat_lt, ◌==◌, if◌then◌else◌, Ok, Err}
use Rattle.std.specs.List.{AllByRecursion}
use Rattle.std.specs.Int.{w16, w32, to_be_bytes, from_be_bytes}
use Rattle.byte_format.specs.Format.{Format, Read, ◌>>=◌, number_at, int16, int32, string, counted, named, ◌&◌}
use Rattle.pg_dialogue.specs.declared.contents.Field.{Field}
use Rattle.pg_dialogue.specs.declared.contents.Sent.{Sent}
use Rattle.pg_dialogue.specs.declared.contents.Sent.TheVariants.{Null, Chars}

abbrev pub Parts : Type 0
Parts = List ℕ × (ℕ × (ℕ × (ℕ × (ℕ × (ℕ × ℕ)))))

abbrev pub field_of : Parts → Field
field_of x = record { name = x.0; table = x.1.0; attribute = x.1.1.0; oid = x.1.1.1.0; size = x.1.1.1.1.0; modifier = x.1.1.1.1.1.0; format = x.1.1.1.1.1.1 }

abbrev pub parts_of : Field → Parts
parts_of f = (f.name, (f.table, (f.attribute, (f.oid, (f.size, (f.modifier, f.format))))))

-- Int32 OID of a column's type, Int16 size of the type, Int32 type modifier, Int16 format: 0 for text.
abbrev pub column_type : Format (ℕ × (ℕ × (ℕ × ℕ)))
column_type = int32 & int16 & int32 & int16

abbrev pub type_of : Field → ℕ × (ℕ × (ℕ × ℕ))
type_of f = (f.oid, (f.size, (f.modifier, f.format)))

-- RowDescription, a field: String name, Int32 OID of its table or 0, Int16 number of the column, and its type.
abbrev pub field : Format Field
field = named field_of parts_of (string & int32 & int16 & column_type)

-- RowDescription: Int16 number of fields, and the fields.
abbrev pub row_description : Format (List Field)
row_description = counted field

abbrev pub value_spell : Sent → List ℕ
value_spell Null = to_be_bytes w32 4294967295
value_spell (Chars text) = to_be_bytes w32 (length text) ++ text

abbrev pub value_with : ℕ × List ℕ → Read Sent
value_with n = if n.0 == 4294967295 then Ok (Null, n.1) else if nat_lt (length n.1) n.0 then Err 0 else Ok (Chars (take n.0 n.1), drop n.0 n.1)

abbrev pub ValueFits : Sent → Type 0
ValueFits Null = Unit {0}
ValueFits (Chars text) = (length text < 4294967295) × AllByRecursion (λ b. b < 256) text

-- DataRow, a value: Int32 length and that many bytes, or Int32 -1 for null.
abbrev pub value : Format Sent
value = record { spell = value_spell; read = λ bytes. number_at w32 bytes >>= value_with; Fits = ValueFits }

-- DataRow: Int16 number of values, and the values.
abbrev pub data_row : Format (List Sent)
data_row = counted value

-- CopyBothResponse: Int8 format, Int16 number of columns, and Int16 for the format of each.
abbrev pub is_copy_both : List ℕ → Bool
is_copy_both (format ∷ a ∷ b ∷ rest) = length rest == 2 * from_be_bytes w16 (a ∷ b ∷ [])
is_copy_both [] = false
is_copy_both (_ ∷ []) = false
is_copy_both (_ ∷ _ ∷ []) = false
