-- The rows and the relation that a message carries.
use Rattle.std.specs.Prelude.{ℕ, ◌+◌, ◌==◌, if◌then◌else◌, List, [], ◌∷◌, length, codes, Ok, Err, Option, None, Some, slice_get}
use Rattle.std.specs.Str.{is_utf8}
use Rattle.std.specs.Str.Lossy.{utf8_valid_len}
use Rattle.shape_base.specs.declared.value.Value.{Value}
use Rattle.shape_base.specs.declared.value.Value.TheVariants as values
use Rattle.shape_base.specs.declared.definition.Column.{Column}
use Rattle.shape_base.specs.Tables.{Values}
use Rattle.pgout.specs.declared.message.Field.{Field}
use Rattle.pgout.specs.declared.message.Field.TheVariants.{Null, Unsent, Chars, Binary}
use Rattle.pgout.specs.declared.message.ColumnSent.{ColumnSent}
use Rattle.relation_cache.specs.declared.relation.Relation.{Relation}
use Rattle.tx_assembler.specs.declared.answer.AssembleError.TheVariants as errors
use Rattle.tx_assembler.specs.Answers.{Answer, next}

-- bytes that are UTF-8; or else the length of their longest prefix that is
abbrev pub text_of : List ℕ → Answer (List ℕ)
text_of bytes = if is_utf8 bytes then Ok bytes else Err (errors.NotUtf8 (utf8_valid_len bytes))

-- an unsent value is the one that the row had before, where it had one
abbrev pub value_before : ℕ → Option Value → Answer Value
value_before column None = Err (errors.UnsentValue column)
value_before column (Some value) = Ok value

-- the value of a field, where the row before it had these values
abbrev pub value_of : Values → ℕ → Field → Answer Value
value_of before column Null = Ok values.Null
value_of before column Unsent = value_before column (slice_get before column)
value_of before column (Chars bytes) = next (text_of bytes) (λ text. Ok (values.Words text))
value_of before column (Binary bytes) = Err (errors.BinaryColumn column)

-- the values of fields, column by column from this one on
abbrev pub values_of : Values → ℕ → List Field → Answer Values
values_of before column [] = Ok []
values_of before column (f ∷ fs) = next (value_of before column f) (λ v. next (values_of before (column + 1) fs) (λ vs. Ok (v ∷ vs)))

-- a row as wide as its relation; an inserted row and an old row have none before them
abbrev pub row_of : ℕ → Values → List Field → Answer Values
row_of width before fields = if length fields == width then values_of before 0 fields else Err (errors.WrongWidth (length fields) width)

-- an empty namespace stands for the catalogue's
abbrev pub namespace_of : List ℕ → List ℕ
namespace_of [] = codes "pg_catalog"
namespace_of (b ∷ bytes) = b ∷ bytes

abbrev pub columns_of : List ColumnSent → Answer (List Column)
columns_of [] = Ok []
columns_of (c ∷ cs) = next (text_of c.name) (λ name. next (columns_of cs) (λ made. Ok (record { name = name; oid = c.oid } ∷ made)))

-- the relation that a Relation message describes
abbrev pub relation_of : ℕ → List ℕ → List ℕ → List ColumnSent → Answer Relation
relation_of oid ns name columns = next (text_of (namespace_of ns)) (λ ns. next (text_of name) (λ name. next (columns_of columns) (λ made. Ok (record { oid = oid; ns = ns; name = name; columns = made }))))
