-- What each message tells the client that waits for one (PostgreSQL manual, 55.2 Message Flow and 55.7 Message Formats).
use Rattle.std.specs.Prelude.{ℕ, List, [], ◌∷◌, length, map, Bool, not, ◌&&◌, ◌||◌, ◌==◌, if◌then◌else◌, Option, None, Some, Result, Ok, Err}
use Rattle.std.specs.List.{list_all}
use Rattle.std.specs.Str.{is_utf8}
use Rattle.byte_format.specs.Format.{Read, string, int32}
use Rattle.byte_format.specs.Whole.{whole}
use Rattle.pg_wire.specs.ErrorFields.{sqlstate_of}
use Rattle.shape_base.specs.declared.definition.Column.{Column}
use Rattle.shape_base.specs.declared.value.Value as values
use Rattle.shape_base.specs.declared.value.Value.TheVariants as value
use Rattle.pg_dialogue.specs.declared.wire_error.WireError.{WireError}
use Rattle.pg_dialogue.specs.declared.wire_error.WireError.TheVariants.{ErrorResponse, BadReply, AuthWanted, NotUtf8}
use Rattle.pg_dialogue.specs.declared.contents.Field.{Field}
use Rattle.pg_dialogue.specs.declared.contents.Sent.{Sent}
use Rattle.pg_dialogue.specs.declared.contents.Sent.TheVariants.{Null, Chars}
use Rattle.pg_dialogue.specs.declared.wanted.Wanted.{Wanted}
use Rattle.pg_dialogue.specs.declared.wanted.Wanted.TheVariants.{Authentication, Started, Completed, Ready, SnapshotColumn, SnapshotText, TableColumns, TableRow, CopyBoth}
use Rattle.pg_dialogue.specs.declared.wanted.News.{News}
use Rattle.pg_dialogue.specs.declared.wanted.News.TheVariants.{Acknowledged, Shown, Described, Row}
use Rattle.pg_dialogue.specs.Contents.{row_description, data_row, is_copy_both}

-- What a message tells, none where it is passed over; or why it is refused.
abbrev pub Reply : Type 0
Reply = Result (Option News) WireError

-- a message that cannot stand there
abbrev pub bad : ℕ → Reply
bad place = Err (BadReply place)

abbrev pub acknowledged_if : Bool → ℕ → Reply
acknowledged_if right place = if right then Ok (Some Acknowledged) else bad place

-- ---- each message

abbrev pub error_with : ℕ → Option (List ℕ) → WireError
error_with place (Some code) = if is_utf8 code then ErrorResponse code else BadReply place
error_with place None = BadReply place

-- ErrorResponse: its SQLSTATE, which has to be there and to be UTF-8
abbrev pub error_response : ℕ → List ℕ → WireError
error_response place payload = error_with place (sqlstate_of payload)

abbrev pub allowed : ℕ → Read ℕ → Reply
allowed place (Ok x) = if x.0 == 0 then acknowledged_if (length x.1 == 0) place else Err (AuthWanted x.0)
allowed place (Err left) = bad place

-- Authentication: Int32 code, 0 with nothing behind it where the client is let in; with any other code more is wanted of it
abbrev pub authentication : ℕ → ℕ → List ℕ → Reply
authentication place kind payload = if kind == 82 then allowed place (int32.read payload) else bad place

-- ReadyForQuery: one byte
abbrev pub ready : ℕ → ℕ → List ℕ → Reply
ready place kind payload = acknowledged_if (kind == 90 && length payload == 1) place

-- ReadyForQuery, before which BackendKeyData may stand
abbrev pub started : ℕ → ℕ → List ℕ → Reply
started place kind payload = if kind == 75 then Ok None else ready place kind payload

abbrev pub acknowledged_after : ℕ → Result (List ℕ) ℕ → Reply
acknowledged_after place (Ok tag) = Ok (Some Acknowledged)
acknowledged_after place (Err left) = bad place

-- CommandComplete: String tag
abbrev pub completed : ℕ → ℕ → List ℕ → Reply
completed place kind payload = if kind == 67 then acknowledged_after place (whole string payload) else bad place

abbrev pub is_name : Field → Bool
is_name f = is_utf8 f.name

abbrev pub one_column : ℕ → List Field → Reply
one_column place fields = if length fields == 1 then (if list_all is_name fields then Ok (Some Acknowledged) else Err (NotUtf8 place)) else bad place

abbrev pub fields_with : (ℕ → List Field → Reply) → ℕ → Result (List Field) ℕ → Reply
fields_with next place (Ok fields) = next place fields
fields_with next place (Err left) = bad place

-- RowDescription with one field
abbrev pub snapshot_column : ℕ → ℕ → List ℕ → Reply
snapshot_column place kind payload = if kind == 84 then fields_with one_column place (whole row_description payload) else bad place

abbrev pub of_table : ℕ → Field → Bool
of_table oid f = f.table == oid && f.format == 0

-- the table's OID, where there is a field, and all fields are of one table and in the format for text
abbrev pub table_of : List Field → Option ℕ
table_of [] = None
table_of (f ∷ fs) = if not (f.table == 0) && list_all (of_table f.table) (f ∷ fs) then Some f.table else None

abbrev pub column_of : Field → Column
column_of f = record { name = f.name; oid = f.oid }

abbrev pub columns_in : ℕ → List Field → Option ℕ → Reply
columns_in place fields None = bad place
columns_in place fields (Some oid) = if list_all is_name fields then Ok (Some (Described oid (map column_of fields))) else Err (NotUtf8 place)

abbrev pub described : ℕ → List Field → Reply
described place fields = columns_in place fields (table_of fields)

-- RowDescription of a table
abbrev pub table_columns : ℕ → ℕ → List ℕ → Reply
table_columns place kind payload = if kind == 84 then fields_with described place (whole row_description payload) else bad place

abbrev pub is_text : Sent → Bool
is_text Null = Bool.true
is_text (Chars text) = is_utf8 text

abbrev pub value_of : Sent → values.Value
value_of Null = value.Null
value_of (Chars text) = value.Words text

abbrev pub row_with : ℕ → Result (List Sent) ℕ → Reply
row_with place (Ok sent) = if list_all is_text sent then Ok (Some (Row (map value_of sent))) else Err (NotUtf8 place)
row_with place (Err left) = bad place

-- DataRow of a table, or CommandComplete
abbrev pub table_row : ℕ → ℕ → List ℕ → Reply
table_row place kind payload = if kind == 68 then row_with place (whole data_row payload) else completed place kind payload

abbrev pub text_with : ℕ → Result (List Sent) ℕ → Reply
text_with place (Ok (Chars text ∷ [])) = if is_utf8 text then Ok (Some (Shown text)) else Err (NotUtf8 place)
text_with place (Ok (Null ∷ [])) = bad place
text_with place (Ok (_ ∷ _ ∷ _)) = bad place
text_with place (Ok []) = bad place
text_with place (Err left) = bad place

-- DataRow with one value, which is not null
abbrev pub snapshot_text : ℕ → ℕ → List ℕ → Reply
snapshot_text place kind payload = if kind == 68 then text_with place (whole data_row payload) else bad place

-- CopyBothResponse
abbrev pub copy_both : ℕ → ℕ → List ℕ → Reply
copy_both place kind payload = acknowledged_if (kind == 87 && is_copy_both payload) place

-- ---- what a message tells

abbrev pub reply_to : Wanted → ℕ → ℕ → List ℕ → Reply
reply_to Authentication = authentication
reply_to Started = started
reply_to Completed = completed
reply_to Ready = ready
reply_to SnapshotColumn = snapshot_column
reply_to SnapshotText = snapshot_text
reply_to TableColumns = table_columns
reply_to TableRow = table_row
reply_to CopyBoth = copy_both

-- ParameterStatus S and NoticeResponse N may stand anywhere and are passed over, and ErrorResponse E is refused anywhere.
unfoldable pub reply : Wanted → ℕ → ℕ → List ℕ → Reply
reply wanted place kind payload =
    if kind == 83 || kind == 78 then Ok None
    else if kind == 69 then Err (error_response place payload)
    else reply_to wanted place kind payload
