-- The records of a script as bytes.
use Rattle.std.specs.Prelude.{ℕ, Bool, ◌&&◌, ◌^◌, if◌then◌else◌, List, [], ◌∷◌, length, nat_lt}
use Rattle.core_events.specs.declared.event.Event.{Event}
use Rattle.core_events.specs.declared.event.Event.TheVariants as events
use Rattle.pg_dialogue.specs.declared.login.SnapHead.{SnapHead}
use Rattle.shape_base.specs.declared.value.Value.{Value}
use Rattle.script.specs.declared.record.Record.{Record}
use Rattle.script.specs.declared.record.Record.TheVariants.{Table, Start, Brings, End}
use Rattle.script.specs.declared.rows.StartRows.{StartRows}
use Rattle.script.specs.Records.{Item}
use Rattle.script.specs.Items.{spelled}
use Rattle.script_writing.specs.Parts.{Spelling, ◌&◌, empty, raw, int16, int32, int64, text, short_list, column, rows}
use Rattle.script_writing.specs.Tables.{table}

-- Int32 exchange, String visibility text, Int32 OID, the columns, the rows
abbrev pub snapshot : ℕ → SnapHead → List (List Value) → Spelling
snapshot exchange head table = int32 exchange & text head.vis & int32 head.oid & short_list column head.columns & rows table

-- Int16 table, the rows
abbrev pub start : StartRows → Spelling
start s = int16 s.table & rows s.rows

-- 0 the connection ended, 1 it failed
abbrev pub how : Bool → ℕ
how failed = if failed then 1 else 0

-- Int32 exchange, bytes
abbrev pub piece : ℕ → List ℕ → Spelling
piece exchange bytes = int32 exchange & raw bytes

-- Int32 exchange, Int8 how
abbrev pub end_of : ℕ → Bool → Spelling
end_of exchange failed = int32 exchange & raw (how failed ∷ [])

-- Int32 client, Int32 exchange
abbrev pub pair : ℕ → ℕ → Spelling
pair client exchange = int32 client & int32 exchange

-- what an event's record has behind its length
abbrev pub event_payload : Event → Spelling
event_payload events.Anew = empty
event_payload (events.Message bytes) = raw bytes
event_payload (events.FrameBytes bytes) = raw bytes
event_payload (events.RequestHead bytes) = raw bytes
event_payload (events.SnapBytes exchange bytes) = piece exchange bytes
event_payload (events.Snapshot exchange head table) = snapshot exchange head table
event_payload (events.SnapEnd exchange failed) = end_of exchange failed
event_payload (events.NewClient pairs) = raw pairs
event_payload (events.SendNext client) = int32 client
event_payload (events.Receive client exchange) = pair client exchange
event_payload (events.Watch client) = int32 client
event_payload (events.Remove number) = int64 number
event_payload (events.Moment now) = int64 now

-- the kind byte of an event's record
abbrev pub event_kind : Event → ℕ
event_kind events.Anew = 79
event_kind (events.Message bytes) = 77
event_kind (events.FrameBytes bytes) = 70
event_kind (events.RequestHead bytes) = 81
event_kind (events.SnapBytes exchange bytes) = 68
event_kind (events.Snapshot exchange head table) = 71
event_kind (events.SnapEnd exchange failed) = 88
event_kind (events.NewClient pairs) = 78
event_kind (events.SendNext client) = 83
event_kind (events.Receive client exchange) = 82
event_kind (events.Watch client) = 87
event_kind (events.Remove number) = 85
event_kind (events.Moment now) = 75

abbrev pub payload : Record → Spelling
payload (Table d) = table d
payload (Start s) = start s
payload (Brings e) = event_payload e
payload End = empty

abbrev pub kind : Record → ℕ
kind (Table d) = 84
kind (Start s) = 66
kind (Brings e) = event_kind e
kind End = 69

-- A record: its kind byte, the length of its payload in four bytes, and the payload.
abbrev pub framed : ℕ → Spelling → Spelling
framed kind s = record { bytes = spelled (record { kind = kind; payload = s.bytes }); fits = s.fits && nat_lt (length s.bytes) (2 ^ 32) }

abbrev pub event_spelling : Event → Spelling
event_spelling e = framed (event_kind e) (event_payload e)

abbrev pub record_spelling : Record → Spelling
record_spelling r = framed (kind r) (payload r)

-- the record as a script's reader finds it
abbrev pub item_of : Record → Item
item_of r = record { kind = kind r; payload = (payload r).bytes }
