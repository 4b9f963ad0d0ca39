-- What a record of a script asks for, by its kind byte and its payload.
use Rattle.std.specs.Prelude.{◌≡◌, ℕ, Bool, true, false, ◌==◌, if◌then◌else◌, List, length, Option, None, Some, Result, Ok, Err}
use Rattle.std.specs.Option.{option_map, option_and_then}
use Rattle.std.specs.Int.{w32, w64}
use Rattle.byte_format.specs.Format.{Read, ◌>>=◌, number_at, byte_at}
use Rattle.core_events.specs.declared.event.Event.{Event}
use Rattle.core_events.specs.declared.event.Event.TheVariants as events
use Rattle.script.specs.declared.fault.RecordError.{RecordError}
use Rattle.script.specs.declared.fault.RecordError.TheVariants.{UnknownKind, BadPayload, OutOfMemory}
use Rattle.script.specs.declared.record.Record.{Record}
use Rattle.script.specs.declared.record.Record.TheVariants.{Table, Start, Brings, End}
use Rattle.script.specs.Tables.{placed_at, declared}
use Rattle.script.specs.Snapshots.{snapshot_at, start_at}

-- one record of a script
pub record Item : Type 0 where
  pub kind : ℕ
  pub payload : List ℕ

-- what all of the bytes hold
abbrev pub all_of : {A : Type 0} → Read A → Option A
all_of (Ok x) = if length x.1 == 0 then Some x.0 else None
all_of (Err left) = None

abbrev pub read_or_bad : {A : Type 0} → Option A → Result A RecordError
read_or_bad (Some x) = Ok x
read_or_bad None = Err BadPayload

-- a reader answers by this, or wants memory
abbrev pub Answers : {A : Type 0} → Result A RecordError → Result A RecordError → Type 0
Answers (Ok x) wanted = wanted ≡ Ok x
Answers (Err OutOfMemory) wanted = Unit {0}
Answers (Err UnknownKind) wanted = wanted ≡ Err UnknownKind
Answers (Err BadPayload) wanted = wanted ≡ Err BadPayload

-- one Int32, two of them, one Int64
abbrev pub number_in : List ℕ → Option ℕ
number_in payload = all_of (number_at w32 payload)

abbrev pub pair_at : List ℕ → Read (ℕ × ℕ)
pair_at bytes = number_at w32 bytes >>= λ a. number_at w32 a.1 >>= λ b. Ok ((a.0, b.0), b.1)

abbrev pub pair_in : List ℕ → Option (ℕ × ℕ)
pair_in payload = all_of (pair_at payload)

abbrev pub long_in : List ℕ → Option ℕ
long_in payload = all_of (number_at w64 payload)

-- Int32 exchange, and bytes
abbrev pub piece_by : Read ℕ → Option Event
piece_by (Ok x) = Some (events.SnapBytes x.0 x.1)
piece_by (Err left) = None

-- an Int8: 0 the connection ended, 1 it failed
abbrev pub failed_by : ℕ → Option Bool
failed_by b = if b == 0 then Some false else if b == 1 then Some true else None

abbrev pub end_at : List ℕ → Read (ℕ × ℕ)
end_at bytes = number_at w32 bytes >>= λ exchange. byte_at exchange.1 >>= λ b. Ok ((exchange.0, b.0), b.1)

abbrev pub end_by : ℕ × ℕ → Option Event
end_by x = option_map (events.SnapEnd x.0) (failed_by x.1)

-- no bytes
abbrev pub if_empty : {A : Type 0} → List ℕ → A → Option A
if_empty payload x = if length payload == 0 then Some x else None

abbrev pub table_in : List ℕ → Option Record
table_in payload = option_map Table (option_and_then declared (all_of (placed_at payload)))

abbrev pub start_in : List ℕ → Option Record
start_in payload = option_map Start (all_of (start_at payload))

-- the event of a kind that brings numbers alone
unfoldable pub numbers_of : ℕ → List ℕ → Result Event RecordError
numbers_of kind payload =
    if kind == 83 then read_or_bad (option_map events.SendNext (number_in payload))
    else if kind == 82 then read_or_bad (option_map (λ x. events.Receive x.0 x.1) (pair_in payload))
    else if kind == 87 then read_or_bad (option_map events.Watch (number_in payload))
    else if kind == 85 then read_or_bad (option_map events.Remove (long_in payload))
    else if kind == 75 then read_or_bad (option_map events.Moment (long_in payload))
    else Err UnknownKind

-- the event of a kind that brings one; unknown where the kind does not
unfoldable pub event_of : ℕ → List ℕ → Result Event RecordError
event_of kind payload =
    if kind == 79 then read_or_bad (if_empty payload events.Anew)
    else if kind == 77 then Ok (events.Message payload)
    else if kind == 70 then Ok (events.FrameBytes payload)
    else if kind == 81 then Ok (events.RequestHead payload)
    else if kind == 68 then read_or_bad (piece_by (number_at w32 payload))
    else if kind == 71 then read_or_bad (all_of (snapshot_at payload))
    else if kind == 88 then read_or_bad (option_and_then end_by (all_of (end_at payload)))
    else if kind == 78 then Ok (events.NewClient payload)
    else numbers_of kind payload

abbrev pub as_event : Result Event RecordError → Result Record RecordError
as_event (Ok e) = Ok (Brings e)
as_event (Err e) = Err e

-- What a record asks for, or why it is refused whatever stands before it.
unfoldable pub record_of : Item → Result Record RecordError
record_of item =
    if item.kind == 84 then read_or_bad (table_in item.payload)
    else if item.kind == 66 then read_or_bad (start_in item.payload)
    else if item.kind == 69 then read_or_bad (if_empty item.payload End)
    else as_event (event_of item.kind item.payload)
