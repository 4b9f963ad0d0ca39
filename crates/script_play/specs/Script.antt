-- What the records of a script are, whatever the core makes of their events: tables, events and an end.
use Rattle.std.specs.Prelude.{ℕ, ◌+◌, Bool, true, false, ◌&&◌, nat_lt, if◌then◌else◌, List, [], ◌∷◌, ◌++◌, length, Result, Ok, Err}
use Rattle.std.specs.List.{list_any}
use Rattle.shape_base.specs.Tables.{same_text}
use Rattle.core_events.specs.declared.event.Event.{Event}
use Rattle.core_events.specs.declared.out.Unfit.{Unfit}
use Rattle.core_events.specs.declared.out.Unfit.TheVariants as unfit
use Rattle.script.specs.declared.fault.RecordError.{RecordError}
use Rattle.script.specs.declared.fault.RecordError.TheVariants as errors
use Rattle.script.specs.declared.record.Record.{Record}
use Rattle.script.specs.declared.record.Record.TheVariants as records
use Rattle.script.specs.declared.rows.StartRows.{StartRows}
use Rattle.script.specs.declared.table.Declaration.{Declaration}
use Rattle.script.specs.Records.{Item, record_of}
use Rattle.script_play.specs.declared.steps.Step.{Step}
use Rattle.script_play.specs.declared.steps.Step.TheVariants.{Declares, Passes, Brings, Ends, Refused}
use Rattle.script_play.specs.declared.cause.ScriptCause.{ScriptCause}
use Rattle.script_play.specs.declared.cause.ScriptCause.TheVariants as causes

-- ---- one record

-- two tables have one schema and name
abbrev pub is_same_table : Declaration → Declaration → Bool
is_same_table t u = same_text t.ns u.ns && same_text t.name u.name

abbrev pub is_declared : List Declaration → Declaration → Bool
is_declared ds t = list_any (λ d. is_same_table d t) ds

-- a table is declared once, and before each record of another kind
abbrev pub declares : List Declaration → Bool → Declaration → Step
declares ds late t = if is_declared ds t then Refused causes.BadPayload else if late then Refused causes.LateTable else Declares t

-- rows at the start are of a declared table, and a replay passes them over
abbrev pub passes_over : List Declaration → StartRows → Step
passes_over ds rows = if nat_lt rows.table (length ds) then Passes else Refused causes.NoTable

abbrev pub step_by : List Declaration → Bool → Result Record RecordError → Step
step_by ds late (Ok (records.Table t)) = declares ds late t
step_by ds late (Ok (records.Start rows)) = passes_over ds rows
step_by ds late (Ok (records.Brings e)) = Brings e
step_by ds late (Ok records.End) = Ends
step_by ds late (Err errors.UnknownKind) = Refused causes.UnknownKind
step_by ds late (Err errors.BadPayload) = Refused causes.BadPayload
-- a definition wants no memory
step_by ds late (Err errors.OutOfMemory) = Refused causes.BadPayload

-- What a record is, by the tables that were declared, and whether a record of another kind came.
unfoldable pub step_of : List Declaration → Bool → Item → Step
step_of ds late item = step_by ds late (record_of item)

-- why a record is refused whose event does not fit
abbrev pub cause_for : Unfit → ScriptCause
cause_for unfit.BadPayload = causes.BadPayload
cause_for unfit.NotASnapshot = causes.NotASnapshot
cause_for unfit.NoClient = causes.NoClient
cause_for unfit.NoExchange = causes.NoExchange
cause_for unfit.NoReply = causes.NoReply
cause_for unfit.WrongAddress = causes.WrongAddress
cause_for unfit.ClockBack = causes.ClockBack

-- ---- all records

-- how records end where each of their events is taken: at the end record, at one that is refused whatever the core makes of those before it, or before either
pub data Tail : Type 0 where
  AtEnd : Tail
  AtRefusal : (place : ℕ) (cause : ScriptCause) → Tail
  Open : Tail

-- A script: the tables that it declares, its events, each with the place of its record's first byte, and how it ends.
pub record Script : Type 0 where
  pub tables : List Declaration
  pub events : List (ℕ × Event)
  pub tail : Tail

abbrev pub without_events : List Declaration → Tail → Script
without_events ds tail = record { tables = ds; events = []; tail = tail }

-- a script with these events before its own
abbrev pub after_events : List (ℕ × Event) → Script → Script
after_events es s = record { tables = s.tables; events = es ++ s.events; tail = s.tail }

abbrev pub by_step : (List Declaration → Bool → Script) → List Declaration → Bool → ℕ → Step → Script
by_step next ds late place (Declares t) = next (ds ++ t ∷ []) late
by_step next ds late place Passes = next ds true
by_step next ds late place (Brings e) = after_events ((place, e) ∷ []) (next ds true)
by_step next ds late place Ends = without_events ds AtEnd
by_step next ds late place (Refused cause) = without_events ds (AtRefusal place cause)

-- the bytes of a record: its kind, four of its length, and its payload
abbrev pub size_of : Item → ℕ
size_of item = 5 + length item.payload

-- the rest of a script from a place on
unfoldable pub script_from : List Declaration → Bool → ℕ → List Item → Script
script_from ds late place [] = without_events ds Open
script_from ds late place (item ∷ items) = by_step (λ ts later. script_from ts later (place + size_of item) items) ds late place (step_of ds late item)

-- The script of records.
abbrev pub script_of : List Item → Script
script_of items = script_from [] false 0 items
