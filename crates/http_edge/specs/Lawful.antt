-- Which replies are lawful: each answer has its cause in what had happened when it was given.
use Rattle.std.specs.Prelude.{◌≡◌, ℕ, ◌+◌, ◌-◌, ◌^◌, Bool, true, false, not, ◌&&◌, ◌||◌, ◌==◌, nat_lt, if◌then◌else◌, List, [], length, take, Option, None, Some, slice_get}
use Rattle.std.specs.Option.{option_map, option_or}
use Rattle.shape_base.specs.declared.cause.Cause.TheVariants.{SnapshotFailed}
use Rattle.shape_base.specs.declared.handle.Handle.{Handle}
use Rattle.shape_base.specs.declared.ask.Named.{Named}
use Rattle.shape_base.specs.declared.ask.Named.TheVariants.{Absent, Known, Strange}
use Rattle.shape_base.specs.declared.ask.Ask.{Ask}
use Rattle.shape_base.specs.declared.definition.TableDef.{TableDef}
use Rattle.shape_base.specs.declared.served.Served.{Served}
use Rattle.shape_base.specs.declared.reply.Reply.{Reply}
use Rattle.shape_base.specs.declared.registry_event.RegistryEvent.{RegistryEvent}
use Rattle.shape_base.specs.RegistryHistory.{live_registrations, registrations, definition_after, was_registered_under, was_removed, removal_of}
use Rattle.shape_def.specs.declared.faults.DefError.{DefError}
use Rattle.shape_def.specs.declared.faults.DefError.TheVariants as definitions
use Rattle.shape_def.specs.Definition.{refusal_of}
use Rattle.shape_json.specs.declared.control.Control.{Control}
use Rattle.shape_json.specs.declared.control.Control.TheVariants.{Nothing, UpToDate, MustRefetch}
use Rattle.shape_json.specs.Body.{body_text}
use Rattle.shape_json.specs.Page.{Part}
use Rattle.shape_json.specs.Answer.{Answer, Paged, Gone, OffsetAhead, NotYet, Starting, Unregistered, answer_of}
use Rattle.http_edge.specs.declared.error_code.ErrorCode.{ErrorCode}
use Rattle.http_edge.specs.declared.error_code.ErrorCode.TheVariants as codes
use Rattle.http_edge.specs.declared.error_code.Detail.TheVariants as details
use Rattle.http_edge.specs.Refusals.{refusal}
use Rattle.http_edge.specs.World.{World, Given, situation, schema_at}

-- What a request comes to before its handle is looked at: it is refused, or it asks for a part of a table.
pub data Asked : Type 0 where
  Refuses : (code : ErrorCode) → Asked
  AsksFor : (ask : Ask) → Asked

-- ---- the replies that are answers

-- the cursor after one; after 2^64 - 1 comes 0
abbrev pub next_cursor : ℕ → ℕ
next_cursor cursor = if nat_lt (cursor + 1) (2 ^ 64) then cursor + 1 else 0

abbrev pub names_handle : Named → Bool
names_handle Absent = false
names_handle (Known h) = true
names_handle Strange = true

-- A page that ends a closed chunk never changes, so a cache may keep it for a week. A reply to a first request is kept for 5 seconds, since a later one may have to name another handle.
abbrev pub age_of : Ask → Part → ℕ
age_of ask page = if not page.up_to_date && names_handle ask.named then 604800 else 5

abbrev pub control_of : Bool → Control
control_of up_to_date = if up_to_date then UpToDate else Nothing

-- a page of a handle, with a body of that text
abbrev pub page_with : Ask → Handle → Option (List ℕ) → Part → List ℕ → Reply
page_with ask h schema page body = record {
  status = 200;
  handle = Some h;
  offset = Some page.end;
  schema = schema;
  cursor = if page.up_to_date then Some (next_cursor ask.cursor) else None;
  max_age = age_of ask page;
  body = body;
}

-- The reply that is a page.
abbrev pub page_reply : Ask → Handle → Option (List ℕ) → Part → Reply
page_reply ask h schema page = page_with ask h schema page (body_text page.entries (control_of page.up_to_date))

-- The reply where the handle is not live; it names the one that is ready in its place.
abbrev pub conflict_reply : Option Handle → Reply
conflict_reply named = record {
  status = 409;
  handle = named;
  offset = None;
  schema = None;
  cursor = None;
  max_age = 5;
  body = body_text [] MustRefetch;
}

-- The reply that an answer is; none while there is no answer yet.
abbrev pub reply_of : World → Ask → Answer → Option Reply
reply_of w ask (Paged h from page) = Some (page_reply ask h (schema_at w h.number) page)
reply_of w ask (Gone named) = Some (conflict_reply named)
reply_of w ask (OffsetAhead end) = Some (refusal codes.OffsetAhead)
reply_of w ask NotYet = None
reply_of w ask (Starting number) = None
reply_of w ask Unregistered = None

-- ---- refusals of first requests

-- why the request's definition is refused
abbrev pub definition_code : DefError → ErrorCode
definition_code definitions.OutOfMemory = codes.OutOfMemory
definition_code definitions.KeyMissing = codes.SnapshotRefused details.KeyMissing
definition_code (definitions.UnknownColumn atom) = codes.UnknownColumn
definition_code definitions.KeyNotSelected = codes.KeyNotSelected
definition_code (definitions.Syntax place) = codes.WhereSyntax place
definition_code (definitions.TooDeep place) = codes.WhereSyntax place
definition_code (definitions.TypeMismatch atom) = codes.WhereType atom
definition_code (definitions.BadLiteral atom) = codes.WhereType atom

abbrev pub refusal_under : Ask → Option Served → Option TableDef → Option ErrorCode
refusal_under ask None d = None
refusal_under ask (Some served) None = None
refusal_under ask (Some served) (Some d) = option_map definition_code (refusal_of served d ask.columns ask.clause)

-- no more shapes may be registered: as many live as may, or no number is left
abbrev pub refusal_of_limit : World → List RegistryEvent → Option ErrorCode
refusal_of_limit w es = if (length (live_registrations es) == w.start.limit) || (length (registrations es) == 2 ^ 64 - 1)
    then Some (codes.TooManyShapes w.start.limit (length (live_registrations es))) else None

-- Why no shape is registered for a request: its definition is refused over the catalogue's definition of its table, or else no more shapes may be registered.
abbrev pub refusal_to_register : World → List RegistryEvent → Ask → Option ErrorCode
refusal_to_register w es ask = option_or (refusal_under ask (slice_get w.history.tables ask.table) (definition_after w.start.catalog es ask.table)) (refusal_of_limit w es)

-- why a snapshot was refused: its link, its content, its definition, its visibility, or its size
abbrev pub is_of_snapshot : ErrorCode → Bool
is_of_snapshot codes.HeadTooLong = false
is_of_snapshot codes.BadHead = false
is_of_snapshot codes.BodyRefused = false
is_of_snapshot codes.MethodRefused = false
is_of_snapshot codes.PathUnknown = false
is_of_snapshot codes.BadEscape = false
is_of_snapshot codes.RepeatedParameter = false
is_of_snapshot codes.MissingTable = false
is_of_snapshot codes.TableNotServed = false
is_of_snapshot codes.WhereTooLong = false
is_of_snapshot (codes.WhereSyntax place) = false
is_of_snapshot codes.BadOffset = false
is_of_snapshot codes.HandleNeeded = false
is_of_snapshot codes.LiveAtStart = false
is_of_snapshot codes.OffsetAhead = false
is_of_snapshot codes.UnknownColumn = false
is_of_snapshot codes.KeyNotSelected = false
is_of_snapshot (codes.WhereType atom) = false
is_of_snapshot (codes.SnapshotRefused detail) = true
is_of_snapshot codes.SnapshotLink = true
is_of_snapshot codes.SnapshotLost = false
is_of_snapshot codes.DefinitionChanged = true
is_of_snapshot (codes.SnapshotStale last xmax) = true
is_of_snapshot (codes.TooManyShapes limit live) = false
is_of_snapshot (codes.ShapeTooLarge bytes limit) = true
is_of_snapshot codes.OutOfMemory = false

-- the request names no handle, and that number was registered under its identity and removed
pub record HasLost (es : List RegistryEvent) (ask : Ask) (number : ℕ) : Type 0 where
  pub first : ask.named ≡ Absent
  pub under : was_registered_under es ask.identity number ≡ true
  pub removed : was_removed es number ≡ true

-- ---- lawful replies

-- The reply is lawful: it has one of these causes in what had happened when it was given.
pub data IsLawful (w : World) (asked : Asked) (g : Given) : Type 0 where
  -- the request is refused before its handle is looked at
  BeforeHandle : (code : ErrorCode) (is : asked ≡ Refuses code) (gives : g.reply ≡ refusal code) → IsLawful w asked g
  -- it is the answer to the request, late or not
  ByAnswer : (ask : Ask) (late : Bool) (is : asked ≡ AsksFor ask) (gives : reply_of w ask (answer_of (situation w g late) ask) ≡ Some g.reply) → IsLawful w asked g
  -- no handle was named, none was live, and no shape could be registered
  NotRegistered : (ask : Ask) (code : ErrorCode) (is : asked ≡ AsksFor ask) (none : answer_of (situation w g false) ask ≡ Unregistered) (why : refusal_to_register w (take g.seen w.events) ask ≡ Some code) (gives : g.reply ≡ refusal code) → IsLawful w asked g
  -- the snapshot of the number that was registered for it was refused
  BySnapshot : (ask : Ask) (number : ℕ) (code : ErrorCode) (is : asked ≡ AsksFor ask) (lost : HasLost (take g.seen w.events) ask number) (failed : option_map (λ r. r.cause) (removal_of (take g.seen w.events) number) ≡ Some SnapshotFailed) (why : is_of_snapshot code ≡ true) (gives : g.reply ≡ refusal code) → IsLawful w asked g
  -- the number that it waited for was removed
  ByLoss : (ask : Ask) (number : ℕ) (is : asked ≡ AsksFor ask) (lost : HasLost (take g.seen w.events) ask number) (gives : g.reply ≡ refusal codes.SnapshotLost) → IsLawful w asked g
  -- memory was wanted
  WantOfMemory : (gives : g.reply ≡ refusal codes.OutOfMemory) → IsLawful w asked g
