-- One run of a server over a history of its tables: what ever happens in it, and how much of it had been seen when a reply was given.
use Rattle.std.specs.Prelude.{◌≡◌, ℕ, Bool, true, List, [], take, Option, None, Some, slice_get}
use Rattle.std.specs.Option.{option_map}
use Rattle.shape_base.specs.declared.entry.Entry.{Entry}
use Rattle.shape_base.specs.declared.history.History.{History}
use Rattle.shape_base.specs.declared.registry_event.RegistryEvent.{RegistryEvent}
use Rattle.shape_base.specs.declared.reply.Reply.{Reply}
use Rattle.shape_base.specs.Tables.{Table, IsGoodHistory}
use Rattle.shape_base.specs.Shape.{Knows, IsTest, have_truths}
use Rattle.shape_base.specs.Snapshot.{IsTakenAt}
use Rattle.shape_base.specs.Log.{log_of}
use Rattle.shape_base.specs.RegistryHistory.{RegistryStart, had_ready}
use Rattle.shape_json.specs.Reading.{HaveOffsets}
use Rattle.shape_json.specs.Answer.{Situation}
use Rattle.http_edge.specs.Schema.{schema_text}

-- A shape: what it knows of its definition, its snapshot, and the step of the history that the snapshot shows.
pub record Kept : Type 0 where
  pub knows : Knows
  pub snapshot : Table
  pub step : ℕ

-- One run of a server.
pub record World : Type 0 where
  -- all that happens to the served tables
  pub history : History
  -- what its registry was started with, and all that happens to it
  pub start : RegistryStart
  pub events : List RegistryEvent
  -- the shape of each number that becomes ready
  pub shapes : ℕ → Option Kept
  -- a chunk closes at the entry with which its texts have at least this many bytes
  pub chunk : ℕ

-- A reply, with how many events of the registry had happened when it was given, and how many commits had been shown.
pub record Given : Type 0 where
  pub reply : Reply
  pub seen : ℕ
  pub shown : ℕ

-- the log up to commit n; no entries where there is no shape
abbrev pub log_kept : History → Option Kept → ℕ → List Entry
log_kept h None n = []
log_kept h (Some s) n = log_of h s.knows s.snapshot s.step n

-- The log of a number up to commit n.
abbrev pub log_at : World → ℕ → ℕ → List Entry
log_at w number n = log_kept w.history (w.shapes number) n

-- the situation in which a reply was given
abbrev pub situation : World → Given → Bool → Situation
situation w g late = record { run = w.start.run; events = take g.seen w.events; log = λ number. log_at w number g.shown; late = late; chunk = w.chunk }

-- the schema line of a number's shape
abbrev pub schema_at : World → ℕ → Option (List ℕ)
schema_at w number = option_map (λ (s : Kept). schema_text s.knows) (w.shapes number)

-- A shape of a history: its table is a served one, what it knows meets the laws of a test, its snapshot is taken at its step, each row of that has a truth, and the offsets of its logs have 64 bits.
pub record IsGoodShape (h : History) (s : Kept) : Type 0 where
  pub served : slice_get h.tables s.knows.definition.table ≡ Some s.knows.served
  pub test : IsTest s.knows
  pub honest : IsTakenAt h s.knows.definition s.snapshot s.step
  pub truths : have_truths s.knows s.snapshot ≡ true
  pub offsets : (n : ℕ) → HaveOffsets (log_of h s.knows s.snapshot s.step n)

abbrev pub IsGoodKept : History → Option Kept → Type 0
IsGoodKept h None = ⊥
IsGoodKept h (Some s) = IsGoodShape h s

-- The history is good, and each number that becomes ready has a shape of it.
pub record IsGoodWorld (w : World) : Type 0 where
  pub history : IsGoodHistory w.history
  pub shapes : (number : ℕ) → had_ready w.events number ≡ true → IsGoodKept w.history (w.shapes number)
