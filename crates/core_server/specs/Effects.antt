-- What a commit does to one shape.
use Rattle.std.specs.Prelude.{◌≡◌, ℕ, ◌+◌, ◌-◌, ◌<◌, ◌==◌, ◌≤◌, Bool, true, false, not, if◌then◌else◌, List, [], ◌∷◌, ◌++◌, length, Option, None, Some}
use Rattle.std.specs.Option.{option_and_then}
use Rattle.shape_base.specs.declared.cause.Cause.{Cause}
use Rattle.shape_base.specs.declared.cause.Cause.TheVariants as causes
use Rattle.shape_base.specs.declared.change.Tx.{Tx}
use Rattle.shape_base.specs.declared.definition.TableDef.{TableDef}
use Rattle.shape_base.specs.declared.entry.Entry.{Entry}
use Rattle.shape_base.specs.declared.limits.Limits.{Limits}
use Rattle.shape_base.specs.Tables.{Own, same_def, changes_of}
use Rattle.shape_json.specs.ShapeHistory.{Reader, ShapeEvent, Took, snapshot_in, last_lsn, drop_of, state_after}
use Rattle.shape_state.specs.declared.prepared.Prepared.{Prepared}
use Rattle.shape_state.specs.declared.prepared.Prepared.TheVariants as prepared
use Rattle.shape_state.specs.Standing as shape
use Rattle.shape_state.specs.Answers.{log_bytes}
use Rattle.core_law.specs.Situation.{log_by}
use Rattle.core_law.specs.Steps.{definition_by}
use Rattle.core_server.specs.declared.effect.Effect.{Effect}
use Rattle.core_server.specs.Standing.{Kept, reader_in}

-- why what was prepared drops the shape
abbrev pub cause_of : Prepared → Option Cause
cause_of prepared.Skip = None
cause_of (prepared.Buffer tx) = None
cause_of (prepared.Append written) = None
cause_of (prepared.Drop cause) = Some cause

-- it adds entries to the log, or drops the shape
abbrev pub tells_in : Prepared → Bool
tells_in prepared.Skip = false
tells_in (prepared.Buffer tx) = false
tells_in (prepared.Append written) = not (length written.texts == 0)
tells_in (prepared.Drop cause) = true

-- a change came under another definition
abbrev pub is_changed : Cause → Bool
is_changed (causes.Changed lsn) = true
is_changed (causes.Truncated lsn) = false
is_changed causes.Deleted = false
is_changed (causes.LogFull bytes limit) = false
is_changed (causes.AllLogsFull bytes limit) = false
is_changed (causes.PendingFull bytes limit) = false
is_changed (causes.BadRow lsn column) = false
is_changed causes.SnapshotFailed = false
is_changed causes.NoMemory = false

-- the first definition of changes that is another one
abbrev pub other_definition : TableDef → List Own → Option TableDef
other_definition d [] = None
other_definition d (c ∷ cs) = if same_def c.definition d then other_definition d cs else Some c.definition

-- the new definition of a table, by why the commit drops a shape of it
abbrev pub new_definition : TableDef → Tx → Option Cause → Option TableDef
new_definition d tx None = None
new_definition d tx (Some cause) = if is_changed cause then other_definition d (changes_of d.table tx) else None

-- the log of a shape with these events
abbrev pub log_in : Reader → List ShapeEvent → List Entry
log_in r events = log_by r (snapshot_in events) events

-- The effect of a commit that came to a shape with these events while the other logs had so many bytes: why it drops the shape; the new definition of its table; the bytes of all logs; and whether
-- an answer can tell.
pub record IsEffect (r : Reader) (l : Limits) (events : List ShapeEvent) (tx : Tx) (others : ℕ) (e : Effect) : Type 0 where
  pub cause : e.cause ≡ drop_of r l (events ++ Took tx others ∷ [])
  pub definition : e.definition ≡ option_and_then (definition_by r.knows tx) (drop_of r l (events ++ Took tx others ∷ []))
  pub total : e.total ≡ others + log_bytes (state_after r l (events ++ Took tx others ∷ []))
  pub quiet : e.tells ≡ false → log_in r (events ++ Took tx others ∷ []) ≡ log_in r events
  pub loud : e.tells ≡ true → drop_of r l (events ++ Took tx others ∷ []) ≡ None → log_in r (events ++ Took tx others ∷ []) ≡ log_in r events → ⊥
  pub lives : e.tells ≡ false → drop_of r l (events ++ Took tx others ∷ []) ≡ None

-- the events are those of a shape that is not dropped, the commit is after them, and its log is among all
pub record MayTake (k : Kept) (events : List ShapeEvent) (tx : Tx) (total : ℕ) : Type 0 where
  pub stands : shape.Stands (reader_in k) k.state events
  pub lives : drop_of (reader_in k) k.state.limits events ≡ None
  pub later : last_lsn events < tx.lsn
  pub among : log_bytes (state_after (reader_in k) k.state.limits events) ≤ total

-- the bytes of the other logs
abbrev pub others_of : Kept → List ShapeEvent → ℕ → ℕ
others_of k events total = total - log_bytes (state_after (reader_in k) k.state.limits events)

-- A shape took a commit: it stands for the events with it.
pub record HasTaken (old new : Kept) (events : List ShapeEvent) (tx : Tx) (total : ℕ) (e : Effect) : Type 0 where
  pub effect : IsEffect (reader_in old) old.state.limits events tx (others_of old events total) e
  pub stands : shape.Stands (reader_in old) new.state (events ++ Took tx (others_of old events total) ∷ [])
